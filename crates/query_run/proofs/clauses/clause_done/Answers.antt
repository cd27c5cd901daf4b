use Rattle.std.proofs.Common.{subst, sym}
use Rattle.pattern_match.specs.Kept.{matched_table}
use Rattle.query_run.specs.Denoted.{clause_part}
use Rattle.query_run.specs.Parts.{found}
use Rattle.query_run.specs.Running.{Runs}
use Rattle.query_run.proofs.clauses.clause_done.Goals as goal

pub returns-in-Match-clause-runs : goal.returns-in-Match-clause-runs
returns-in-Match-clause-runs g c =
    let S = g.S.GraphStore in
    let a = c.args in
    let start = a.access.now.txn.now.start in
    subst (λ cl. Runs S.stands S.caller S.alone start (clause_part a.table cl) a.store.now c.matched.new.store c.matched.result) (sym c.in-Match.is)
    (subst (λ t. Runs S.stands S.caller S.alone start (found (λ w. matched_table w t c.in-Match.clause)) a.store.now c.matched.new.store c.matched.result)
    c.as_slice.ensures c.matched.ensures.runs)

pub returns-in-Unwind-clause-runs : goal.returns-in-Unwind-clause-runs
returns-in-Unwind-clause-runs g c =
    let S = g.S.GraphStore in
    let a = c.args in
    subst (λ cl. Runs S.stands S.caller S.alone a.access.now.txn.now.start (clause_part a.table cl) a.store.now c.unwound.new.store c.unwound.result) (sym c.in-Unwind.is) c.unwound.ensures.runs

pub returns-in-Update-clause-runs : goal.returns-in-Update-clause-runs
returns-in-Update-clause-runs g c =
    let S = g.S.GraphStore in
    let a = c.args in
    subst (λ cl. Runs S.stands S.caller S.alone a.access.now.txn.now.start (clause_part a.table cl) a.store.now c.update_done.new.store c.update_done.result) (sym c.in-Update.is) c.update_done.ensures.runs
