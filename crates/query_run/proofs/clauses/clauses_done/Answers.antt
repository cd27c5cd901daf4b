use Rattle.std.proofs.Common.{◌+◌, drop, refl, subst, ◌∙◌}
use Rattle.query_run.specs.Denoted.{clause_part, clauses_part}
use Rattle.query_run.specs.Running.{Goes}
use Rattle.query_run.proofs.Loops.{head_is}
use Rattle.query_run.proofs.Moves.{begins, errs, goes, stops}
use Rattle.query_run.proofs.clauses.clauses_done.Goals as goal

pub loop-clause-init : goal.loop-clause-init
loop-clause-init g c =
    let S = g.S.GraphStore in
    let a = c.args in
    (begins S.stands S.caller S.alone a.access.now.txn.now.start (clauses_part a.clauses.now a.table) a.store.now, refl)

pub returns-in_err-table-clause-runs : goal.returns-in_err-table-clause-runs
returns-in_err-table-clause-runs g c =
    let S = g.S.GraphStore in
    let a = c.args in
    let l = c.loop-clause in
    let it = c.clause-item.result in
    let start = a.access.now.txn.now.start in
    let whole = clauses_part a.clauses.now a.table in
    let why = c.in_err-table.field-0.0 in
    errs S.stands S.caller S.alone start whole a.store.now c.clause_done.new.store c.from_residual.result why c.from_residual.ensures.1
    (stops S.stands S.caller S.alone start whole (clause_part l.table it) (clauses_part (drop (l.clause-index + 1) a.clauses.now)) why a.store.now l.store c.clause_done.new.store
    (subst (λ cs. Goes S.stands S.caller S.alone start whole (clauses_part cs l.table) a.store.now l.store)
    (head_is a.clauses.now l.clause-index it c.loop-clause-test.true c.clause-item.is) l.invariant.0)
    c.in_err-table.ensures.runs)

pub loop-clause-preserved : goal.loop-clause-preserved
loop-clause-preserved g c =
    let S = g.S.GraphStore in
    let a = c.args in
    let l = c.loop-clause in
    let it = c.clause-item.result in
    let start = a.access.now.txn.now.start in
    let whole = clauses_part a.clauses.now a.table in (
      goes S.stands S.caller S.alone start whole (clause_part l.table it) (clauses_part (drop (l.clause-index + 1) a.clauses.now)) c.in_ok-table.table a.store.now l.store c.clause_done.new.store
          (subst (λ cs. Goes S.stands S.caller S.alone start whole (clauses_part cs l.table) a.store.now l.store)
          (head_is a.clauses.now l.clause-index it c.loop-clause-test.true c.clause-item.is) l.invariant.0)
          c.in_ok-table.ensures.runs,
      c.clause_done.ensures.stays ∙ l.invariant.1,
    )
