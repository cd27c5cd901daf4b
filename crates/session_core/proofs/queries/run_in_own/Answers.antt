use Rattle.std.proofs.Common.{Ok, Err}
use Rattle.cypher_check.specs.Answer.{query_of}
use Rattle.session_core.proofs.Acting.{follows, says_so}
use Rattle.session_core.specs.Asking.{Runs, RunsOutside, ToldOutside}
use Rattle.session_core.specs.Says.{Then}
use Rattle.session_core.proofs.queries.run_in_own.Goals as goal

pub returns-in-Ok-clause-says : goal.returns-in-Ok-clause-says
returns-in-Ok-clause-says g c =
    let S = g.S.GraphStore in
    let q = query_of c.args.checked.now in
    let start = c.args.txn.start in
    let result = Ok c.in-Ok.rows in
    let a = c.commit_rows.result in
    let old = c.args.store.now in
    let mid = c.evaluate.new.store in
    let new = c.commit_rows.new.store in
    says_so S.stands S.caller S.alone (Then (Runs q start result) (ToldOutside a result)) (RunsOutside q a start) old new
    (λ n s es later x. record { result = result; says = x })
    (follows S.stands S.caller S.alone (Runs q start result) (ToldOutside a result) old mid new
    c.in-Ok.ensures.says
    c.commit_rows.ensures.says)

pub returns-in-Err-clause-says : goal.returns-in-Err-clause-says
returns-in-Err-clause-says g c =
    let S = g.S.GraphStore in
    let q = query_of c.args.checked.now in
    let start = c.args.txn.start in
    let result = Err c.in-Err.why in
    let a = c.stopped_in_own.result in
    let old = c.args.store.now in
    let mid = c.evaluate.new.store in
    let new = c.stopped_in_own.new.store in
    says_so S.stands S.caller S.alone (Then (Runs q start result) (ToldOutside a result)) (RunsOutside q a start) old new
    (λ n s es later x. record { result = result; says = x })
    (follows S.stands S.caller S.alone (Runs q start result) (ToldOutside a result) old mid new
    c.in-Err.ensures.says
    c.stopped_in_own.ensures.says)
