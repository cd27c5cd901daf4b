use Rattle.std.proofs.Common.{subst, sym}
use Rattle.query_run.specs.Denoted.{returned_part}
use Rattle.query_run.specs.Running.{Runs}
use Rattle.query_run.proofs.running.returned.Goals as goal

pub returns-in-Some-clause-runs : goal.returns-in-Some-clause-runs
returns-in-Some-clause-runs g c =
    let S = g.S.GraphStore in
    let a = c.args in
    subst (λ o. Runs S.stands S.caller S.alone a.access.now.txn.now.start (returned_part o a.table) a.store.now c.rows_returned.new.store c.rows_returned.result) (sym c.in-Some.is) c.rows_returned.ensures.runs
