use Rattle.std.proofs.Common.{[], subst, sym}
use Rattle.query_run.specs.Parts.{given}
use Rattle.query_run.specs.Running.{Goes}
use Rattle.query_run.proofs.Moves.{begins}
use Rattle.query_run.proofs.running.no_rows.Goals as goal

pub returns-clause-runs : goal.returns-clause-runs
returns-clause-runs g c =
    let S = g.S.GraphStore in
    let a = c.args in
    let start = a.access.now.txn.now.start in
    subst (λ rows. Goes S.stands S.caller S.alone start (given []) (given rows) a.store.now a.store.now) (sym c.new.ensures) (begins S.stands S.caller S.alone start (given []) a.store.now)
