use Rattle.std.proofs.Common.{ap, rules}
use Rattle.row_ops.specs.Projecting.{projected_of}
use Rattle.query_run.proofs.ReadCalls.{views}
use Rattle.query_run.proofs.reading.projected.Goals as goal

pub returns-clause-runs : goal.returns-clause-runs
returns-clause-runs g c =
    let S = g.S.GraphStore in
    let a = c.args in
    views S.stands S.caller S.alone S.running g.met.S.GraphStore.legal (λ w. projected_of w a.table a.projection.now)
    a.access.now.txn.now.start a.store.now _ c.new-view.result c.project.new.graph c.project.result c.or_stop.result
    c.new-view.ensures.store (ap (λ t. t.start) c.new-view.ensures.txn) c.new-view.ensures.when c.project.ensures c.or_stop.ensures (search rules)
