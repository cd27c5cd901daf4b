use Rattle.std.proofs.Common.{ap, rules}
use Rattle.write_ops.specs.Creating.{create_of}
use Rattle.query_run.proofs.ReadCalls.{views}
use Rattle.query_run.proofs.reading.created.Goals as goal

pub returns-clause-runs : goal.returns-clause-runs
returns-clause-runs g c =
    let S = g.S.GraphStore in
    let a = c.args in
    views S.stands S.caller S.alone S.running g.met.S.GraphStore.legal (λ w. create_of w a.patterns.now a.table.now)
    a.access.now.txn.now.start a.store.now _ c.new-view.result c.create.new.graph c.create.result c.or_stop.result
    c.new-view.ensures.store (ap (λ t. t.start) c.new-view.ensures.txn) c.new-view.ensures.when c.create.ensures c.or_stop.ensures (search rules)
