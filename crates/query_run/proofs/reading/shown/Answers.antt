use Rattle.std.proofs.Common.{[], ap, rules}
use Rattle.query_run.specs.Shown.{rows_shown}
use Rattle.query_run.proofs.ReadCalls.{views}
use Rattle.query_run.proofs.reading.shown.Goals as goal

pub returns-clause-runs : goal.returns-clause-runs
returns-clause-runs g c =
    let S = g.S.GraphStore in
    let a = c.args in
    views S.stands S.caller S.alone S.running g.met.S.GraphStore.legal (λ w. rows_shown w [] a.table.now)
    a.access.now.txn.now.start a.store.now _ c.new-view.result c.rows_shown.new.graph c.rows_shown.result c.or_stop.result
    c.new-view.ensures.store (ap (λ t. t.start) c.new-view.ensures.txn) c.new-view.ensures.when c.rows_shown.ensures c.or_stop.ensures (search rules)
