use Rattle.std.proofs.Common.{ap, rules}
use Rattle.pattern_match.specs.Kept.{matched_table}
use Rattle.query_run.proofs.ReadCalls.{views}
use Rattle.query_run.proofs.reading.matched.Goals as goal

pub returns-clause-runs : goal.returns-clause-runs
returns-clause-runs g c =
    let S = g.S.GraphStore in
    let a = c.args in
    views S.stands S.caller S.alone S.running g.met.S.GraphStore.legal (λ w. matched_table w a.table.now a.clause.now)
    a.access.now.txn.now.start a.store.now _ c.new-view.result c.match_table.new.graph c.match_table.result c.or_stop.result
    c.new-view.ensures.store (ap (λ t. t.start) c.new-view.ensures.txn) c.new-view.ensures.when c.match_table.ensures c.or_stop.ensures (search rules)
