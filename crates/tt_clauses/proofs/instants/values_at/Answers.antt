use Rattle.std.proofs.Common.{ap, rules}
use Rattle.pattern_match.specs.Kept.{columns}
use Rattle.tt_clauses.specs.Values.{values_kept}
use Rattle.tt_clauses.proofs.Recalled.{viewed}
use Rattle.tt_clauses.proofs.instants.values_at.Goals as goal

pub returns-clause-tells : goal.returns-clause-tells
returns-clause-tells g c =
    let S = g.S.GraphStore in
    let a = c.args in
    let j = a.join.now in
    viewed S.stands S.caller S.alone g.met.S.GraphStore.legal S.running (λ w. values_kept w j.filter.now j.items.now (columns j.plan.now.gives a.tuple.now))
    a.t a.access.now.txn.now.start a.store.now _ c.new-view.result c.values_kept.new.graph c.values_kept.result
    c.new-view.ensures.store (ap (λ t. t.start) c.new-view.ensures.txn) c.new-view.ensures.when c.requires c.values_kept.ensures (search rules)
