use Rattle.std.proofs.Common.{Ok, ap, rules}
use Rattle.pattern_match.specs.Tuples.{tuples_for}
use Rattle.tt_clauses.specs.Seen.{no_tuple, with_tuples}
use Rattle.tt_clauses.proofs.Recalled.{viewed}
use Rattle.tt_clauses.proofs.instants.matched_at.Goals as goal

pub returns-clause-tells : goal.returns-clause-tells
returns-clause-tells g c =
    let S = g.S.GraphStore in
    let a = c.args in
    viewed S.stands S.caller S.alone g.met.S.GraphStore.legal S.running (λ w. Ok (with_tuples no_tuple (tuples_for w a.plan.now.steps)))
    a.t a.access.now.txn.now.start a.store.now _ c.new-view.result c.matched.new.graph c.matched.result
    c.new-view.ensures.store (ap (λ t. t.start) c.new-view.ensures.txn) c.new-view.ensures.when c.requires c.matched.ensures (search rules)
