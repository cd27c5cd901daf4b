use Rattle.version_chain.proofs.Changes.{cut_rest, kept_front}
use Rattle.version_chain.proofs.chain.Chain.tail_below.Goals as goal

pub returns-clause-object : goal.returns-clause-object
returns-clause-object g c =
    let front = kept_front c.args.mark c.count_not_before-count.result c.self.inside.entries.items c.self.invariant.in_order c.count_not_before-count.ensures.first in
    rw (← c.self.view_is, ← front) c.in_ok-newest.ensures

pub returns-clause-deltas : goal.returns-clause-deltas
returns-clause-deltas g c =
    let rest = cut_rest c.args.mark c.count_not_before-count.result c.self.inside.entries.items c.self.invariant.in_order c.count_not_before-count.ensures.first in
    rw (← c.self.view_is, ← rest) c.in_ok-deltas.ensures
