use Rattle.version_chain.proofs.Changes.{after_front}
use Rattle.version_chain.proofs.chain.Chain.version_at.Goals as goal

pub returns : goal.returns
returns g c =
    let front = after_front c.args.t c.count_after-count.result c.self.inside.entries.items c.self.invariant.in_order c.count_after-count.ensures.first in
    rw (← c.self.view_is, ← front) c.undo_first.ensures
