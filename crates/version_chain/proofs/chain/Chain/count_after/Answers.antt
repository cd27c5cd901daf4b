use Rattle.version_chain.proofs.Changes.{after_front}
use Rattle.version_chain.proofs.chain.Chain.count_after.Goals as goal

pub returns-clause-first : goal.returns-clause-first
returns-clause-first g c =
    rw (← c.self.view_is) (after_front c.args.t c.count_after.result c.self.inside.entries.items c.self.invariant.in_order c.count_after.ensures.first)
