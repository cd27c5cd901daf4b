use Rattle.std.proofs.Common.{arith, ◌∙◌}
use Rattle.version_chain.proofs.Changes.{cut_chain, cut_number, kept_front}
use Rattle.version_chain.proofs.chain.Chain.cut_below.Goals as goal

pub invariant_of-self : goal.invariant_of-self
invariant_of-self g c =
    cut_chain c.args.mark c.count_not_before-kept.result c.self.inside.open_count c.self.inside.entries.items _ c.self.invariant c.count_not_before-kept.ensures.first c.truncate.ensures.items

pub returns-clause-kept : goal.returns-clause-kept
returns-clause-kept g c =
    rw (← c.self.view_is) (c.truncate.ensures.items ∙ kept_front c.args.mark c.count_not_before-kept.result c.self.inside.entries.items c.self.invariant.in_order c.count_not_before-kept.ensures.first)

pub returns-clause-number : goal.returns-clause-number
returns-clause-number g c =
    let number = cut_number c.args.mark c.count_not_before-kept.result c.self.inside.entries.items c.self.invariant.in_order c.count_not_before-kept.ensures.first in
    rw (← c.self.view_is) (omega (arith, number))
