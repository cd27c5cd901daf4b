use Rattle.std.proofs.Common.{arith}
use Rattle.version_chain.proofs.Changes.{open_count-le, pushed}
use Rattle.version_chain.proofs.chain.Chain.push_reserved.Goals as goal

pub overflow_add-self : goal.overflow_add-self
overflow_add-self g c =
    omega (arith, open_count-le c.self.inside.open_count c.self.inside.entries.items c.self.invariant, c.push_front_reserved.ensures.len, c.push_front_reserved.new.self.small)

pub invariant_of-self : goal.invariant_of-self
invariant_of-self g c =
    rw c.push_front_reserved.ensures.items (pushed c.args.delta c.self.inside.open_count c.self.inside.entries.items c.self.invariant)
