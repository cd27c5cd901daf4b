use Rattle.std.proofs.Common.{◌<◌, All, arith, subst, sym}
use Rattle.version_chain.specs.Parts.{Entries, timestamps_of}
use Rattle.version_chain.proofs.Changes.{open_count-le, stamped_front, stamped_chain}
use Rattle.version_chain.proofs.chain.Chain.stamp.Goals as goal

pub stamp_first-requires : goal.stamp_first-requires
stamp_first-requires g c =
    omega (arith, open_count-le c.self.inside.open_count c.self.inside.entries.items c.self.invariant)

pub invariant_of-self : goal.invariant_of-self
invariant_of-self g c =
    let es = c.self.inside.entries.items in
    let n = c.self.inside.open_count in
    let above : All (λ older. older < c.args.ts) (timestamps_of es) = subst (λ (v : Entries _). All (λ older. older < c.args.ts) (timestamps_of v.entries)) (sym c.self.view_is) c.requires in
    stamped_chain c.args.ts n es _ c.self.invariant above (stamped_front c.args.ts n es _ c.self.invariant c.stamp_first.ensures.items)

pub returns : goal.returns
returns g c =
    rw (← c.self.view_is) (stamped_front c.args.ts c.self.inside.open_count c.self.inside.entries.items _ c.self.invariant c.stamp_first.ensures.items)
