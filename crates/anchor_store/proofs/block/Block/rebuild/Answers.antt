use Rattle.std.proofs.Common.{length, ap, arith}
use Rattle.anchor_store.specs.Blocks.{BlockParts}
use Rattle.anchor_store.proofs.Later.{later_take-le}
use Rattle.anchor_store.proofs.block.Block.rebuild.Goals as goal

pub returns-in_err-apply-clause-bound : goal.returns-in_err-apply-clause-bound
returns-in_err-apply-clause-bound g c =
    let seen = ap (λ (b : BlockParts _ _). length b.deltas) c.self.view_is in
    let items = c.as_slice-dated-items.result.now in
    omega (arith, seen, ap length c.as_slice-dated-items.ensures, c.in_err-apply.ensures.not_counted, later_take-le c.args.t c.loop-dated.dated-index items, c.loop-dated.invariant.steps)

pub returns-clause-bound : goal.returns-clause-bound
returns-clause-bound g c =
    let seen = ap (λ (b : BlockParts _ _). length b.deltas) c.self.view_is in
    let items = c.as_slice-dated-items.result.now in
    omega (arith, seen, ap length c.as_slice-dated-items.ensures, later_take-le c.args.t c.loop-dated.dated-index items, c.loop-dated.invariant.steps)
