use Rattle.std.proofs.Common.{length, ap, arith}
use Rattle.std.specs.Arc.{arc_value}
use Rattle.anchor_store.specs.Blocks.{BlockParts, staying}
use Rattle.history_keeper.specs.Counted.{delta_count}
use Rattle.history_keeper.proofs.Stays.{newest-deltas}
use Rattle.history_keeper.proofs.row.Row.leaving.Goals as goal

pub returns-in-Some-clause-deltas : goal.returns-in-Some-clause-deltas
returns-in-Some-clause-deltas g c =
    let blocks = c.args.self.now.blocks in
    let newest = newest-deltas blocks (arc_value c.in-Some.block.now) c.in-Some.ensures in
    let same = ap (λ (b : BlockParts _ _). length b.deltas) c.deref.ensures in
    let replaced = ap (λ r. delta_count (staying r blocks)) c.if-not-replaces.false in
    omega (arith, c.len.ensures.value, same, replaced, newest)
