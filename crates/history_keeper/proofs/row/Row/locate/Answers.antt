use Rattle.std.proofs.Common.{◌≡◌, ◌+◌, ◌-◌, ◌/◌, ◌<◌, List, length, map, get_or, sym, ap, subst, ◌∙◌, arith}
use Rattle.std.specs.Arc.{arc_value}
use Rattle.std.proofs.lemmas.List.{length-map}
use Rattle.anchor_store.specs.Blocks.{BlockParts}
use Rattle.history_keeper.specs.Rows.{AreInOrder, RowParts}
use Rattle.history_keeper.proofs.Finding.{located_at, none_up_to, read_block, some_at}
use Rattle.history_keeper.proofs.row.Row.locate.Goals as goal

pub loop-low-preserved-then-newest_stamp-t : goal.loop-low-preserved-then-newest_stamp-t
loop-low-preserved-then-newest_stamp-t g c =
    let blocks = c.args.self.now.blocks in
    let items = c.self.inside.blocks.items in
    let seen : map arc_value items ≡ blocks = ap (λ (r : RowParts _ _). r.blocks) c.self.view_is in
    let order : AreInOrder blocks = subst (λ (bs : List (BlockParts _ _)). AreInOrder bs) seen c.self.invariant in
    let m = c.loop-low.low + (c.loop-low.high - c.loop-low.low) / 2 in
    let b = c.deref.result.now in
    let within : m < length blocks = omega (arith, c.loop-low.invariant.within, c.loop-low-test.true) in
    let within_items : m < length items = omega (arith, length-map items arc_value, ap length seen) in
    let here : b ≡ get_or blocks m b = read_block arc_value items blocks m c.index.result.now b seen within_items c.index.ensures c.deref.ensures in
    record {
      ends = omega (arith, c.loop-low-test.true);
      within = c.loop-low.invariant.within;
      before = none_up_to c.args.t c.newest_stamp.result blocks m b order within here c.newest_stamp.ensures.first c.newest_stamp.ensures.greatest c.if-newest_stamp-t.true;
      at = c.loop-low.invariant.at;
    }

pub loop-low-preserved : goal.loop-low-preserved
loop-low-preserved g c =
    let blocks = c.args.self.now.blocks in
    let items = c.self.inside.blocks.items in
    let seen : map arc_value items ≡ blocks = ap (λ (r : RowParts _ _). r.blocks) c.self.view_is in
    let m = c.loop-low.low + (c.loop-low.high - c.loop-low.low) / 2 in
    let b = c.deref.result.now in
    let within : m < length blocks = omega (arith, c.loop-low.invariant.within, c.loop-low-test.true) in
    let within_items : m < length items = omega (arith, length-map items arc_value, ap length seen) in
    let here : b ≡ get_or blocks m b = read_block arc_value items blocks m c.index.result.now b seen within_items c.index.ensures c.deref.ensures in
    record {
      ends = omega arith;
      within = omega arith;
      before = c.loop-low.invariant.before;
      at = some_at c.args.t c.newest_stamp.result blocks m b here c.newest_stamp.ensures.first c.if-newest_stamp-t.false;
    }

pub returns-clause-value : goal.returns-clause-value
returns-clause-value g c =
    let blocks = c.args.self.now.blocks in
    let same : c.loop-low.high ≡ c.loop-low.low = omega (arith, c.loop-low-test.false, c.loop-low.invariant.ends) in
    c.block.ensures ∙ sym (located_at c.args.t c.loop-low.low blocks (omega (arith, c.loop-low.invariant.within)) c.loop-low.invariant.before (rw (← same) c.loop-low.invariant.at))
