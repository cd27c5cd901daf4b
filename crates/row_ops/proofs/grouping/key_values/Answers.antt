use Rattle.std.specs.Option.{option_copied}
use Rattle.row_ops.proofs.Moved.{moved}
use Rattle.row_ops.proofs.PairLemmas.{keys_next}
use Rattle.row_ops.proofs.grouping.key_values.Goals as goal

pub loop-place-preserved : goal.loop-place-preserved
loop-place-preserved c =
    moved _ _ _ _ _ _ c.in_ok-values.ensures
    (keys_next c.args.items.now c.args.cells.now c.loop-place.place c.index-items-place.result (option_copied c.get.result) c.loop-place-test.true c.index-items-place.is c.get.ensures.value)
    c.loop-place.invariant
