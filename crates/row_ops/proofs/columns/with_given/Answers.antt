use Rattle.std.specs.Option.{option_copied}
use Rattle.row_ops.proofs.Moved.{moved}
use Rattle.row_ops.proofs.PairLemmas.{given_next}
use Rattle.row_ops.proofs.columns.with_given.Goals as goal

pub loop-place-preserved : goal.loop-place-preserved
loop-place-preserved c =
    moved _ _ _ _ _ _ c.in_ok-row.ensures
    (given_next c.args.items.now c.args.values.now c.loop-place.place c.index-items-place.result (option_copied c.get.result) c.loop-place-test.true c.index-items-place.is c.get.ensures.value)
    c.loop-place.invariant
