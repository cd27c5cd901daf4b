use Rattle.row_ops.proofs.ColumnLemmas.{columns_next}
use Rattle.row_ops.proofs.Moved.{moved}
use Rattle.row_ops.proofs.columns.with_columns.Goals as goal

pub loop-place-preserved : goal.loop-place-preserved
loop-place-preserved c =
    moved _ _ _ _ _ _ c.in_ok-row.ensures
    (columns_next c.args.items.now c.loop-place.place c.index-items-place.result c.pop_front.result _ _ c.loop-place-test.true c.index-items-place.is c.pop_front.ensures.items c.pop_front.ensures.rest)
    c.loop-place.invariant
