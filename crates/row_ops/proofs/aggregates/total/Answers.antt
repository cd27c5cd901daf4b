use Rattle.std.proofs.Common.{sym, ◌∙◌, arith}
use Rattle.std.proofs.lemmas.Int.{ints}
use Rattle.row_ops.proofs.Totals.{total_step}
use Rattle.row_ops.proofs.aggregates.total.Goals as goal

pub loop-value-preserved : goal.loop-value-preserved
loop-value-preserved c = record {
  rest = total_step c.args.values.now _ c.loop-value.value-index c.value-item.result c.in_ok-total.field-0 _ _ c.loop-value-test.true c.value-item.is (sym c.in_ok-total.was ∙ c.integer.ensures) c.loop-value.invariant.rest (omega (arith, ints));
  low = omega (arith, ints);
  high = omega (arith, ints);
}
