use Rattle.std.proofs.Common.{◌≡◌, ◌*◌, ◌^◌, drop, pos}
use Rattle.std.specs.Prelude.{neg_ℤ, ◌≤ℤ◌}
use Rattle.row_ops.specs.Aggregates.{total}
use Rattle.row_ops.proofs.aggregates.total.Given as goal

abbrev pub invariant-loop-value : goal.invariant-loop-value
invariant-loop-value l = record {
  rest : total l.total (drop l.value-index l.values) ≡ total (pos 0) l.values;
  low : neg_ℤ (pos (l.value-index * 2 ^ 63)) ≤ℤ l.total;
  high : l.total ≤ℤ pos (l.value-index * 2 ^ 63);
}
