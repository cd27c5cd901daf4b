use Rattle.std.proofs.Common.{◌≡◌, drop}
use Rattle.row_ops.specs.Sorting.{item_value}
use Rattle.row_ops.proofs.sorting.item_value.Given as goal

abbrev pub invariant-loop-place : goal.invariant-loop-place
invariant-loop-place l = item_value (drop l.place l.items) (drop l.place l.values) l.expr ≡ item_value l.items l.values l.expr
