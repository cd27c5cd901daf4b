use Rattle.std.proofs.Common.{◌≡◌, drop}
use Rattle.row_ops.specs.Sorting.{keys_cmp}
use Rattle.row_ops.proofs.sorting.compare_others.Given as goal

abbrev pub invariant-loop-place : goal.invariant-loop-place
invariant-loop-place l = keys_cmp (drop l.place l.sorts) (drop l.place l.a) (drop l.place l.b) ≡ keys_cmp l.sorts l.a l.b
