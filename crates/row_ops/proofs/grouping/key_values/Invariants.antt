use Rattle.std.proofs.Common.{◌≡◌, ◌++◌, drop}
use Rattle.row_ops.specs.Grouping.{key_values}
use Rattle.row_ops.proofs.grouping.key_values.Given as goal

abbrev pub invariant-loop-place : goal.invariant-loop-place
invariant-loop-place l = l.values ++ key_values (drop l.place l.items) (drop l.place l.cells) ≡ key_values l.items l.cells
