use Rattle.std.proofs.Common.{◌≡◌, ◌++◌, drop}
use Rattle.row_ops.specs.Columns.{columns}
use Rattle.row_ops.proofs.columns.with_columns.Given as goal

abbrev pub invariant-loop-place : goal.invariant-loop-place
invariant-loop-place l = l.row ++ columns l.place (drop l.place l.items) l.left.items ≡ l.fn.row ++ columns 0 l.items l.fn.values
