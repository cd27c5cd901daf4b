use Rattle.std.proofs.Common.{◌≡◌, ◌++◌, drop}
use Rattle.row_ops.specs.Columns.{given_columns}
use Rattle.row_ops.proofs.columns.with_given.Given as goal

abbrev pub invariant-loop-place : goal.invariant-loop-place
invariant-loop-place l = l.row ++ given_columns (drop l.place l.items) (drop l.place l.values) ≡ l.fn.row ++ given_columns l.items l.values
