use Rattle.std.proofs.Common.{◌≡◌, drop}
use Rattle.row_ops.specs.Columns.{given_columns}
use Rattle.row_ops.specs.Names.{found}
use Rattle.row_ops.proofs.names.given_value.Given as goal

abbrev pub invariant-loop-place : goal.invariant-loop-place
invariant-loop-place l = found (given_columns (drop l.place l.items) (drop l.place l.values)) l.name ≡ found (given_columns l.items l.values) l.name
