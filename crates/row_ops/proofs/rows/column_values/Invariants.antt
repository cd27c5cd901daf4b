use Rattle.std.proofs.Common.{◌≡◌, map, take}
use Rattle.row_ops.proofs.rows.column_values.Given as goal

abbrev pub invariant-loop-value : goal.invariant-loop-value
invariant-loop-value l = l.values ≡ map (λ column. column.1) (take l.value-index l.columns)
