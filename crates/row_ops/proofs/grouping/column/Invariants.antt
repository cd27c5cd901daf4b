use Rattle.std.proofs.Common.{◌≡◌, [], take}
use Rattle.graph_value.specs.declared.value.Value.TheVariants as value
use Rattle.row_ops.specs.Grouping.{through}
use Rattle.row_ops.proofs.grouping.column.Given as goal

abbrev pub invariant-loop-cells : goal.invariant-loop-cells
invariant-loop-cells l = l.values ≡ through value.Null l.place (through [] l.item (take l.cells-index l.group))
