use Rattle.std.proofs.Common.{◌≡◌, ◌++◌, length}
use Rattle.row_ops.proofs.projection.listed.Given as goal

abbrev pub invariant-loop-row : goal.invariant-loop-row
invariant-loop-row l = l.table ++ l.left.items ≡ l.fn.left.items

abbrev pub decreases-loop-row : goal.decreases-loop-row
decreases-loop-row l = length l.left.items
