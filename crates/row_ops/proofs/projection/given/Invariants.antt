use Rattle.std.proofs.Common.{◌≡◌, ◌++◌, map, length}
use Rattle.row_ops.specs.Making.{after}
use Rattle.row_ops.proofs.projection.given.Given as goal

abbrev pub invariant-loop-made : goal.invariant-loop-made
invariant-loop-made l = l.table ++ map (after l.p) l.left.items ≡ map (after l.p) l.fn.left.items

abbrev pub decreases-loop-made : goal.decreases-loop-made
decreases-loop-made l = length l.left.items
