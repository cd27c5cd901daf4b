use Rattle.std.proofs.Common.{◌≡◌, ◌++◌, map, length}
use Rattle.row_ops.specs.Unwinding.{with_name}
use Rattle.row_ops.proofs.unwinding.with_elements.Given as goal

abbrev pub invariant-loop-element : goal.invariant-loop-element
invariant-loop-element l = l.rows ++ map (with_name l.row l.name) l.left.items ≡ l.fn.rows ++ map (with_name l.row l.name) l.fn.elements

abbrev pub decreases-loop-element : goal.decreases-loop-element
decreases-loop-element l = length l.left.items
