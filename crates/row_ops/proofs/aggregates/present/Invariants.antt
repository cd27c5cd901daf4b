use Rattle.std.proofs.Common.{◌≡◌, ◌++◌, length}
use Rattle.row_ops.specs.Aggregates.{present}
use Rattle.row_ops.proofs.aggregates.present.Given as goal

abbrev pub invariant-loop-value : goal.invariant-loop-value
invariant-loop-value l = l.present ++ present l.left.items ≡ present l.fn.values

abbrev pub decreases-loop-value : goal.decreases-loop-value
decreases-loop-value l = length l.left.items
