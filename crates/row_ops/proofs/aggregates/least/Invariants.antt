use Rattle.std.proofs.Common.{◌≡◌, length}
use Rattle.row_ops.specs.Aggregates.{lesser, most, most_of}
use Rattle.row_ops.proofs.aggregates.least.Given as goal

abbrev pub invariant-loop-value : goal.invariant-loop-value
invariant-loop-value l = most lesser l.least l.values.items ≡ most_of lesser l.fn.values.items

abbrev pub decreases-loop-value : goal.decreases-loop-value
decreases-loop-value l = length l.values.items
