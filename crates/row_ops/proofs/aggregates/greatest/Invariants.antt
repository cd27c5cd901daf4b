use Rattle.std.proofs.Common.{◌≡◌, length}
use Rattle.row_ops.specs.Aggregates.{greater, most, most_of}
use Rattle.row_ops.proofs.aggregates.greatest.Given as goal

abbrev pub invariant-loop-value : goal.invariant-loop-value
invariant-loop-value l = most greater l.greatest l.values.items ≡ most_of greater l.fn.values.items

abbrev pub decreases-loop-value : goal.decreases-loop-value
decreases-loop-value l = length l.values.items
