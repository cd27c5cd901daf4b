use Rattle.std.proofs.Common.{◌≡◌, ◌++◌, length}
use Rattle.row_ops.specs.Distinct.{firsts, firsts_on, whole}
use Rattle.row_ops.proofs.once.distinct.Given as goal

abbrev pub invariant-loop-made : goal.invariant-loop-made
invariant-loop-made l = l.kept ++ firsts_on (whole l.star) l.known.keys l.left.items ≡ firsts (whole l.star) l.fn.rows

abbrev pub decreases-loop-made : goal.decreases-loop-made
decreases-loop-made l = length l.left.items
