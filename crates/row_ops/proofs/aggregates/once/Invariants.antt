use Rattle.std.proofs.Common.{◌≡◌, ◌++◌, length}
use Rattle.row_ops.specs.Distinct.{firsts, firsts_on}
use Rattle.row_ops.proofs.aggregates.once.Given as goal

abbrev pub invariant-loop-value : goal.invariant-loop-value
invariant-loop-value l = l.kept ++ firsts_on (λ v. v) l.known.keys l.left.items ≡ firsts (λ v. v) l.fn.values

abbrev pub decreases-loop-value : goal.decreases-loop-value
decreases-loop-value l = length l.left.items
