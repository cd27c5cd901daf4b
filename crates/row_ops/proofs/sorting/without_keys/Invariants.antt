use Rattle.std.proofs.Common.{◌≡◌, ◌++◌, map, length}
use Rattle.row_ops.proofs.sorting.without_keys.Given as goal

abbrev pub invariant-loop-row : goal.invariant-loop-row
invariant-loop-row l = l.rows.items ++ map (λ k. k.row) l.left.items ≡ map (λ k. k.row) l.fn.keyed.items

abbrev pub decreases-loop-row : goal.decreases-loop-row
decreases-loop-row l = length l.left.items
