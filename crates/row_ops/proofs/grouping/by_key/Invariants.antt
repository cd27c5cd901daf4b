use Rattle.std.proofs.Common.{◌≡◌, [], length}
use Rattle.row_ops.specs.Grouping.{key_of}
use Rattle.row_ops.proofs.GroupLemmas.{gathered}
use Rattle.row_ops.proofs.grouping.by_key.Given as goal

abbrev pub invariant-loop-cells : goal.invariant-loop-cells
invariant-loop-cells l = record {
  rest : gathered (key_of l.items) l.keys.keys l.groups.items l.left.items ≡ gathered (key_of l.items) [] [] l.fn.rows;
  alike : length l.groups.items ≡ length l.keys.keys;
}

abbrev pub decreases-loop-cells : goal.decreases-loop-cells
decreases-loop-cells l = length l.left.items
