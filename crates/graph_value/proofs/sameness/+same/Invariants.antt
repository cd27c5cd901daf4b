use Rattle.std.proofs.Common.{◌≡◌, drop, length}
use Rattle.std.specs.Cmp.Lexicographic.{pointwise}
use Rattle.graph_value.specs.Value.{same_value}
use Rattle.graph_value.proofs.sameness.+same.Given as goal

abbrev pub invariant-same_lists-loop-i : goal.invariant-same_lists-loop-i
invariant-same_lists-loop-i l =
    (length l.a ≡ length l.b) × (pointwise same_value (drop l.i l.a) (drop l.i l.b) ≡ pointwise same_value l.a l.b)
