use Rattle.std.proofs.Common.{◌≡◌, drop, length}
use Rattle.graph_value.specs.Equals.{each_pair, equals_of}
use Rattle.graph_value.specs.Tri.{tri_and}
use Rattle.graph_value.proofs.equality.+equals.Given as goal

abbrev pub invariant-equals_lists-loop-i : goal.invariant-equals_lists-loop-i
invariant-equals_lists-loop-i l =
    (length l.a ≡ length l.b) × (tri_and l.answer (each_pair equals_of (drop l.i l.a) (drop l.i l.b)) ≡ each_pair equals_of l.a l.b)
