use Rattle.std.proofs.Common.{◌≡◌, ◌≤◌, drop, length}
use Rattle.std.specs.Cmp.Lexicographic.{slice_cmp}
use Rattle.graph_value.specs.Order.{order_of}
use Rattle.graph_value.proofs.sorting.+order.Given as goal

abbrev pub invariant-order_lists-loop-i : goal.invariant-order_lists-loop-i
invariant-order_lists-loop-i l =
    (l.i ≤ length l.b) × (slice_cmp order_of (drop l.i l.a) (drop l.i l.b) ≡ slice_cmp order_of l.a l.b)
