use Rattle.std.proofs.Common.{◌≡◌, ◌-◌, ◌^◌, ◌≤◌, min, max, drop}
use Rattle.graph_value.proofs.SizeLemmas.{greatest_depth}
use Rattle.expr_eval.proofs.size.deepest.Given as goal

abbrev pub invariant-loop-item : goal.invariant-loop-item
invariant-loop-item l =
    (l.deepest ≤ 2 ^ 64 - 1) × (min (max l.deepest (greatest_depth (drop l.item-index l.items))) (2 ^ 64 - 1) ≡ min (greatest_depth l.items) (2 ^ 64 - 1))
