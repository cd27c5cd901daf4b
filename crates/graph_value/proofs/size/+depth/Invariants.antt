use Rattle.std.proofs.Common.{◌≡◌, ◌-◌, ◌^◌, ◌≤◌, min, max, drop}
use Rattle.graph_value.proofs.SizeLemmas.{greatest_depth}
use Rattle.graph_value.proofs.size.+depth.Given as goal

abbrev pub invariant-loop-item : goal.invariant-loop-item
invariant-loop-item l =
    (l.greatest ≤ 2 ^ 64 - 1) × (min (max l.greatest (greatest_depth (drop l.item-index l.item-items))) (2 ^ 64 - 1) ≡ min (greatest_depth l.item-items) (2 ^ 64 - 1))
