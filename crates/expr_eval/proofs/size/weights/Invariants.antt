use Rattle.std.proofs.Common.{◌≡◌, ◌-◌, ◌^◌, min, take}
use Rattle.std.specs.List.{sum_by}
use Rattle.graph_value.specs.Size.{weight_of}
use Rattle.expr_eval.proofs.size.weights.Given as goal

abbrev pub invariant-loop-item : goal.invariant-loop-item
invariant-loop-item l = l.sum ≡ min (sum_by weight_of (take l.item-index l.items)) (2 ^ 128 - 1)
