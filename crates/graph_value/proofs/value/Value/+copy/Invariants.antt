use Rattle.std.proofs.Common.{◌≡◌, take}
use Rattle.graph_value.proofs.value.Value.+copy.Given as goal

abbrev pub invariant-loop-item : goal.invariant-loop-item
invariant-loop-item l = l.copies ≡ take l.item-index l.item-items
