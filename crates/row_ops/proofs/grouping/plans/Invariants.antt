use Rattle.std.proofs.Common.{◌≡◌, map, take}
use Rattle.row_ops.specs.Grouping.{plan_of}
use Rattle.row_ops.proofs.grouping.plans.Given as goal

abbrev pub invariant-loop-item : goal.invariant-loop-item
invariant-loop-item l = l.plans ≡ map plan_of (take l.item-index l.items)
