use Rattle.std.proofs.Common.{◌≡◌, ◌-◌, ◌≤◌, length, drop}
use Rattle.undo_delta.specs.Touch.{touches}
use Rattle.world_model.specs.Refusals.{conflict}
use Rattle.world_model.specs.World.{World, Txn}
use Rattle.front_core.specs.Opened.{Opened}
use Rattle.front_core.proofs.state.State.conflict.Given as goal

-- nothing stands in the way at those so far
abbrev pub invariant-loop-x : goal.invariant-loop-x
invariant-loop-x l = record {
  passed : (w : World) (p : Txn) → Opened l.self w l.caller l.start p → conflict w p (touches l.op) ≡ conflict w p (drop l.i (touches l.op));
  within : l.i ≤ length (touches l.op);
}

abbrev pub decreases-loop-x : goal.decreases-loop-x
decreases-loop-x l = length (touches l.op) - l.i
