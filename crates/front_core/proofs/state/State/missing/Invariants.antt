use Rattle.std.proofs.Common.{◌≡◌, ◌-◌, ◌≤◌, length, drop}
use Rattle.world_model.specs.Asked.{named}
use Rattle.world_model.specs.Refusals.{missing}
use Rattle.world_model.specs.World.{World, Txn, view_of}
use Rattle.front_core.specs.Opened.{Opened}
use Rattle.front_core.proofs.state.State.missing.Given as goal

-- those so far are there
abbrev pub invariant-loop-x : goal.invariant-loop-x
invariant-loop-x l = record {
  passed : (w : World) (p : Txn) → Opened l.self w l.caller l.start p → missing (view_of w p) (named l.ask) ≡ missing (view_of w p) (drop l.i (named l.ask));
  within : l.i ≤ length (named l.ask);
}

abbrev pub decreases-loop-x : goal.decreases-loop-x
decreases-loop-x l = length (named l.ask) - l.i
