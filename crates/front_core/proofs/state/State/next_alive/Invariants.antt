use Rattle.std.proofs.Common.{◌≡◌, ℕ, ◌-◌, ◌<◌, ◌≤◌, true}
use Rattle.graph_record.specs.Graph.{object_at, is_dead}
use Rattle.world_model.specs.Views.{graph_of, oid_of}
use Rattle.world_model.specs.World.{World, Txn}
use Rattle.world_model.specs.Views.{first_above}
use Rattle.front_core.specs.Opened.{Opened}
use Rattle.front_core.proofs.state.State.next_alive.Given as goal

-- what was passed is dead, and what comes is above the number that was given
abbrev pub invariant-loop-number : goal.invariant-loop-number
invariant-loop-number l = record {
  passed : (w : World) (p : Txn) → Opened l.self w l.caller l.start p → (m : ℕ) → first_above l.fn.after ≤ m → m < l.number → is_dead (object_at (graph_of w p l.when) (oid_of l.kind m)) ≡ true;
  above : first_above l.fn.after ≤ l.number;
}

abbrev pub decreases-loop-number : goal.decreases-loop-number
decreases-loop-number l = l.end - l.number
