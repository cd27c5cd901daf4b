-- A new core keeps the world in which nothing has happened.
use Rattle.std.proofs.Common.{subst, []}
use Rattle.world_model.specs.World.{Start}
use Rattle.world_model.specs.History.{IsStart}
use Rattle.front_core.specs.Keeps.{StandsFor}
use Rattle.front_core.specs.declared.state.State.{State}
use Rattle.front_core.proofs.Starting.{stands_new, same_new}
use Rattle.front_core.proofs.store.Core.new_at.Goals as goal
use Rattle.front_core.proofs.store.Core.new_at.Goals.{After-new-4}

abbrev start : After-new-4 → Start
start c = record { interval = c.args.k; clock = c.args.clock; vertices = c.args.vertices; edges = c.args.edges }

is_start : (c : After-new-4) → IsStart (start c)
is_start c = record { interval = (c.requires.at_least, c.requires.at_most); clock = (c.requires.begun, c.requires.clock_range); vertices = c.requires.vertex_range; edges = c.requires.edge_range }

pub invariant_of-result : goal.invariant_of-result
invariant_of-result c = record {
  start = start c;
  entries = [];
  stood = subst (λ (k : State). StandsFor (start c) k []) (same_new (start c) _ _ _ _ c.new.ensures c.new-2.ensures c.new-3.ensures c.new-4.ensures) (stands_new (start c) (is_start c));
}

pub returns : goal.returns
returns c = subst (λ (k : State). StandsFor (start c) k []) (same_new (start c) _ _ _ _ c.new.ensures c.new-2.ensures c.new-3.ensures c.new-4.ensures) (stands_new (start c) (is_start c))
