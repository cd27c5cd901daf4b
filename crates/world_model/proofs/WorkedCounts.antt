-- The definitions of counts, computed on the network: what its writes leave, where it lies, and what a place in history is.
use Rattle.std.proofs.Common.{◌≡◌, ◌+◌, [], ◌∷◌, length, refl}
use Rattle.graph_value.specs.declared.id.Oid.TheVariants as oid
use Rattle.world_model.specs.Counts.{all_left}
use Rattle.world_model.specs.Op.{apply_all}
use Rattle.world_model.specs.Placement.{sum_over, stats_of}
use Rattle.world_model.specs.Undo.{left_by_all, left_since, undo_list}
use Rattle.world_model.specs.World.{World, ops_of}
use Rattle.world_model.proofs.Network.{v0, v1, e0, e1, network, commits}

-- two vertices, an edge and a loop are made, and labels are written three times
left_of_all : all_left (ops_of commits) ≡ 1 + 1 + 3 + 3 + 2 + 1
unfolding ops_of
left_of_all = refl

-- of the edge each vertex has one delta, and of the loop its vertex has two
left_at_each : length (undo_list network (oid.Vertex v0)) + length (undo_list network (oid.Vertex v1)) + length (undo_list network (oid.Edge e0)) + length (undo_list network (oid.Edge e1)) ≡ 5 + 4 + 1 + 1
unfolding left_by_all left_since apply_all
left_at_each = refl

summed : sum_over network (λ x. length (undo_list network x)) ≡ 11
unfolding left_by_all left_since apply_all
summed = refl

-- nothing lies in history at first
abbrev moved : World
moved = record network { installs = record { x = oid.Vertex v0; mark = 5 } ∷ [] }

in_chains : stats_of network ≡ record { chain = 11; history = 0; blocks = 0 }
unfolding left_by_all left_since apply_all ops_of
in_chains = refl

-- the four deltas of v0 below 5 lie there once they were moved, each in its own block
in_history : stats_of moved ≡ record { chain = 7; history = 4; blocks = 4 }
unfolding left_by_all left_since apply_all ops_of
in_history = refl

in_blocks_of_3 : stats_of (record moved { interval = 3 }) ≡ record { chain = 7; history = 4; blocks = 2 }
unfolding left_by_all left_since apply_all ops_of
in_blocks_of_3 = refl
