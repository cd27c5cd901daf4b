-- The definitions of writes and graphs, computed on the network.
use Rattle.std.proofs.Common.{◌≡◌, ℕ, List, [], ◌∷◌, true, false, codes, refl}
use Rattle.graph_value.specs.declared.value.Value as values
use Rattle.graph_value.specs.declared.value.Value.{Value}
use Rattle.graph_value.specs.declared.id.EdgeId.{EdgeId}
use Rattle.graph_value.specs.declared.id.Oid.TheVariants as oid
use Rattle.graph_record.specs.declared.object.EdgeRecord.{EdgeRecord}
use Rattle.graph_record.specs.declared.object.Object.{Object}
use Rattle.graph_record.specs.declared.object.Object.TheVariants.{Dead, Vertex, Edge}
use Rattle.graph_record.specs.Graph.{Graph, IsCoherent, empty_graph, object_at}
use Rattle.graph_record.specs.Form.{IsForm}
use Rattle.undo_delta.specs.Touch.{touches}
use Rattle.undo_delta.specs.declared.op.Op.TheVariants as op
use Rattle.world_model.specs.Op.{apply, apply_all, are_sound, is_possible, is_given, are_below, SameObjects}
use Rattle.world_model.specs.World.{ops_of, fold_of, graph_at, before, view_of}
use Rattle.world_model.proofs.Network.{v0, v1, e0, e1, five, made, commits, network, early, late}

abbrev vertex : List (List ℕ) → List EdgeId → List EdgeId → Object
vertex labels outs ins = Vertex (record { labels = labels; props = []; outs = outs; ins = ins })

abbrev edge : List (List ℕ × Value) → EdgeRecord
edge props = record { kind = codes "T"; from = v0; to = v1; props = props }

abbrev graph : Graph
graph = fold_of commits

-- each write may stand where it stands, and changes the graph: an edge may go to another vertex, and to its own
they_are_sound : are_sound (ops_of commits) empty_graph ≡ true
unfolding are_sound ops_of
they_are_sound = refl

-- an edge touches the vertex that it comes from, the one that it goes to, and itself; a loop its vertex once
touched_in_order : touches (op.CreateEdge e0 v0 (codes "T") v1) ≡ oid.Vertex v0 ∷ oid.Vertex v1 ∷ oid.Edge e0 ∷ []
touched_in_order = refl

touched_when_lost : touches (op.DeleteEdge e0 v0 v1) ≡ oid.Vertex v0 ∷ oid.Vertex v1 ∷ oid.Edge e0 ∷ []
touched_when_lost = refl

touched_once : touches (op.CreateEdge e1 v1 (codes "L") v1) ≡ oid.Vertex v1 ∷ oid.Edge e1 ∷ []
touched_once = refl

touched_alone : touches (op.SetEdgeProp e0 (codes "w") five) ≡ oid.Edge e0 ∷ []
touched_alone = refl

-- labels are there from the commit on that adds them, in order, and one is gone behind the commit that removes it
labels_at_3 : object_at (graph_at commits 3) (oid.Vertex v0) ≡ vertex [] (e0 ∷ []) []
unfolding apply_all ops_of
labels_at_3 = refl

labels_at_4 : object_at (graph_at commits 4) (oid.Vertex v0) ≡ vertex (codes "A" ∷ codes "B" ∷ []) (e0 ∷ []) []
unfolding apply_all ops_of
labels_at_4 = refl

labels_at_6 : object_at (graph_at commits 6) (oid.Vertex v0) ≡ vertex (codes "B" ∷ []) (e0 ∷ []) []
unfolding apply_all ops_of
labels_at_6 = refl

-- an edge leaves the one vertex and comes to the other; a loop does both
ends_listed : object_at graph (oid.Vertex v1) ≡ vertex [] (e1 ∷ []) (e0 ∷ e1 ∷ [])
unfolding apply_all ops_of
ends_listed = refl

edge_made : object_at graph (oid.Edge e0) ≡ Edge (edge [])
unfolding apply_all ops_of
edge_made = refl

edge_lost : object_at (apply (op.DeleteEdge e0 v0 v1) graph) (oid.Vertex v1) ≡ vertex [] (e1 ∷ []) (e1 ∷ [])
unfolding apply_all ops_of
edge_lost = refl

property_set : object_at (apply (op.SetEdgeProp e0 (codes "w") five) graph) (oid.Edge e0) ≡ Edge (edge ((codes "w", five) ∷ []))
unfolding apply_all ops_of values.out-Value values.roll-Value denote.Hole.Carrier.out denote.Hole.Carrier.roll
property_set = refl

-- what may not be done: a vertex with edges is deleted, one is made twice, an edge is lost between other vertices
not_with_edges : is_possible (op.DeleteVertex v1) graph ≡ false
unfolding apply_all ops_of
not_with_edges = refl

not_twice : is_possible (op.CreateVertex v1) graph ≡ false
unfolding apply_all ops_of
not_twice = refl

not_between_others : is_possible (op.DeleteEdge e0 v1 v0) graph ≡ false
unfolding apply_all ops_of
not_between_others = refl

-- ids below the counters were given out, and no others
given : is_given 2 2 (oid.Edge e1) ≡ true
given = refl

edge_not_given : is_given 2 1 (oid.Edge e1) ≡ false
edge_not_given = refl

vertex_not_given : is_given 1 2 (oid.Vertex v1) ≡ false
vertex_not_given = refl

not_below : are_below 2 1 made ≡ false
unfolding are_below
not_below = refl

-- a transaction sees the commits before its start and its own writes
seen_early : object_at (view_of network early) (oid.Vertex v0) ≡ vertex (codes "A" ∷ codes "B" ∷ []) (e0 ∷ []) []
unfolding apply_all ops_of before
seen_early = refl

seen_late : object_at (view_of network late) (oid.Vertex v1) ≡ vertex (codes "C" ∷ []) (e1 ∷ []) (e0 ∷ e1 ∷ [])
unfolding apply_all ops_of before
seen_late = refl

-- ---- what the facts on graphs and objects refuse

true_is_not_false : true ≡ false → ⊥
true_is_not_false e = cc

-- an edge that its vertices don't list
abbrev loose : Graph
loose = record { vertices = (v0, record { labels = []; props = []; outs = []; ins = [] }) ∷ []; edges = (e0, edge []) ∷ [] }

not_coherent : IsCoherent loose → ⊥
not_coherent c = true_is_not_false (c.starts e0 v0)

-- a label that isn't in its place
not_in_form : IsForm (vertex (codes "B" ∷ codes "A" ∷ []) [] []) → ⊥
not_in_form form = let in_order : false ≡ true = form.labels in cc

changed_graph : SameObjects graph (apply (op.DeleteEdge e0 v0 v1) graph) → ⊥
unfolding apply_all ops_of
changed_graph same = let gone : Dead ≡ Edge (edge []) = same (oid.Edge e0) in cc
