-- The definitions, computed on a small world: a vertex with an edge to itself that is labelled, and then taken away.
use Rattle.std.proofs.Common.{◌≡◌, ℕ, pos, List, [], ◌∷◌, ◌++◌, Bool, true, false, cond, codes, refl, ap, ◌∙◌}
use Rattle.std.specs.Prelude.{reverse}
use Rattle.graph_value.specs.Value.{same_value}
use Rattle.graph_value.specs.declared.value.Value as values
use Rattle.graph_value.specs.declared.value.Value.{Value}
use Rattle.graph_value.specs.declared.value.Value.TheVariants.{Null, Int}
use Rattle.graph_value.proofs.Levels.{apart, null_apart}
use Rattle.graph_value.specs.declared.id.VertexId.{VertexId}
use Rattle.graph_value.specs.declared.id.EdgeId.{EdgeId}
use Rattle.graph_value.specs.declared.id.Oid.TheVariants as oid
use Rattle.graph_record.specs.declared.object.VertexRecord.{VertexRecord}
use Rattle.graph_record.specs.declared.object.EdgeRecord.{EdgeRecord}
use Rattle.graph_record.specs.declared.object.Object.TheVariants.{Dead, Vertex, Edge}
use Rattle.graph_record.specs.Graph.{empty_graph, object_at}
use Rattle.undo_law.specs.declared.dated.Dated.{Dated}
use Rattle.undo_delta.specs.Change.{no_delta, one_delta}
use Rattle.undo_delta.specs.declared.delta.Delta.{Delta}
use Rattle.undo_delta.specs.declared.delta.Delta.TheVariants as delta
use Rattle.undo_delta.specs.declared.op.Op.TheVariants.{CreateVertex, DeleteVertex, AddLabel, SetVertexProp, CreateEdge, DeleteEdge}
use Rattle.world_model.specs.Op.{apply_all, are_sound}
use Rattle.world_model.specs.World.{World, ops_of, graph_at, fold_of}
use Rattle.world_model.specs.Undo.{both, dated, left_by_all, left_since, undo_list, undone_above}

abbrev v : VertexId
v = record { 0 = 0 }

abbrev e : EdgeId
e = record { 0 = 0 }

-- the vertex and the edge are made at 2, the label is added at 4, and both are deleted at 6
abbrev world : World
world = record {
  clock = 7;
  vertices = 1;
  edges = 1;
  commits = record { ts = 2; ops = CreateVertex v ∷ CreateEdge e v (codes "T") v ∷ [] }
      ∷ record { ts = 4; ops = AddLabel v (codes "A") ∷ [] }
      ∷ record { ts = 6; ops = DeleteEdge e v v ∷ DeleteVertex v ∷ [] }
      ∷ [];
  running = [];
  interval = 1;
  installs = [];
}

abbrev vertex : List (List ℕ) → List EdgeId → VertexRecord
vertex labels edges = record { labels = labels; props = []; outs = edges; ins = edges }

abbrev edge : EdgeRecord
edge = record { kind = codes "T"; from = v; to = v; props = [] }

at : ℕ → Delta → Dated Delta
at ts d = record { ts = ts; delta = d }

-- each write may stand where it stands, and changes the graph
they_are_sound : are_sound (ops_of world.commits) empty_graph ≡ true
unfolding are_sound ops_of
they_are_sound = refl

-- of the edge to itself the vertex has both deltas, the one for its start the older
vertex_deltas : undo_list world (oid.Vertex v)
    ≡ at 6 (delta.RecreateObject (Vertex (vertex (codes "A" ∷ []) [])))
    ∷ at 6 (delta.AddInEdge e) ∷ at 6 (delta.AddOutEdge e)
    ∷ at 4 (delta.RemoveLabel (codes "A"))
    ∷ at 2 (delta.RemoveInEdge e) ∷ at 2 (delta.RemoveOutEdge e) ∷ at 2 delta.DeleteObject ∷ []
unfolding at left_by_all left_since apply_all
vertex_deltas = refl

edge_deltas : undo_list world (oid.Edge e) ≡ at 6 (delta.RecreateObject (Edge edge)) ∷ at 2 delta.DeleteObject ∷ []
unfolding at left_by_all left_since apply_all
edge_deltas = refl

-- the vertex at 3 is the dead one with the deltas above 3 undone
at_3 : undone_above 3 (object_at (fold_of world.commits) (oid.Vertex v)) (undo_list world (oid.Vertex v)) ≡ Vertex (vertex [] (e ∷ []))
unfolding left_by_all left_since apply_all ops_of
at_3 = refl

at_3_as_folded : object_at (graph_at world.commits 3) (oid.Vertex v) ≡ Vertex (vertex [] (e ∷ []))
unfolding apply_all ops_of
at_3_as_folded = refl

at_1 : undone_above 1 (object_at (fold_of world.commits) (oid.Vertex v)) (undo_list world (oid.Vertex v)) ≡ Dead
unfolding left_by_all left_since apply_all ops_of
at_1 = refl

at_6 : object_at (graph_at world.commits 6) (oid.Vertex v) ≡ Dead
unfolding apply_all ops_of
at_6 = refl

-- ---- a property that is set, set again and taken away

abbrev k : List ℕ
k = codes "k"

abbrev reset : World
reset = record {
  clock = 7;
  vertices = 1;
  edges = 0;
  commits = record { ts = 2; ops = CreateVertex v ∷ SetVertexProp v k (Int (pos 1)) ∷ [] }
      ∷ record { ts = 4; ops = SetVertexProp v k (Int (pos 2)) ∷ [] }
      ∷ record { ts = 6; ops = SetVertexProp v k Null ∷ [] }
      ∷ [];
  running = [];
  interval = 1;
  installs = [];
}

-- what each set leaves, where it changes nothing or gives back the old value
left : Bool → Value → List Delta
left same old = both (cond same no_delta (one_delta (delta.SetProperty (k, old)))) ++ []

told : Bool → Bool → Bool → List (Dated Delta)
told first second third = reverse (dated 2 (delta.DeleteObject ∷ left first Null) ++ (dated 4 (left second (Int (pos 1))) ++ (dated 6 (left third (Int (pos 2))) ++ [])))

one_and_two : same_value (Int (pos 1)) (Int (pos 2)) ≡ false
unfolding values.out-Value values.roll-Value denote.Hole.Carrier.out denote.Hole.Carrier.roll
one_and_two = apart (Int (pos 1)) (Int (pos 2)) (λ same. cc)

two_and_null : same_value (Int (pos 2)) Null ≡ false
unfolding values.out-Value values.roll-Value denote.Hole.Carrier.out denote.Hole.Carrier.roll
two_and_null = apart (Int (pos 2)) Null (λ same. cc)

-- each has the old value, and null where there was none
reset_deltas : undo_list reset (oid.Vertex v)
    ≡ at 6 (delta.SetProperty (k, Int (pos 2))) ∷ at 4 (delta.SetProperty (k, Int (pos 1))) ∷ at 2 (delta.SetProperty (k, Null)) ∷ at 2 delta.DeleteObject ∷ []
unfolding at left told left_by_all left_since apply_all values.out-Value values.roll-Value denote.Hole.Carrier.out denote.Hole.Carrier.roll
reset_deltas =
    let as_told : undo_list reset (oid.Vertex v) ≡ told (same_value Null (Int (pos 1))) (same_value (Int (pos 1)) (Int (pos 2))) (same_value (Int (pos 2)) Null) = refl in
    as_told
    ∙ ap (λ b. told b (same_value (Int (pos 1)) (Int (pos 2))) (same_value (Int (pos 2)) Null)) (null_apart (pos 1))
    ∙ ap (λ b. told false b (same_value (Int (pos 2)) Null)) one_and_two
    ∙ ap (told false false) two_and_null
