-- What a write does to one object that it touches, where it may, and which deltas it leaves there.
use Rattle.std.specs.Prelude.{ℕ, List, [], ◌∷◌, Bool, true, false, not, ◌&&◌, ◌||◌, cond, Option, Some, None, nat_eq}
use Rattle.std.specs.FinMap.{find}
use Rattle.graph_value.specs.Name.{name_cmp}
use Rattle.graph_value.specs.Storable.{is_storable}
use Rattle.graph_value.specs.Value.{same_value}
use Rattle.graph_value.specs.declared.value.Value.{Value}
use Rattle.graph_value.specs.declared.value.Value.TheVariants.{Null}
use Rattle.graph_value.specs.declared.id.VertexId.{VertexId}
use Rattle.graph_value.specs.declared.id.EdgeId.{EdgeId}
use Rattle.graph_value.specs.declared.id.Oid.{Oid}
use Rattle.graph_value.specs.declared.id.Oid.TheVariants as oid
use Rattle.graph_record.specs.Ascending.{edge_cmp}
use Rattle.graph_record.specs.Edits.{has}
use Rattle.graph_record.specs.Graph.{is_dead}
use Rattle.graph_record.specs.Record.{empty_vertex}
use Rattle.graph_record.specs.declared.object.EdgeRecord.{EdgeRecord}
use Rattle.graph_record.specs.declared.object.Object.{Object}
use Rattle.graph_record.specs.declared.object.Object.TheVariants.{Dead, Vertex, Edge}
use Rattle.undo_delta.specs.Apply.{after, after_some, with_property}
use Rattle.undo_delta.specs.declared.delta.Delta.{Delta}
use Rattle.undo_delta.specs.declared.delta.Delta.TheVariants as delta
use Rattle.undo_delta.specs.declared.delta.DeltaPair.{DeltaPair}
use Rattle.undo_delta.specs.declared.edge_change.EdgeDeltas.{EdgeDeltas}
use Rattle.undo_delta.specs.declared.edge_change.LoopDeltas.{LoopDeltas}
use Rattle.undo_delta.specs.declared.op.Joined.{Joined}
use Rattle.undo_delta.specs.declared.op.Op.{Op}
use Rattle.undo_delta.specs.declared.op.Op.TheVariants.{CreateVertex, DeleteVertex, AddLabel, RemoveLabel, SetVertexProp, CreateEdge, DeleteEdge, SetEdgeProp}

abbrev pub is_vertex : Object → Bool
is_vertex Dead = false
is_vertex (Vertex r) = true
is_vertex (Edge r) = false

abbrev pub is_edge : Object → Bool
is_edge Dead = false
is_edge (Vertex r) = false
is_edge (Edge r) = true

abbrev pub is_empty : List EdgeId → Bool
is_empty [] = true
is_empty (e ∷ es) = false

abbrev pub is_without_edges : Object → Bool
is_without_edges Dead = false
is_without_edges (Vertex r) = is_empty r.outs && is_empty r.ins
is_without_edges (Edge r) = false

-- a vertex that has the edge in neither list
abbrev pub is_free_of : EdgeId → Object → Bool
is_free_of e Dead = false
is_free_of e (Vertex r) = not (has edge_cmp e r.outs) && not (has edge_cmp e r.ins)
is_free_of e (Edge r) = false

-- a vertex that has the edge in each list where it is to stand
abbrev pub has_ends : Bool → Bool → EdgeId → Object → Bool
has_ends leaves comes e Dead = false
has_ends leaves comes e (Vertex r) = (not leaves || has edge_cmp e r.outs) && (not comes || has edge_cmp e r.ins)
has_ends leaves comes e (Edge r) = false

abbrev pub goes_between : VertexId → VertexId → Object → Bool
goes_between from to Dead = false
goes_between from to (Vertex r) = false
goes_between from to (Edge r) = nat_eq r.from.0 from.0 && nat_eq r.to.0 to.0

abbrev pub may_create_edge : EdgeId → Oid → Object → Bool
may_create_edge e (oid.Vertex v) o = is_free_of e o
may_create_edge e (oid.Edge f) o = is_dead o

abbrev pub may_delete_edge : EdgeId → VertexId → VertexId → Oid → Object → Bool
may_delete_edge e from to (oid.Vertex v) o = has_ends (nat_eq v.0 from.0) (nat_eq v.0 to.0) e o
may_delete_edge e from to (oid.Edge f) o = goes_between from to o

-- Whether a write may be done on an object that it touches: a created one is dead, each other one is alive and of its
-- kind; a deleted vertex has no edges; a created edge stands in no list of its vertices; a deleted edge has these ends
-- and stands in their lists.
abbrev pub is_possible : Op → Oid → Object → Bool
is_possible (CreateVertex v) x o = is_dead o
is_possible (DeleteVertex v) x o = is_without_edges o
is_possible (AddLabel v name) x o = is_vertex o
is_possible (RemoveLabel v name) x o = is_vertex o
is_possible (SetVertexProp v name value) x o = is_vertex o
is_possible (CreateEdge e from kind to) x o = may_create_edge e x o
is_possible (DeleteEdge e from to) x o = may_delete_edge e from to x o
is_possible (SetEdgeProp e name value) x o = is_edge o

abbrev pub new_edge : List ℕ → VertexId → VertexId → EdgeRecord
new_edge kind from to = record { kind = kind; from = from; to = to; props = [] }

-- the vertex with the edge among those that leave it, and among those that come to it
abbrev pub linked : Bool → Bool → EdgeId → Object → Object
linked leaves comes e o = cond comes (after (cond leaves (after o (delta.AddOutEdge e)) o) (delta.AddInEdge e)) (cond leaves (after o (delta.AddOutEdge e)) o)

abbrev pub unlinked : Bool → Bool → EdgeId → Object → Object
unlinked leaves comes e o = cond comes (after (cond leaves (after o (delta.RemoveOutEdge e)) o) (delta.RemoveInEdge e)) (cond leaves (after o (delta.RemoveOutEdge e)) o)

abbrev pub changed_by_new_edge : EdgeId → VertexId → List ℕ → VertexId → Oid → Object → Object
changed_by_new_edge e from kind to (oid.Vertex v) o = linked (nat_eq v.0 from.0) (nat_eq v.0 to.0) e o
changed_by_new_edge e from kind to (oid.Edge f) o = Edge (new_edge kind from to)

abbrev pub changed_by_lost_edge : EdgeId → VertexId → VertexId → Oid → Object → Object
changed_by_lost_edge e from to (oid.Vertex v) o = unlinked (nat_eq v.0 from.0) (nat_eq v.0 to.0) e o
changed_by_lost_edge e from to (oid.Edge f) o = Dead

-- The object after a write that touches it.
abbrev pub changed : Op → Oid → Object → Object
changed (CreateVertex v) x o = Vertex empty_vertex
changed (DeleteVertex v) x o = Dead
changed (AddLabel v name) x o = after o (delta.AddLabel name)
changed (RemoveLabel v name) x o = after o (delta.RemoveLabel name)
changed (SetVertexProp v name value) x o = with_property name value o
changed (CreateEdge e from kind to) x o = changed_by_new_edge e from kind to x o
changed (DeleteEdge e from to) x o = changed_by_lost_edge e from to x o
changed (SetEdgeProp e name value) x o = with_property name value o

abbrev pub no_delta : DeltaPair
no_delta = record { first = None; second = None }

abbrev pub one_delta : Delta → DeltaPair
one_delta d = record { first = Some d; second = None }

-- one for each end that the vertex is, the one for the edge's start the older
abbrev pub end_deltas : Bool → Bool → Delta → Delta → DeltaPair
end_deltas true true out come = record { first = Some out; second = Some come }
end_deltas true false out come = one_delta out
end_deltas false true out come = one_delta come
end_deltas false false out come = no_delta

abbrev pub has_label : List ℕ → Object → Bool
has_label name Dead = false
has_label name (Vertex r) = has name_cmp name r.labels
has_label name (Edge r) = false

abbrev pub value_or_null : Option Value → Value
value_or_null None = Null
value_or_null (Some v) = v

-- the value of a property, null where there is no such property
abbrev pub value_at : List ℕ → Object → Value
value_at name Dead = Null
value_at name (Vertex r) = value_or_null (find name_cmp name r.props)
value_at name (Edge r) = value_or_null (find name_cmp name r.props)

-- the value that a property has once this one was written; null stands for each value that no object keeps
abbrev pub kept : Value → Value
kept value = cond (is_storable value) value Null

-- what undoes that a value was written where the former one was: nothing, where that is the same
abbrev pub setting_deltas : List ℕ → Value → Value → DeltaPair
setting_deltas name former value = cond (same_value former (kept value)) no_delta (one_delta (delta.SetProperty (name, former)))

abbrev pub property_deltas : List ℕ → Value → Object → DeltaPair
property_deltas name value o = setting_deltas name (value_at name o) value

abbrev pub new_edge_deltas : EdgeId → VertexId → VertexId → Oid → DeltaPair
new_edge_deltas e from to (oid.Vertex v) = end_deltas (nat_eq v.0 from.0) (nat_eq v.0 to.0) (delta.RemoveOutEdge e) (delta.RemoveInEdge e)
new_edge_deltas e from to (oid.Edge f) = one_delta delta.DeleteObject

abbrev pub lost_edge_deltas : EdgeId → VertexId → VertexId → Oid → Object → DeltaPair
lost_edge_deltas e from to (oid.Vertex v) o = end_deltas (nat_eq v.0 from.0) (nat_eq v.0 to.0) (delta.AddOutEdge e) (delta.AddInEdge e)
lost_edge_deltas e from to (oid.Edge f) o = one_delta (delta.RecreateObject o)

-- The deltas that a write leaves on an object that it touches; none where it changes nothing.
abbrev pub deltas_of : Op → Oid → Object → DeltaPair
deltas_of (CreateVertex v) x o = one_delta delta.DeleteObject
deltas_of (DeleteVertex v) x o = one_delta (delta.RecreateObject o)
deltas_of (AddLabel v name) x o = cond (has_label name o) no_delta (one_delta (delta.RemoveLabel name))
deltas_of (RemoveLabel v name) x o = cond (has_label name o) (one_delta (delta.AddLabel name)) no_delta
deltas_of (SetVertexProp v name value) x o = property_deltas name value o
deltas_of (CreateEdge e from kind to) x o = new_edge_deltas e from to x
deltas_of (DeleteEdge e from to) x o = lost_edge_deltas e from to x o
deltas_of (SetEdgeProp e name value) x o = property_deltas name value o

-- the object after both deltas, the newer undone first
abbrev pub undone_by : DeltaPair → Object → Object
undone_by pair o = after_some (after_some o pair.second) pair.first

-- the deltas that a write leaves on an edge that it makes or deletes, and on its two ends
abbrev pub edge_deltas_of : Op → Joined → Object → Object → Object → EdgeDeltas
edge_deltas_of op j from to edge = record {
  from = deltas_of op (oid.Vertex j.from) from;
  to = deltas_of op (oid.Vertex j.to) to;
  edge = deltas_of op (oid.Edge j.edge) edge;
}

-- and where both ends are one vertex
abbrev pub loop_deltas_of : Op → Joined → Object → Object → LoopDeltas
loop_deltas_of op j end edge = record {
  end = deltas_of op (oid.Vertex j.from) end;
  edge = deltas_of op (oid.Edge j.edge) edge;
}
