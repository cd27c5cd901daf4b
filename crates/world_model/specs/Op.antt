-- What a write makes of a graph, and where it may stand.
use Rattle.std.specs.Prelude.{◌≡◌, ℕ, List, [], ◌∷◌, Option, Some, None, Bool, true, not, ◌&&◌, nat_lt}
use Rattle.std.specs.List.{list_any, list_all}
use Rattle.std.specs.FinMap.{find, put}
use Rattle.graph_value.specs.Name.{name_cmp}
use Rattle.graph_value.specs.Value.{same_value}
use Rattle.graph_value.specs.declared.id.VertexId.{VertexId}
use Rattle.graph_value.specs.declared.id.EdgeId.{EdgeId}
use Rattle.graph_value.specs.declared.id.Oid.{Oid}
use Rattle.graph_value.specs.declared.id.Oid.TheVariants.{Vertex, Edge}
use Rattle.graph_record.specs.declared.object.VertexRecord.{VertexRecord}
use Rattle.graph_record.specs.declared.object.EdgeRecord.{EdgeRecord}
use Rattle.graph_record.specs.Edits.{added, removed, removed_key}
use Rattle.graph_record.specs.Record.{empty_vertex}
use Rattle.graph_record.specs.Stored.{set_property}
use Rattle.graph_record.specs.Graph.{Graph, vertex_cmp, edge_cmp, object_at}
use Rattle.undo_delta.specs.Change as one
use Rattle.undo_delta.specs.Change.{new_edge, has_label, value_at, kept}
use Rattle.undo_delta.specs.Touch.{touches, is_touched}
use Rattle.undo_delta.specs.declared.op.Op.{Op}
use Rattle.undo_delta.specs.declared.op.Op.TheVariants.{CreateVertex, DeleteVertex, AddLabel, RemoveLabel, SetVertexProp, CreateEdge, DeleteEdge, SetEdgeProp}

-- the vertex with its record changed, where it is alive
abbrev pub with_found_vertex : Graph → VertexId → (VertexRecord → VertexRecord) → Option VertexRecord → Graph
with_found_vertex g v f None = g
with_found_vertex g v f (Some r) = record g { vertices = put vertex_cmp v (f r) g.vertices }

abbrev pub with_vertex : VertexId → (VertexRecord → VertexRecord) → Graph → Graph
with_vertex v f g = with_found_vertex g v f (find vertex_cmp v g.vertices)

abbrev pub with_found_edge : Graph → EdgeId → (EdgeRecord → EdgeRecord) → Option EdgeRecord → Graph
with_found_edge g e f None = g
with_found_edge g e f (Some r) = record g { edges = put edge_cmp e (f r) g.edges }

abbrev pub with_edge : EdgeId → (EdgeRecord → EdgeRecord) → Graph → Graph
with_edge e f g = with_found_edge g e f (find edge_cmp e g.edges)

-- The graph after a write. A new vertex has an empty record, a new edge no properties, and its id stands among those
-- that leave the one vertex and come to the other; a deleted edge is taken out there. All else stays.
abbrev pub apply : Op → Graph → Graph
apply (CreateVertex v) g = record g { vertices = put vertex_cmp v empty_vertex g.vertices }
apply (DeleteVertex v) g = record g { vertices = removed_key vertex_cmp v g.vertices }
apply (AddLabel v name) g = with_vertex v (λ r. record r { labels = added name_cmp name r.labels }) g
apply (RemoveLabel v name) g = with_vertex v (λ r. record r { labels = removed name_cmp name r.labels }) g
apply (SetVertexProp v name value) g = with_vertex v (λ r. record r { props = set_property name value r.props }) g
apply (CreateEdge e from kind to) g =
    with_vertex to (λ r. record r { ins = added edge_cmp e r.ins })
    (with_vertex from (λ r. record r { outs = added edge_cmp e r.outs })
    (record g { edges = put edge_cmp e (new_edge kind from to) g.edges }))
apply (DeleteEdge e from to) g =
    with_vertex to (λ r. record r { ins = removed edge_cmp e r.ins })
    (with_vertex from (λ r. record r { outs = removed edge_cmp e r.outs })
    (record g { edges = removed_key edge_cmp e g.edges }))
apply (SetEdgeProp e name value) g = with_edge e (λ r. record r { props = set_property name value r.props }) g

-- the graph after several writes, in order
unfoldable pub apply_all : List Op → Graph → Graph
apply_all [] g = g
apply_all (op ∷ ops) g = apply_all ops (apply op g)

-- whether one of the writes touches the object
unfoldable pub are_touching : List Op → Oid → Bool
are_touching ops x = list_any (λ op. is_touched op x) ops

-- Whether a write may stand at this graph: it is possible on each object that it touches. A created object is dead,
-- each other one is alive; a deleted vertex has no edges; a created edge stands in no list of its two vertices; a
-- deleted edge has the ends that the write names and stands in their lists.
abbrev pub is_possible : Op → Graph → Bool
is_possible op g = list_all (λ x. one.is_possible op x (object_at g x)) (touches op)

-- Whether a possible write changes the graph: a label isn't there, or is; a property doesn't have that value already.
abbrev pub changes : Op → Graph → Bool
changes (CreateVertex v) g = true
changes (DeleteVertex v) g = true
changes (AddLabel v name) g = not (has_label name (object_at g (Vertex v)))
changes (RemoveLabel v name) g = has_label name (object_at g (Vertex v))
changes (SetVertexProp v name value) g = not (same_value (value_at name (object_at g (Vertex v))) (kept value))
changes (CreateEdge e from kind to) g = true
changes (DeleteEdge e from to) g = true
changes (SetEdgeProp e name value) g = not (same_value (value_at name (object_at g (Edge e))) (kept value))

-- two graphs with the same object under each id
abbrev pub SameObjects : Graph → Graph → Type 0
SameObjects g h = (x : Oid) → object_at h x ≡ object_at g x

-- each write is possible where it stands, and changes the graph there
unfoldable pub are_sound : List Op → Graph → Bool
are_sound [] g = true
are_sound (op ∷ ops) g = is_possible op g && changes op g && are_sound ops (apply op g)

-- the object's id was given out: it is below its counter
abbrev pub is_given : ℕ → ℕ → Oid → Bool
is_given vertices edges (Vertex v) = nat_lt v.0 vertices
is_given vertices edges (Edge e) = nat_lt e.0 edges

-- every object that the writes touch has an id that was given out
unfoldable pub are_below : ℕ → ℕ → List Op → Bool
are_below vertices edges ops = list_all (λ op. list_all (is_given vertices edges) (touches op)) ops
