-- A write keeps the vertices and the edges of a graph in order.
use Rattle.std.proofs.Common.{◌≡◌, Option, Some, None, Bool, true, false, not, refl, ap, ◌∙◌}
use Rattle.std.specs.Prelude.{IsTrue}
use Rattle.std.specs.FinMap.{find, put, is_sorted}
use Rattle.std.specs.FinMap.Entries.{is_sorted-put, is_sorted-where_key}
use Rattle.std.specs.Ordering.{eq_by_cmp}
use Rattle.std.proofs.Math.Dec.{T}
use Rattle.std.proofs.lemmas.Bool.{false≢true}
use Rattle.graph_value.specs.Name.{name_cmp}
use Rattle.graph_value.specs.declared.id.VertexId.{VertexId}
use Rattle.graph_record.specs.declared.object.VertexRecord.{VertexRecord}
use Rattle.graph_record.specs.declared.object.EdgeRecord.{EdgeRecord}
use Rattle.graph_record.specs.Edits.{added, removed, removed_key}
use Rattle.graph_record.specs.Record.{empty_vertex}
use Rattle.graph_record.specs.Stored.{set_property}
use Rattle.graph_record.specs.Graph.{Graph, vertex_cmp, edge_cmp}
use Rattle.undo_delta.specs.Change.{new_edge}
use Rattle.undo_delta.specs.declared.op.Op.{Op}
use Rattle.undo_delta.specs.declared.op.Op.TheVariants.{CreateVertex, DeleteVertex, AddLabel, RemoveLabel, SetVertexProp, CreateEdge, DeleteEdge, SetEdgeProp}
use Rattle.world_model.specs.Op.{apply, with_found_vertex, with_vertex, with_found_edge}
use Rattle.world_model.proofs.Objects.{vertices_total, edges_total, with_vertex_edges}

to_T : (b : Bool) → b ≡ true → T b
to_T true h = tt
to_T false h = absurd (false≢true h)

from_T : (b : Bool) → T b → b ≡ true
from_T true h = refl
from_T false h = elim h [ ]

vertices_stay : (g : Graph) (v : VertexId) (f : VertexRecord → VertexRecord) → IsTrue (is_sorted vertex_cmp g.vertices) → IsTrue (is_sorted vertex_cmp (with_vertex v f g).vertices)
vertices_stay g v f h = found (find vertex_cmp v g.vertices)
  where
    found : (r : Option VertexRecord) → IsTrue (is_sorted vertex_cmp (with_found_vertex g v f r).vertices)
    found None = h
    found (Some r) = from_T _ (is_sorted-put vertex_cmp vertices_total v (f r) g.vertices (to_T _ h))

pub vertices_sorted : (op : Op) (g : Graph) → IsTrue (is_sorted vertex_cmp g.vertices) → IsTrue (is_sorted vertex_cmp (apply op g).vertices)
vertices_sorted (CreateVertex v) g h = from_T _ (is_sorted-put vertex_cmp vertices_total v empty_vertex g.vertices (to_T _ h))
vertices_sorted (DeleteVertex v) g h = from_T _ (is_sorted-where_key vertex_cmp (λ u. not (eq_by_cmp vertex_cmp v u)) g.vertices (to_T _ h))
vertices_sorted (AddLabel v name) g h = vertices_stay g v (λ r. record r { labels = added name_cmp name r.labels }) h
vertices_sorted (RemoveLabel v name) g h = vertices_stay g v (λ r. record r { labels = removed name_cmp name r.labels }) h
vertices_sorted (SetVertexProp v k x) g h = vertices_stay g v (λ r. record r { props = set_property k x r.props }) h
vertices_sorted (CreateEdge e from kind to) g h =
    vertices_stay _ to (λ r. record r { ins = added edge_cmp e r.ins })
    (vertices_stay (record g { edges = put edge_cmp e (new_edge kind from to) g.edges }) from (λ r. record r { outs = added edge_cmp e r.outs }) h)
vertices_sorted (DeleteEdge e from to) g h =
    vertices_stay _ to (λ r. record r { ins = removed edge_cmp e r.ins })
    (vertices_stay (record g { edges = removed_key edge_cmp e g.edges }) from (λ r. record r { outs = removed edge_cmp e r.outs }) h)
vertices_sorted (SetEdgeProp e k x) g h = found (find edge_cmp e g.edges)
  where
    found : (r : Option EdgeRecord) → IsTrue (is_sorted vertex_cmp (with_found_edge g e (λ r. record r { props = set_property k x r.props }) r).vertices)
    found None = h
    found (Some r) = h

edges_beside : (g : Graph) (v : VertexId) (f : VertexRecord → VertexRecord) → IsTrue (is_sorted edge_cmp g.edges) → IsTrue (is_sorted edge_cmp (with_vertex v f g).edges)
edges_beside g v f h = ap (is_sorted edge_cmp) (with_vertex_edges g v f) ∙ h

pub edges_sorted : (op : Op) (g : Graph) → IsTrue (is_sorted edge_cmp g.edges) → IsTrue (is_sorted edge_cmp (apply op g).edges)
edges_sorted (CreateVertex v) g h = h
edges_sorted (DeleteVertex v) g h = h
edges_sorted (AddLabel v name) g h = edges_beside g v (λ r. record r { labels = added name_cmp name r.labels }) h
edges_sorted (RemoveLabel v name) g h = edges_beside g v (λ r. record r { labels = removed name_cmp name r.labels }) h
edges_sorted (SetVertexProp v k x) g h = edges_beside g v (λ r. record r { props = set_property k x r.props }) h
edges_sorted (CreateEdge e from kind to) g h =
    edges_beside (with_vertex from (λ r. record r { outs = added edge_cmp e r.outs }) (record g { edges = put edge_cmp e (new_edge kind from to) g.edges })) to (λ r. record r { ins = added edge_cmp e r.ins })
    (edges_beside (record g { edges = put edge_cmp e (new_edge kind from to) g.edges }) from (λ r. record r { outs = added edge_cmp e r.outs })
    (from_T _ (is_sorted-put edge_cmp edges_total e (new_edge kind from to) g.edges (to_T _ h))))
edges_sorted (DeleteEdge e from to) g h =
    edges_beside (with_vertex from (λ r. record r { outs = removed edge_cmp e r.outs }) (record g { edges = removed_key edge_cmp e g.edges })) to (λ r. record r { ins = removed edge_cmp e r.ins })
    (edges_beside (record g { edges = removed_key edge_cmp e g.edges }) from (λ r. record r { outs = removed edge_cmp e r.outs })
    (from_T _ (is_sorted-where_key edge_cmp (λ u. not (eq_by_cmp edge_cmp e u)) g.edges (to_T _ h))))
edges_sorted (SetEdgeProp e k x) g h = found (find edge_cmp e g.edges)
  where
    found : (r : Option EdgeRecord) → IsTrue (is_sorted edge_cmp (with_found_edge g e (λ r. record r { props = set_property k x r.props }) r).edges)
    found None = h
    found (Some r) = from_T _ (is_sorted-put edge_cmp edges_total e (record r { props = set_property k x r.props }) g.edges (to_T _ h))
