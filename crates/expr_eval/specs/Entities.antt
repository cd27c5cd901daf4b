-- What is asked of a vertex or an edge. One that isn't alive is gone; a value of a wrong kind is told first.
use Rattle.std.specs.Prelude.{ℕ, List, Bool, map, Option, Some, None, unwrap_or, Ok, Err}
use Rattle.std.specs.FinMap.{find}
use Rattle.std.specs.List.{list_all}
use Rattle.graph_value.specs.Name.{name_cmp}
use Rattle.graph_value.specs.declared.id.VertexId.{VertexId}
use Rattle.graph_value.specs.declared.id.EdgeId.{EdgeId}
use Rattle.graph_value.specs.declared.id.Oid.TheVariants as oid
use Rattle.graph_value.specs.declared.value.Value.{Value, out-Value}
use Rattle.graph_value.specs.declared.value.Value.TheVariants as value
use Rattle.graph_value.specs.declared.value.Value.TheOpen.{Value-F}
use Rattle.graph_reader.specs.Alive.{vertex_in, edge_in}
use Rattle.graph_record.specs.Edits.{has}
use Rattle.graph_record.specs.Graph.{Graph}
use Rattle.graph_record.specs.declared.object.VertexRecord.{VertexRecord}
use Rattle.graph_record.specs.declared.object.EdgeRecord.{EdgeRecord}
use Rattle.expr_eval.specs.declared.refused.EvalRefused.TheVariants.{TypeFault, Gone}
use Rattle.expr_eval.specs.Outcome.{Outcome, and_then}
use Rattle.expr_eval.specs.Size.{sized}

abbrev pub or_gone_vertex : VertexId → Option VertexRecord → Outcome VertexRecord
or_gone_vertex v None = Err (Gone (oid.Vertex v))
or_gone_vertex v (Some r) = Ok r

abbrev pub or_gone_edge : EdgeId → Option EdgeRecord → Outcome EdgeRecord
or_gone_edge e None = Err (Gone (oid.Edge e))
or_gone_edge e (Some r) = Ok r

abbrev pub vertex_alive : Graph → VertexId → Outcome VertexRecord
vertex_alive g v = or_gone_vertex v (vertex_in g v)

abbrev pub edge_alive : Graph → EdgeId → Outcome EdgeRecord
edge_alive g e = or_gone_edge e (edge_in g e)

-- a property, or null where there is none of that name
abbrev pub property_of : List (List ℕ × Value) → List ℕ → Value
property_of props name = unwrap_or (find name_cmp name props) value.Null

abbrev pub property_level : Graph → List ℕ → Value-F Value → Outcome Value
property_level g name Value-F.Null = Ok value.Null
property_level g name (Value-F.Vertex v) = and_then (vertex_alive g v) (λ r. Ok (property_of r.props name))
property_level g name (Value-F.Edge e) = and_then (edge_alive g e) (λ r. Ok (property_of r.props name))
property_level g name v = Err TypeFault

unfoldable pub property : Graph → List ℕ → Value → Outcome Value
property g name v = property_level g name (out-Value v)

abbrev pub has_labels : List (List ℕ) → List (List ℕ) → Bool
has_labels labels names = list_all (λ name. has name_cmp name labels) names

abbrev pub labelled_level : Graph → List (List ℕ) → Value-F Value → Outcome Value
labelled_level g names Value-F.Null = Ok value.Null
labelled_level g names (Value-F.Vertex v) = and_then (vertex_alive g v) (λ r. Ok (value.Bool (has_labels r.labels names)))
labelled_level g names v = Err TypeFault

unfoldable pub labelled : Graph → List (List ℕ) → Value → Outcome Value
labelled g names v = labelled_level g names (out-Value v)

abbrev pub texts : List (List ℕ) → Outcome Value
texts names = sized (value.List (map value.Text names))

abbrev pub keys_of : List (List ℕ × Value) → Outcome Value
keys_of props = sized (value.List (map (λ p. value.Text p.0) props))

abbrev pub labels_level : Graph → Value-F Value → Outcome Value
labels_level g Value-F.Null = Ok value.Null
labels_level g (Value-F.Vertex v) = and_then (vertex_alive g v) (λ r. texts r.labels)
labels_level g v = Err TypeFault

unfoldable pub labels_of : Graph → Value → Outcome Value
labels_of g v = labels_level g (out-Value v)

abbrev pub keys_level : Graph → Value-F Value → Outcome Value
keys_level g Value-F.Null = Ok value.Null
keys_level g (Value-F.Vertex v) = and_then (vertex_alive g v) (λ r. keys_of r.props)
keys_level g (Value-F.Edge e) = and_then (edge_alive g e) (λ r. keys_of r.props)
keys_level g v = Err TypeFault

unfoldable pub keys : Graph → Value → Outcome Value
keys g v = keys_level g (out-Value v)

-- of an edge: what its record says
abbrev pub edge_level : Graph → (EdgeRecord → Value) → Value-F Value → Outcome Value
edge_level g f Value-F.Null = Ok value.Null
edge_level g f (Value-F.Edge e) = and_then (edge_alive g e) (λ r. Ok (f r))
edge_level g f v = Err TypeFault

unfoldable pub kind_of : Graph → Value → Outcome Value
kind_of g v = edge_level g (λ r. value.Text r.kind) (out-Value v)

unfoldable pub start_of : Graph → Value → Outcome Value
start_of g v = edge_level g (λ r. value.Vertex r.from) (out-Value v)

unfoldable pub end_of : Graph → Value → Outcome Value
end_of g v = edge_level g (λ r. value.Vertex r.to) (out-Value v)
