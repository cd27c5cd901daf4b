-- What is alive in a graph.
use Rattle.std.specs.Prelude.{◌≡◌, ◌≤◌, Bool, true, List, [], ◌∷◌, Option, Some, None, is_some, nat_lt, if◌then◌else◌}
use Rattle.std.specs.FinMap.{find}
use Rattle.graph_value.specs.declared.id.VertexId.{VertexId}
use Rattle.graph_value.specs.declared.id.EdgeId.{EdgeId}
use Rattle.graph_record.specs.Graph.{Graph, vertex_cmp, edge_cmp}
use Rattle.graph_record.specs.declared.object.VertexRecord.{VertexRecord}
use Rattle.graph_record.specs.declared.object.EdgeRecord.{EdgeRecord}

-- the record of a vertex or of an edge; none where it isn't alive
abbrev pub vertex_in : Graph → VertexId → Option VertexRecord
vertex_in g v = find vertex_cmp v g.vertices

abbrev pub edge_in : Graph → EdgeId → Option EdgeRecord
edge_in g e = find edge_cmp e g.edges

-- whether a vertex is alive
abbrev pub is_alive : Graph → VertexId → Bool
is_alive g v = is_some (vertex_in g v)

-- whether a vertex is above another one, or above none
abbrev pub is_above : Option VertexId → VertexId → Bool
is_above None v = true
is_above (Some after) v = nat_lt after.0 v.0

-- the first vertex above another one, which is the least, since the vertices of a graph ascend
abbrev pub first_above : Option VertexId → List (VertexId × VertexRecord) → Option VertexId
first_above after [] = None
first_above after (p ∷ ps) = if is_above after p.0 then Some p.0 else first_above after ps

abbrev pub next_vertex_in : Graph → Option VertexId → Option VertexId
next_vertex_in g after = first_above after g.vertices

-- the vertex is the least that is alive above another one
pub record IsLeastAbove (g : Graph) (after : Option VertexId) (v : VertexId) : Type 0 where
  pub above : is_above after v ≡ true
  pub alive : is_alive g v ≡ true
  pub least : (w : VertexId) → is_above after w ≡ true → is_alive g w ≡ true → v.0 ≤ w.0
