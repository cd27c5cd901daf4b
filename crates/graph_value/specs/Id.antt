-- How ids are written: a letter for the kind and the number.
use Rattle.std.specs.Prelude.{ℕ, List, ◌++◌, codes}
use Rattle.std.specs.Fmt.{decimal}
use Rattle.graph_value.specs.declared.id.VertexId.{VertexId}
use Rattle.graph_value.specs.declared.id.EdgeId.{EdgeId}
use Rattle.graph_value.specs.declared.id.Oid.{Oid}
use Rattle.graph_value.specs.declared.id.Oid.TheVariants.{Vertex, Edge}

abbrev pub vertex_text : VertexId → List ℕ
vertex_text v = codes "v" ++ decimal v.0

abbrev pub edge_text : EdgeId → List ℕ
edge_text e = codes "e" ++ decimal e.0

abbrev pub oid_text : Oid → List ℕ
oid_text (Vertex v) = vertex_text v
oid_text (Edge e) = edge_text e
