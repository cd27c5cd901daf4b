-- What a reader over a store makes of the store's answers.
use Rattle.std.specs.Prelude.{ℕ, Option, Some, None}
use Rattle.graph_value.specs.declared.id.VertexId.{VertexId}
use Rattle.graph_record.specs.declared.object.VertexRecord.{VertexRecord}
use Rattle.graph_record.specs.declared.object.EdgeRecord.{EdgeRecord}
use Rattle.graph_record.specs.declared.object.Object.{Object}
use Rattle.graph_record.specs.declared.object.Object.TheVariants.{Dead, Vertex, Edge}

abbrev pub vertex_number : VertexId → ℕ
vertex_number v = v.0

abbrev pub numbered : ℕ → VertexId
numbered n = record { 0 = n }

-- the record of a vertex, or of an edge, where it is there
abbrev pub vertex_record : Object → Option VertexRecord
vertex_record Dead = None
vertex_record (Vertex r) = Some r
vertex_record (Edge r) = None

abbrev pub edge_record : Object → Option EdgeRecord
edge_record Dead = None
edge_record (Vertex r) = None
edge_record (Edge r) = Some r
