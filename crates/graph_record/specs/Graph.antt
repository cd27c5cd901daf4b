-- The graph at one instant: what is alive, and what each object is.
use Rattle.std.specs.Prelude.{◌≡◌, List, [], Option, Some, None, Bool, true, false, IsTrue, nat_eq}
use Rattle.std.specs.List.{list_any}
use Rattle.std.specs.FinMap.{find, is_sorted}
use Rattle.std.specs.Ordering.{nat_cmp}
use Rattle.std.specs.declared.cmp.Ordering.{Ordering}
use Rattle.graph_value.specs.declared.id.VertexId.{VertexId}
use Rattle.graph_value.specs.declared.id.EdgeId.{EdgeId}
use Rattle.graph_value.specs.declared.id.Oid.{Oid}
use Rattle.graph_value.specs.declared.id.Oid.TheVariants as oid
pub use Rattle.graph_record.specs.Ascending.{edge_cmp}
use Rattle.graph_record.specs.declared.object.VertexRecord.{VertexRecord}
use Rattle.graph_record.specs.declared.object.EdgeRecord.{EdgeRecord}
use Rattle.graph_record.specs.declared.object.Object.{Object}
use Rattle.graph_record.specs.declared.object.Object.TheVariants.{Dead, Vertex, Edge}

-- the vertices and the edges that are alive, each list ascending by id
pub record Graph : Type 0 where
  pub vertices : List (VertexId × VertexRecord)
  pub edges : List (EdgeId × EdgeRecord)

abbrev pub empty_graph : Graph
empty_graph = record { vertices = []; edges = [] }

-- vertices are ordered by their numbers, as edges are
abbrev pub vertex_cmp : VertexId → VertexId → Ordering
vertex_cmp a b = nat_cmp a.0 b.0

abbrev pub vertex_object : Option VertexRecord → Object
vertex_object None = Dead
vertex_object (Some r) = Vertex r

abbrev pub edge_object : Option EdgeRecord → Object
edge_object None = Dead
edge_object (Some r) = Edge r

-- the object of an id: dead where the id isn't listed
abbrev pub object_at : Graph → Oid → Object
object_at g (oid.Vertex v) = vertex_object (find vertex_cmp v g.vertices)
object_at g (oid.Edge e) = edge_object (find edge_cmp e g.edges)

abbrev pub is_dead : Object → Bool
is_dead Dead = true
is_dead (Vertex r) = false
is_dead (Edge r) = false

-- whether a vertex has the edge in this list of its record
abbrev pub is_listed : (VertexRecord → List EdgeId) → EdgeId → Object → Bool
is_listed list e Dead = false
is_listed list e (Vertex r) = list_any (λ f. nat_eq f.0 e.0) (list r)
is_listed list e (Edge r) = false

-- whether an edge has the vertex at this end of its record
abbrev pub is_named : (EdgeRecord → VertexId) → VertexId → Object → Bool
is_named end v Dead = false
is_named end v (Vertex r) = false
is_named end v (Edge r) = nat_eq (end r).0 v.0

-- whether a vertex lists the edge among those that leave it, and among those that come to it
abbrev pub has_out : EdgeId → Object → Bool
has_out e o = is_listed (λ r. r.outs) e o

abbrev pub has_in : EdgeId → Object → Bool
has_in e o = is_listed (λ r. r.ins) e o

-- whether an edge comes from the vertex, and whether it goes to it
abbrev pub comes_from : VertexId → Object → Bool
comes_from v o = is_named (λ r. r.from) v o

abbrev pub goes_to : VertexId → Object → Bool
goes_to v o = is_named (λ r. r.to) v o

-- Vertices and edges tell the same: an edge comes from a vertex exactly where that lists it, and goes to one likewise.
pub record IsCoherent (g : Graph) : Type 0 where
  pub vertices_ascend : IsTrue (is_sorted vertex_cmp g.vertices)
  pub edges_ascend : IsTrue (is_sorted edge_cmp g.edges)
  pub starts : (e : EdgeId) (v : VertexId) → comes_from v (object_at g (oid.Edge e)) ≡ has_out e (object_at g (oid.Vertex v))
  pub ends : (e : EdgeId) (v : VertexId) → goes_to v (object_at g (oid.Edge e)) ≡ has_in e (object_at g (oid.Vertex v))
