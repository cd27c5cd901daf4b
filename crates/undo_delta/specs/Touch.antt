-- Which objects a write touches.
use Rattle.std.specs.Prelude.{List, [], ◌∷◌, Option, Some, None, Bool, false, nat_eq, cond}
use Rattle.std.specs.List.{list_any}
use Rattle.graph_value.specs.declared.id.VertexId.{VertexId}
use Rattle.graph_value.specs.declared.id.Oid.{Oid}
use Rattle.graph_value.specs.declared.id.Oid.TheVariants as oid
use Rattle.undo_delta.specs.declared.op.Joined.{Joined}
use Rattle.undo_delta.specs.declared.op.Op.{Op}
use Rattle.undo_delta.specs.declared.op.Op.TheVariants.{CreateVertex, DeleteVertex, AddLabel, RemoveLabel, SetVertexProp, CreateEdge, DeleteEdge, SetEdgeProp}

-- the vertices that an edge comes from and goes to; once, where both are the same
abbrev pub ends : VertexId → VertexId → List Oid → List Oid
ends from to rest = cond (nat_eq from.0 to.0) (oid.Vertex from ∷ rest) (oid.Vertex from ∷ oid.Vertex to ∷ rest)

-- the objects that a write touches, in order
abbrev pub touches : Op → List Oid
touches (CreateVertex v) = oid.Vertex v ∷ []
touches (DeleteVertex v) = oid.Vertex v ∷ []
touches (AddLabel v name) = oid.Vertex v ∷ []
touches (RemoveLabel v name) = oid.Vertex v ∷ []
touches (SetVertexProp v name value) = oid.Vertex v ∷ []
touches (CreateEdge e from kind to) = ends from to (oid.Edge e ∷ [])
touches (DeleteEdge e from to) = ends from to (oid.Edge e ∷ [])
touches (SetEdgeProp e name value) = oid.Edge e ∷ []

-- the edge that a write makes or deletes, with its ends
abbrev pub joined : Op → Option Joined
joined (CreateVertex v) = None
joined (DeleteVertex v) = None
joined (AddLabel v name) = None
joined (RemoveLabel v name) = None
joined (SetVertexProp v name value) = None
joined (CreateEdge e from kind to) = Some (record { edge = e; from = from; to = to })
joined (DeleteEdge e from to) = Some (record { edge = e; from = from; to = to })
joined (SetEdgeProp e name value) = None

abbrev pub same_oid : Oid → Oid → Bool
same_oid (oid.Vertex a) (oid.Vertex b) = nat_eq a.0 b.0
same_oid (oid.Vertex a) (oid.Edge b) = false
same_oid (oid.Edge a) (oid.Vertex b) = false
same_oid (oid.Edge a) (oid.Edge b) = nat_eq a.0 b.0

abbrev pub is_touched : Op → Oid → Bool
is_touched op x = list_any (same_oid x) (touches op)
