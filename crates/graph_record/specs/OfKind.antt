-- An object beside its id.
use Rattle.graph_value.specs.declared.id.Oid.{Oid}
use Rattle.graph_value.specs.declared.id.Oid.TheVariants as oid
use Rattle.graph_record.specs.declared.object.Object.{Object}
use Rattle.graph_record.specs.declared.object.Object.TheVariants.{Vertex, Edge}

-- the object is there, and the id is one of its kind
abbrev pub IsOfKind : Oid → Object → Type 0
IsOfKind (oid.Vertex id) (Vertex vertex) = Unit {0}
IsOfKind (oid.Edge id) (Edge edge) = Unit {0}
IsOfKind x o = ⊥
