-- What an object is without its parts, and what of this a delta changes.
use Rattle.std.specs.Prelude.{Bool, true, false}
use Rattle.graph_value.specs.declared.id.VertexId.{VertexId}
use Rattle.graph_record.specs.declared.object.Object.{Object}
use Rattle.graph_record.specs.declared.object.Object.TheVariants as object
use Rattle.undo_delta.specs.declared.delta.Delta.{Delta}
use Rattle.undo_delta.specs.declared.delta.Delta.TheVariants.{DeleteObject, RecreateObject, AddLabel, RemoveLabel, SetProperty, AddInEdge, AddOutEdge, RemoveInEdge, RemoveOutEdge}
use Rattle.front_core.specs.declared.outline.Outline.{Outline}
use Rattle.front_core.specs.declared.outline.Outline.TheVariants.{Dead, Vertex, Edge}

abbrev pub outline_of : Object → Outline
outline_of object.Dead = Dead
outline_of (object.Vertex r) = Vertex
outline_of (object.Edge r) = Edge r.from r.to

abbrev pub is_absent : Outline → Bool
is_absent Dead = true
is_absent Vertex = false
is_absent (Edge from to) = false

-- only what makes or takes away an object changes its outline
abbrev pub outline_after : Outline → Delta → Outline
outline_after o DeleteObject = Dead
outline_after o (RecreateObject p) = outline_of p
outline_after o (AddLabel name) = o
outline_after o (RemoveLabel name) = o
outline_after o (SetProperty s) = o
outline_after o (AddInEdge e) = o
outline_after o (AddOutEdge e) = o
outline_after o (RemoveInEdge e) = o
outline_after o (RemoveOutEdge e) = o

-- the ends of an edge, of no account where it isn't one
abbrev pub outline_start : Outline → VertexId
outline_start Dead = record { 0 = 0 }
outline_start Vertex = record { 0 = 0 }
outline_start (Edge from to) = from

abbrev pub outline_end : Outline → VertexId
outline_end Dead = record { 0 = 0 }
outline_end Vertex = record { 0 = 0 }
outline_end (Edge from to) = to
