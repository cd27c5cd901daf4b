-- What a delta does to an object.
use Rattle.std.specs.Prelude.{ℕ, List, Option, Some, None}
use Rattle.graph_value.specs.Name.{name_cmp}
use Rattle.graph_value.specs.declared.value.Value.{Value}
use Rattle.graph_record.specs.Ascending.{edge_cmp}
use Rattle.graph_record.specs.Edits.{added, removed}
use Rattle.graph_record.specs.Stored.{set_property}
use Rattle.graph_record.specs.declared.object.VertexRecord.{VertexRecord}
use Rattle.graph_record.specs.declared.object.Object.{Object}
use Rattle.graph_record.specs.declared.object.Object.TheVariants.{Dead, Vertex, Edge}
use Rattle.undo_delta.specs.declared.delta.Delta.{Delta}
use Rattle.undo_delta.specs.declared.delta.Delta.TheVariants.{DeleteObject, RecreateObject, AddLabel, RemoveLabel, SetProperty, AddInEdge, AddOutEdge, RemoveInEdge, RemoveOutEdge}

-- only a vertex is changed
abbrev pub on_vertex : (VertexRecord → VertexRecord) → Object → Object
on_vertex f Dead = Dead
on_vertex f (Vertex r) = Vertex (f r)
on_vertex f (Edge r) = Edge r

-- what is alive has properties
abbrev pub with_property : List ℕ → Value → Object → Object
with_property name value Dead = Dead
with_property name value (Vertex r) = Vertex (record r { props = set_property name value r.props })
with_property name value (Edge r) = Edge (record r { props = set_property name value r.props })

-- The object after a delta that changes a part of it. A delta on labels or edges leaves what is no vertex, and one on a
-- property leaves what is dead; adding what is there and removing what isn't change nothing.
abbrev pub after_part : Object → Delta → Object
after_part o DeleteObject = o
after_part o (RecreateObject p) = o
after_part o (AddLabel name) = on_vertex (λ r. record r { labels = added name_cmp name r.labels }) o
after_part o (RemoveLabel name) = on_vertex (λ r. record r { labels = removed name_cmp name r.labels }) o
after_part o (SetProperty s) = with_property s.0 s.1 o
after_part o (AddInEdge e) = on_vertex (λ r. record r { ins = added edge_cmp e r.ins }) o
after_part o (AddOutEdge e) = on_vertex (λ r. record r { outs = added edge_cmp e r.outs }) o
after_part o (RemoveInEdge e) = on_vertex (λ r. record r { ins = removed edge_cmp e r.ins }) o
after_part o (RemoveOutEdge e) = on_vertex (λ r. record r { outs = removed edge_cmp e r.outs }) o

-- The object after a delta.
abbrev pub after : Object → Delta → Object
after o DeleteObject = Dead
after o (RecreateObject p) = p
after o d = after_part o d

abbrev pub after_some : Object → Option Delta → Object
after_some o None = o
after_some o (Some d) = after o d
