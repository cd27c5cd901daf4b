-- The printed text of an object: JSON with no space, the keys of each object in ascending order.
use Rattle.std.specs.Prelude.{ℕ, List, [], ◌∷◌, map, codes}
use Rattle.serde_json.specs.Data.{Data, null, boolean, number, string, array, object, unsigned, Members, no_members, member}
use Rattle.serde_json.specs.Find.{of_integer}
use Rattle.serde_json.specs.View.{items_of}
use Rattle.serde_json.specs.Written.{compact_text}
use Rattle.graph_value.specs.declared.id.VertexId.{VertexId}
use Rattle.graph_value.specs.declared.id.EdgeId.{EdgeId}
use Rattle.graph_value.specs.declared.id.Oid.{Oid}
use Rattle.graph_value.specs.declared.id.Oid.TheVariants as oid
use Rattle.graph_value.specs.declared.value.Value.{Value, out-Value}
use Rattle.graph_value.specs.declared.value.Value.TheOpen.{Value-F}
use Rattle.graph_record.specs.declared.object.VertexRecord.{VertexRecord}
use Rattle.graph_record.specs.declared.object.EdgeRecord.{EdgeRecord}
use Rattle.graph_record.specs.declared.object.Object.{Object}
use Rattle.graph_record.specs.declared.object.Object.TheVariants.{Vertex, Edge}

-- a truth value, a number or a text
abbrev pub simple_level : {A : Type 0} → Value-F A → Data
simple_level (Value-F.Bool b) = boolean b
simple_level (Value-F.Int n) = number (of_integer n)
simple_level (Value-F.Text t) = string t
simple_level v = null

abbrev pub simple_data : Value → Data
simple_data v = simple_level (out-Value v)

-- or a list of these; an object keeps no other value, and `null` stands only so that each case has a text
abbrev pub value_level : Value-F Value → Data
value_level (Value-F.List items) = array (items_of (map simple_data items))
value_level v = simple_level v

abbrev pub value_data : Value → Data
value_data v = value_level (out-Value v)

abbrev pub number_data : ℕ → Data
number_data n = number (unsigned n)

abbrev pub id_data : EdgeId → Data
id_data id = number_data id.0

abbrev pub ids_data : List EdgeId → Data
ids_data ids = array (items_of (map id_data ids))

abbrev pub names_data : List (List ℕ) → Data
names_data names = array (items_of (map string names))

-- each property under its name, in the order of the list
abbrev pub property_members : List (List ℕ × Value) → Members
property_members [] = no_members
property_members (p ∷ ps) = member p.0 (value_data p.1) (property_members ps)

abbrev pub properties_data : List (List ℕ × Value) → Data
properties_data props = object (property_members props)

abbrev pub vertex_data : VertexId → VertexRecord → Data
vertex_data id vertex = object
    (member (codes "id") (number_data id.0)
    (member (codes "ins") (ids_data vertex.ins)
    (member (codes "labels") (names_data vertex.labels)
    (member (codes "outs") (ids_data vertex.outs)
    (member (codes "properties") (properties_data vertex.props) no_members)))))

abbrev pub edge_data : EdgeId → EdgeRecord → Data
edge_data id edge = object
    (member (codes "from") (number_data edge.from.0)
    (member (codes "id") (number_data id.0)
    (member (codes "properties") (properties_data edge.props)
    (member (codes "to") (number_data edge.to.0)
    (member (codes "type") (string edge.kind) no_members)))))

-- A vertex is printed under a vertex's id, an edge under an edge's. Nothing else is printed: `null` stands only so that each case has a value.
abbrev pub object_data : Oid → Object → Data
object_data (oid.Vertex id) (Vertex vertex) = vertex_data id vertex
object_data (oid.Edge id) (Edge edge) = edge_data id edge
object_data x o = null

-- the text, with the escapes of JSON in each name
abbrev pub object_text : Oid → Object → List ℕ
object_text x o = compact_text (object_data x o)
