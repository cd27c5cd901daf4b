-- The printed text of a row: a JSON array with no space, the keys of each object in ascending order.
use Rattle.std.specs.Prelude.{ℕ, List, map, codes}
use Rattle.serde_json.specs.Data.{Data, null, boolean, number, string, array, object, no_members, member}
use Rattle.serde_json.specs.Find.{of_integer}
use Rattle.serde_json.specs.View.{items_of}
use Rattle.serde_json.specs.Written.{compact_text}
use Rattle.graph_value.specs.declared.id.VertexId.{VertexId}
use Rattle.graph_value.specs.declared.id.EdgeId.{EdgeId}
use Rattle.graph_value.specs.declared.value.Value.{Value}
use Rattle.graph_reader.specs.Json.{number_data, names_data, properties_data}
use Rattle.graph_reader.specs.declared.shown.Shown.{Shown, fold-Shown}
use Rattle.graph_reader.specs.declared.shown.Shown.TheOpen.{Shown-F}

abbrev pub shown_vertex_data : VertexId → List (List ℕ) → List (List ℕ × Value) → Data
shown_vertex_data id labels props = object
    (member (codes "id") (number_data id.0)
    (member (codes "labels") (names_data labels)
    (member (codes "properties") (properties_data props) no_members)))

abbrev pub shown_edge_data : EdgeId → List ℕ → VertexId → VertexId → List (List ℕ × Value) → Data
shown_edge_data id kind from to props = object
    (member (codes "from") (number_data from.0)
    (member (codes "id") (number_data id.0)
    (member (codes "properties") (properties_data props)
    (member (codes "to") (number_data to.0)
    (member (codes "type") (string kind) no_members)))))

-- one level, with the data of each element in its place
abbrev pub shown_level_data : Shown-F Data → Data
shown_level_data Shown-F.Null = null
shown_level_data (Shown-F.Bool b) = boolean b
shown_level_data (Shown-F.Int n) = number (of_integer n)
shown_level_data (Shown-F.Text t) = string t
shown_level_data (Shown-F.List items) = array (items_of items)
shown_level_data (Shown-F.Vertex id labels props) = shown_vertex_data id labels props
shown_level_data (Shown-F.Edge id kind from to props) = shown_edge_data id kind from to props

abbrev pub shown_data : Shown → Data
shown_data = fold-Shown Data shown_level_data

abbrev pub row_data : List Shown → Data
row_data row = array (items_of (map shown_data row))

-- the text, with the escapes of JSON in each name
abbrev pub row_text : List Shown → List ℕ
row_text row = compact_text (row_data row)
