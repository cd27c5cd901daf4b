-- Printed objects, computed.
use Rattle.std.proofs.Common.{◌≡◌, ℕ, pos, negsuc, List, [], ◌∷◌, codes, refl}
use Rattle.std.specs.Fmt.{digits}
use Rattle.serde_json.proofs.OnLiterals.{serde_json_on_literals}
use Rattle.serde_json.specs.Written.{compact_text}
use Rattle.graph_value.specs.declared.id.EdgeId.{EdgeId}
use Rattle.graph_value.specs.declared.id.Oid.TheVariants as oid
use Rattle.graph_value.specs.declared.value.Value.{Value}
use Rattle.graph_value.specs.declared.value.Value.TheVariants.{Int}
use Rattle.graph_value.proofs.Levels.{int_level}
use Rattle.graph_reader.specs.Json.{value_data, object_text}
use Rattle.graph_record.specs.declared.object.VertexRecord.{VertexRecord}
use Rattle.graph_record.specs.declared.object.EdgeRecord.{EdgeRecord}
use Rattle.graph_record.specs.declared.object.Object.TheVariants.{Vertex, Edge}

abbrev vertex : List (List ℕ × Value) → List EdgeId → VertexRecord
vertex props outs = record { labels = []; props = props; outs = outs; ins = [] }

abbrev edge : EdgeRecord
edge = record { kind = codes "KNOWS"; from = record { 0 = 1 }; to = record { 0 = 2 }; props = (codes "k", Int (pos 0)) ∷ [] }

one_property : object_text (oid.Vertex record { 0 = 0 }) (Vertex (vertex ((codes "k", Int (pos 1)) ∷ []) [])) ≡ codes "{\"id\":0,\"ins\":[],\"labels\":[],\"outs\":[],\"properties\":{\"k\":1}}"
unfolding serde_json_on_literals digits
one_property = rw (int_level (pos 1)) refl

one_edge_out : object_text (oid.Vertex record { 0 = 0 }) (Vertex (vertex [] (record { 0 = 0 } ∷ []))) ≡ codes "{\"id\":0,\"ins\":[],\"labels\":[],\"outs\":[0],\"properties\":{}}"
unfolding serde_json_on_literals digits
one_edge_out = refl

an_edge : object_text (oid.Edge record { 0 = 3 }) (Edge edge) ≡ codes "{\"from\":1,\"id\":3,\"properties\":{\"k\":0},\"to\":2,\"type\":\"KNOWS\"}"
unfolding serde_json_on_literals digits
an_edge = rw (int_level (pos 0)) refl

least_integer : compact_text (value_data (Int (negsuc 9223372036854775807))) ≡ codes "-9223372036854775808"
unfolding serde_json_on_literals digits
least_integer = rw (int_level (negsuc 9223372036854775807)) refl
