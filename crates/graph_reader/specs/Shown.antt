-- A value as it is shown by a graph: each entity stands with its record.
use Rattle.std.specs.Prelude.{◌≡◌, List, [], ◌∷◌, ◌++◌, Option, Some, None, Result, Ok, Err, map}
use Rattle.graph_value.specs.declared.id.VertexId.{VertexId}
use Rattle.graph_value.specs.declared.id.EdgeId.{EdgeId}
use Rattle.graph_value.specs.declared.id.Oid.TheVariants as oid
use Rattle.graph_value.specs.declared.value.Value.{Value, fold-Value}
use Rattle.graph_value.specs.declared.value.Value.TheOpen.{Value-F}
use Rattle.graph_reader.specs.Alive.{vertex_in, edge_in}
use Rattle.graph_record.specs.Graph.{Graph}
use Rattle.graph_record.specs.declared.object.VertexRecord.{VertexRecord}
use Rattle.graph_record.specs.declared.object.EdgeRecord.{EdgeRecord}
use Rattle.graph_reader.specs.declared.shown.Shown.{Shown}
use Rattle.graph_reader.specs.declared.shown.Shown.TheVariants as shown
use Rattle.graph_reader.specs.declared.shown.ShowRefused.{ShowRefused}
use Rattle.graph_reader.specs.declared.shown.ShowRefused.TheVariants.{Gone, NoMemory}

-- what is shown, or the entity that isn't alive
abbrev pub Showing : Type 0 → Type 0
Showing A = Result A ShowRefused

abbrev pub then : {A B : Type 0} → Showing A → (A → Showing B) → Showing B
then (Ok a) f = f a
then (Err e) f = Err e

-- this is the answer, unless memory was wanting
abbrev pub Shows : {A : Type 0} → Showing A → Result A ShowRefused → Type 0
Shows o (Ok a) = o ≡ Ok a
Shows o (Err (Gone x)) = o ≡ Err (Gone x)
Shows o (Err NoMemory) = Unit {0}

abbrev pub vertex_with : VertexId → Option VertexRecord → Showing Shown
vertex_with id None = Err (Gone (oid.Vertex id))
vertex_with id (Some r) = Ok (shown.Vertex id r.labels r.props)

abbrev pub edge_with : EdgeId → Option EdgeRecord → Showing Shown
edge_with id None = Err (Gone (oid.Edge id))
edge_with id (Some r) = Ok (shown.Edge id r.kind r.from r.to r.props)

abbrev pub vertex_shown : Graph → VertexId → Showing Shown
vertex_shown g id = vertex_with id (vertex_in g id)

abbrev pub edge_shown : Graph → EdgeId → Showing Shown
edge_shown g id = edge_with id (edge_in g id)

-- behind those that are shown already, the others in order
abbrev pub all_behind : List Shown → List (Showing Shown) → Showing (List Shown)
all_behind front [] = Ok front
all_behind front (o ∷ os) = then o (λ s. all_behind (front ++ s ∷ []) os)

abbrev pub list_shown : List (Showing Shown) → Showing Shown
list_shown os = then (all_behind [] os) (λ items. Ok (shown.List items))

-- one level, with each element as it is shown in its place
abbrev pub shown_level : Graph → Value-F (Showing Shown) → Showing Shown
shown_level g Value-F.Null = Ok shown.Null
shown_level g (Value-F.Bool b) = Ok (shown.Bool b)
shown_level g (Value-F.Int n) = Ok (shown.Int n)
shown_level g (Value-F.Text t) = Ok (shown.Text t)
shown_level g (Value-F.List os) = list_shown os
shown_level g (Value-F.Vertex id) = vertex_shown g id
shown_level g (Value-F.Edge id) = edge_shown g id

abbrev pub shown_of : Graph → Value → Showing Shown
shown_of g = fold-Value (Showing Shown) (shown_level g)

abbrev pub shown_list_of : Graph → List Value → Showing Shown
shown_list_of g items = list_shown (map (shown_of g) items)
