-- Whether lists of vertices and edges are a graph, told by looking up each edge and each end.
use Rattle.std.specs.Prelude.{ℕ, List, [], ◌∷◌, Bool, true, false, ◌&&◌, Option, Some, None, nat_eq, nat_lt, if◌then◌else◌}
use Rattle.std.specs.FinMap.{find}
use Rattle.std.specs.List.{list_all}
use Rattle.graph_value.specs.declared.id.VertexId.{VertexId}
use Rattle.graph_value.specs.declared.id.EdgeId.{EdgeId}
use Rattle.graph_record.specs.declared.object.VertexRecord.{VertexRecord}
use Rattle.graph_record.specs.declared.object.EdgeRecord.{EdgeRecord}
use Rattle.graph_record.specs.Edits.{has}
use Rattle.graph_record.specs.Graph.{Graph, vertex_cmp, edge_cmp}

abbrev pub Vertices : Type 0
Vertices = List (VertexId × VertexRecord)

abbrev pub Edges : Type 0
Edges = List (EdgeId × EdgeRecord)

abbrev pub is_above : Option ℕ → ℕ → Bool
is_above None n = true
is_above (Some after) n = nat_lt after n

-- each number is above the one before
abbrev pub ascends : {K X : Type 0} → (K → ℕ) → Option ℕ → List (K × X) → Bool
ascends number last [] = true
ascends number last (p ∷ ps) = is_above last (number p.0) && ascends number (Some (number p.0)) ps

abbrev pub vertices_ascend : Option ℕ → Vertices → Bool
vertices_ascend last vs = ascends (λ (v : VertexId). v.0) last vs

abbrev pub edges_ascend : Option ℕ → Edges → Bool
edges_ascend last es = ascends (λ (e : EdgeId). e.0) last es

-- whether a vertex has the edge in this list of its record
abbrev pub is_listed : (VertexRecord → List EdgeId) → Option VertexRecord → EdgeId → Bool
is_listed list None e = false
is_listed list (Some r) e = has edge_cmp e (list r)

-- whether an edge has the vertex at this end of its record
abbrev pub is_named : (EdgeRecord → VertexId) → VertexId → Option EdgeRecord → Bool
is_named end v None = false
is_named end v (Some r) = nat_eq (end r).0 v.0

abbrev pub has_out : Option VertexRecord → EdgeId → Bool
has_out o e = is_listed (λ r. r.outs) o e

abbrev pub has_in : Option VertexRecord → EdgeId → Bool
has_in o e = is_listed (λ r. r.ins) o e

abbrev pub comes_from : VertexId → Option EdgeRecord → Bool
comes_from v o = is_named (λ r. r.from) v o

abbrev pub goes_to : VertexId → Option EdgeRecord → Bool
goes_to v o = is_named (λ r. r.to) v o

-- the vertex at this end of the edge lists it
abbrev pub end_lists : (VertexRecord → List EdgeId) → (EdgeRecord → VertexId) → Vertices → EdgeId × EdgeRecord → Bool
end_lists list end vs p = is_listed list (find vertex_cmp (end p.1) vs) p.0

-- each edge that the vertex lists has it at this end
abbrev pub all_named : (EdgeRecord → VertexId) → Edges → List EdgeId → VertexId → Bool
all_named end es ids v = list_all (λ e. is_named end v (find edge_cmp e es)) ids

abbrev pub lists_its_own : (VertexRecord → List EdgeId) → (EdgeRecord → VertexId) → Edges → VertexId × VertexRecord → Bool
lists_its_own list end es p = all_named end es (list p.1) p.0

abbrev pub starts_agree : Vertices → Edges → Bool
starts_agree vs es = list_all (end_lists (λ r. r.outs) (λ r. r.from) vs) es && list_all (lists_its_own (λ r. r.outs) (λ r. r.from) es) vs

abbrev pub ends_agree : Vertices → Edges → Bool
ends_agree vs es = list_all (end_lists (λ r. r.ins) (λ r. r.to) vs) es && list_all (lists_its_own (λ r. r.ins) (λ r. r.to) es) vs

abbrev pub are_coherent : Vertices → Edges → Bool
are_coherent vs es = ((vertices_ascend None vs && edges_ascend None es) && starts_agree vs es) && ends_agree vs es

abbrev pub graph_of : Vertices → Edges → Option Graph
graph_of vs es = if are_coherent vs es then Some (record { vertices = vs; edges = es }) else None
