-- DELETE: first all that the names stand for in all rows, and then what goes, each once.
use Rattle.std.specs.Prelude.{ℕ, nat_eq, List, [], ◌∷◌, ◌++◌, map, filter, Bool, true, false, Option, Some, None, Ok, Err, if◌then◌else◌}
use Rattle.std.specs.List.{list_any}
use Rattle.std.specs.Set.{sorted_merge}
use Rattle.graph_value.specs.declared.id.EdgeId.{EdgeId}
use Rattle.graph_value.specs.declared.id.Oid.{Oid}
use Rattle.graph_value.specs.declared.id.Oid.TheVariants.{Vertex, Edge}
use Rattle.graph_reader.specs.Alive.{vertex_in}
use Rattle.graph_record.specs.Graph.{Graph, edge_cmp}
use Rattle.graph_record.specs.declared.object.VertexRecord.{VertexRecord}
use Rattle.expr_eval.specs.declared.refused.EvalRefused.TheVariants.{TypeFault}
use Rattle.expr_eval.specs.Outcome.{Outcome, and_then}
use Rattle.expr_eval.specs.Row.{Row}
use Rattle.write_ops.specs.declared.target.Target.{Target}
use Rattle.write_ops.specs.declared.target.Target.TheVariants as target
use Rattle.write_ops.specs.Over.{over}
use Rattle.write_ops.specs.Setting.{Ops}
use Rattle.write_ops.specs.Targets.{target_of, is_alive}
use Rattle.write_ops.specs.Writing.{delete_op}

-- WHAT THE NAMES STAND FOR

abbrev pub with_if : Bool → Oid → List Oid → List Oid
with_if b x found = if b then found ++ x ∷ [] else found

-- Null and what isn't alive are left out. A value that is no vertex or edge is of a wrong kind.
abbrev pub with_target : Graph → List Oid → Target → Outcome (List Oid)
with_target g found target.Nothing = Ok found
with_target g found (target.Entity x) = Ok (with_if (is_alive g x) x found)
with_target g found target.Other = Err TypeFault

abbrev pub with_name : Graph → Row → List Oid → List ℕ → Outcome (List Oid)
with_name g row found name = with_target g found (target_of row name)

abbrev pub with_row : Graph → List (List ℕ) → List Oid → Row → Outcome (List Oid)
with_row g names found row = over (with_name g row) found names

abbrev pub found_of : Graph → List (List ℕ) → List Row → Outcome (List Oid)
found_of g names table = over (with_row g names) [] table

-- WHAT GOES

abbrev pub is_edge : Oid → Bool
is_edge (Edge e) = true
is_edge (Vertex v) = false

abbrev pub is_vertex : Oid → Bool
is_vertex (Vertex v) = true
is_vertex (Edge e) = false

abbrev pub same : Oid → Oid → Bool
same (Vertex a) (Vertex b) = nat_eq a.0 b.0
same (Edge a) (Edge b) = nat_eq a.0 b.0
same a b = false

-- those that are neither before nor among these
abbrev pub firsts_on : List Oid → List Oid → List Oid
firsts_on known [] = []
firsts_on known (x ∷ xs) = if list_any (same x) known then firsts_on known xs else x ∷ firsts_on (known ++ x ∷ []) xs

-- each at its first place
abbrev pub firsts : List Oid → List Oid
firsts xs = firsts_on [] xs

-- the edges that come from a vertex and those that go to it as one ascending list, each once
abbrev pub edges_of : Option VertexRecord → List EdgeId
edges_of None = []
edges_of (Some r) = sorted_merge edge_cmp true r.outs r.ins

-- what goes before: with DETACH the edges of a vertex
abbrev pub before : Graph → Bool → Oid → List Oid
before g true (Vertex v) = map Edge (edges_of (vertex_in g v))
before g detach x = []

abbrev pub with_vertex : Graph → Bool → List Oid → Oid → Outcome (List Oid)
with_vertex g detach all x = Ok ((all ++ before g detach x) ++ x ∷ [])

-- the edges that were found, and then each vertex, behind what goes before it
abbrev pub doomed : Graph → Bool → List Oid → Outcome (List Oid)
doomed g detach found = over (with_vertex g detach) (filter is_edge found) (firsts (filter is_vertex found))

abbrev pub deletes : List Oid → Ops
deletes all = map delete_op (firsts all)

abbrev pub delete_of : Graph → Bool → List (List ℕ) → List Row → Outcome Ops
delete_of g detach names table =
    and_then (found_of g names table) (λ found. and_then (doomed g detach found) (λ all. Ok (deletes all)))
