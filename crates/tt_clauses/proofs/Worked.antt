-- MATCH (n:P) over a vertex v0 that is there from 2 on, but not at 6.
use Rattle.std.proofs.Common.{◌≡◌, ℕ, pos, [], ◌∷◌, List, Some, None, Ok, refl}
use Rattle.std.specs.Prelude.{nat_lt, if◌then◌else◌}
use Rattle.graph_value.specs.declared.id.Oid.TheVariants as oid
use Rattle.graph_record.specs.Graph.{Graph, empty_graph}
use Rattle.graph_reader.specs.declared.shown.Shown.TheVariants as shown
use Rattle.cypher_syntax.specs.declared.tree.pattern.Pattern.{Pattern}
use Rattle.expr_eval.specs.Outcome.{Outcome, and_then}
use Rattle.pattern_match.specs.Asking.{asked_of}
use Rattle.tt_clauses.specs.Found.{Piece, all_pieces}
use Rattle.tt_clauses.specs.Instants.{instant, instants}
use Rattle.tt_clauses.specs.Rows.{rows_of}
use Rattle.tt_clauses.specs.Tuples.{Tuple}

-- the instants from 2 to 4
span : instants 2 4 ≡ 2 ∷ 3 ∷ 4 ∷ []
span = refl

one_instant : instants 5 5 ≡ 5 ∷ []
one_instant = refl

-- v0 with the label P
abbrev one_vertex : Graph
one_vertex = record {
  vertices = (record { 0 = 0 }, record { labels = (80 ∷ []) ∷ []; props = []; outs = []; ins = [] }) ∷ [];
  edges = [];
}

abbrev graphs : ℕ → Graph
graphs t = if nat_lt t 2 then empty_graph else if nat_lt t 6 then one_vertex else if nat_lt t 7 then empty_graph else one_vertex

abbrev pattern : Pattern
pattern = record { first = record { name = Some (110 ∷ []); labels = (80 ∷ []) ∷ []; map = None }; steps = [] }

abbrev v0 : Tuple
v0 = oid.Vertex (record { 0 = 0 }) ∷ []

-- what v0 gives in each span, without items
abbrev found : ℕ → ℕ → Outcome (List (List Piece))
found first last = and_then (asked_of empty_graph [] (pattern ∷ [])) (λ plan. all_pieces graphs plan None [] (instants first last) (v0 ∷ []))

-- there is nothing before 2, and nothing at 6
pieces_found : found 1 7 ≡ Ok (((instant 2, []) ∷ (instant 3, []) ∷ (instant 4, []) ∷ (instant 5, []) ∷ (instant 7, []) ∷ []) ∷ [])
pieces_found = refl

-- both ends belong to the span
one_piece : found 3 3 ≡ Ok (((instant 3, []) ∷ []) ∷ [])
one_piece = refl

nothing_found : found 0 1 ≡ Ok ([] ∷ [])
nothing_found = refl

-- a row ends with its instants
last_of_all : rows_of ((instant 3, shown.Int (pos 1) ∷ []) ∷ []) ≡ (shown.Int (pos 1) ∷ shown.Int (pos 3) ∷ shown.Int (pos 3) ∷ []) ∷ []
last_of_all = refl
