-- What the tuples give at the instants, and which refusal is the first.
use Rattle.std.specs.Prelude.{ℕ, List, [], ◌∷◌, ◌++◌, Option, Some, None, Ok, if◌then◌else◌}
use Rattle.graph_record.specs.Graph.{Graph}
use Rattle.cypher_syntax.specs.declared.tree.expr.Expr.{Expr}
use Rattle.cypher_syntax.specs.declared.tree.projection.Item.{Item}
use Rattle.expr_eval.specs.Outcome.{Outcome, and_then}
use Rattle.pattern_match.specs.declared.steps.Plan.{Plan}
use Rattle.pattern_match.specs.Kept.{columns}
use Rattle.tt_intervals.specs.declared.span.Span.{Span}
use Rattle.tt_clauses.specs.Instants.{instant}
use Rattle.tt_clauses.specs.Tuples.{Tuple, matches}
use Rattle.tt_clauses.specs.Values.{Values, values_kept}

-- the values that there are at the instants of a span
abbrev pub Piece : Type 0
Piece = Span × Values

-- a piece of one instant, where there is something at it
abbrev pub piece_at : ℕ → Option Values → List Piece
piece_at t None = []
piece_at t (Some values) = (instant t, values) ∷ []

module _ (graphs : ℕ → Graph) (plan : Plan) (filter : Option Expr) (items : List Item) where
  -- what a tuple gives at an instant: values, or nothing
  abbrev pub given_at : Tuple → ℕ → Outcome (Option Values)
  given_at b t =
      if matches (graphs t) plan b then values_kept (graphs t) filter items (columns plan.gives b) else Ok None

  -- what a tuple gives at the instants, in the order of time, behind the pieces before
  abbrev pub pieces_on : Tuple → List Piece → List ℕ → Outcome (List Piece)
  pieces_on b done [] = Ok done
  pieces_on b done (t ∷ times) = and_then (given_at b t) (λ values. pieces_on b (done ++ piece_at t values) times)

  -- the pieces of each tuple, in order, behind those of the tuples before
  abbrev pub all_pieces_on : List ℕ → List (List Piece) → List Tuple → Outcome (List (List Piece))
  all_pieces_on times done [] = Ok done
  all_pieces_on times done (b ∷ tuples) =
      and_then (pieces_on b [] times) (λ pieces. all_pieces_on times (done ++ pieces ∷ []) tuples)

  -- The pieces of each tuple. The refusal of the first tuple that has one, at its first instant, is that of the whole.
  abbrev pub all_pieces : List ℕ → List Tuple → Outcome (List (List Piece))
  all_pieces times tuples = all_pieces_on times [] tuples
