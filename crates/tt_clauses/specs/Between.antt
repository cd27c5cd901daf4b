-- What MATCH .. [WHERE ..] RETURN items TT BETWEEN t1 AND t2 means, by the graph at each instant.
use Rattle.std.specs.Prelude.{◌≡◌, ◌≤◌, ℕ, nat_lt, if◌then◌else◌, List, [], ◌∷◌, Option, Some, None, Result, Ok, Err}
use Rattle.graph_record.specs.Graph.{Graph, empty_graph}
use Rattle.cypher_syntax.specs.declared.tree.clause.Clause.{Clause}
use Rattle.cypher_syntax.specs.declared.tree.clause.Clause.TheVariants as clause
use Rattle.cypher_syntax.specs.declared.tree.clause.MatchClause.{MatchClause}
use Rattle.cypher_syntax.specs.declared.tree.projection.Projection.{Projection}
use Rattle.cypher_syntax.specs.declared.tree.query.Query.{Query}
use Rattle.cypher_syntax.specs.declared.tree.query.Time.{Time}
use Rattle.cypher_syntax.specs.declared.tree.query.Time.TheVariants as time
use Rattle.cypher_syntax.specs.declared.tree.expr.Expr.{Expr}
use Rattle.cypher_syntax.specs.declared.tree.projection.Item.{Item}
use Rattle.expr_eval.specs.declared.refused.EvalRefused.TheVariants as eval
use Rattle.expr_eval.specs.Outcome.{Outcome}
use Rattle.pattern_match.specs.declared.steps.Plan.{Plan}
use Rattle.pattern_match.specs.Asking.{asked_of}
use Rattle.query_run.specs.declared.stop.Stop.{Stop}
use Rattle.query_run.specs.declared.stop.Stop.TheVariants as stop
use Rattle.tt_clauses.specs.Found.{Piece, all_pieces}
use Rattle.tt_clauses.specs.Instants.{instants}
use Rattle.tt_clauses.specs.Rows.{AreRows, Rows, limited}
use Rattle.tt_clauses.specs.Tuples.{AreTuples, Tuple}

-- WHAT IS ASKED

-- The patterns' maps are evaluated once. No name is bound there, so no graph matters.
abbrev pub plan_of : MatchClause → Outcome Plan
plan_of m = asked_of empty_graph [] m.patterns

-- the only clause, what is returned, and the span
pub record Asked : Type 0 where
  pub clause : MatchClause
  pub returns : Projection
  pub first : ℕ
  pub last : ℕ

-- TT BETWEEN stands there, and its first instant isn't greater than the last
abbrev pub HasSpan : Time → Type 0
HasSpan (time.Between first last) = first ≤ last
HasSpan time = ⊥

-- the two instants, where the first is greater
abbrev pub fault_of : Time → Option (ℕ × ℕ)
fault_of (time.Between first last) = if nat_lt last first then Some (first, last) else None
fault_of time = None

-- what a query asks, where it is one of this shape
abbrev pub asked_with : List Clause → Option Projection → Time → Option Asked
asked_with (clause.Match m ∷ []) (Some p) (time.Between first last) = Some (record { clause = m; returns = p; first = first; last = last })
asked_with clauses returns time = None

abbrev pub asked_in : Query → Option Asked
asked_in q = asked_with q.clauses q.returns q.time

-- WHAT IS ANSWERED

-- the pieces come to rows, or to their refusal
pub record ComesTo (pieces : List (List Piece)) (answer : Outcome Rows) : Type 0 where
  pub rows : Rows
  pub they : AreRows pieces rows
  pub told : answer ≡ limited rows

abbrev pub Gives : Outcome (List (List Piece)) → Outcome Rows → Type 0
Gives (Ok pieces) answer = ComesTo pieces answer
Gives (Err why) answer = answer ≡ Err why

-- the answer where the maps have come to this plan
pub record Joins (graphs : ℕ → Graph) (plan : Plan) (filter : Option Expr) (items : List Item) (times : List ℕ) (answer : Outcome Rows) : Type 0 where
  pub tuples : List Tuple
  pub they : AreTuples graphs plan times tuples
  pub told : Gives (all_pieces graphs plan filter items times tuples) answer

-- a refusal in the maps comes first
abbrev pub Means : (ℕ → Graph) → Asked → Outcome Plan → Outcome Rows → Type 0
Means graphs asked (Ok plan) answer = Joins graphs plan asked.clause.filter asked.returns.items (instants asked.first asked.last) answer
Means graphs asked (Err why) answer = answer ≡ Err why

-- this is said of the answer, unless memory was wanting
abbrev pub Unless : (Outcome Rows → Type 0) → Outcome Rows → Type 0
Unless Says (Err eval.NoMemory) = Unit {0}
Unless Says answer = Says answer

abbrev pub IsMeant : (ℕ → Graph) → Asked → Outcome Rows → Type 0
IsMeant graphs asked answer = Unless (Means graphs asked (plan_of asked.clause)) answer

-- no stop comes but the refusal of an evaluation
abbrev pub IsMeantBy : (ℕ → Graph) → Asked → Result Rows Stop → Type 0
IsMeantBy graphs asked (Ok rows) = IsMeant graphs asked (Ok rows)
IsMeantBy graphs asked (Err (stop.Eval why)) = IsMeant graphs asked (Err why)
IsMeantBy graphs asked (Err why) = ⊥
