-- The parser of queries, beside the rules of the grammar.
use Rattle.std.specs.Prelude.{ℕ, List, [], ◌∷◌, ◌++◌, Option, Some, None}
use Rattle.cypher_syntax.specs.declared.tree.clause.Clause.{Clause}
use Rattle.cypher_syntax.specs.declared.tree.expr.Expr.{Expr}
use Rattle.cypher_syntax.specs.declared.tree.projection.Projection.{Projection}
use Rattle.cypher_syntax.specs.declared.tree.query.Query.{Query}
use Rattle.cypher_syntax.specs.declared.tree.query.Stage.{Stage}
use Rattle.cypher_syntax.specs.declared.tree.query.Time.{Time}
use Rattle.cypher_syntax.specs.declared.tree.query.Time.TheVariants as time
use Rattle.cypher_parse.specs.declared.kind.Kind.TheVariants as k
use Rattle.cypher_parse.specs.declared.kinds.TheConstants.{READINGS, UPDATES}
use Rattle.cypher_parse.specs.ClauseParsers.{reading, updating}
use Rattle.cypher_parse.specs.ExpressionParsers.{flag, expression}
use Rattle.cypher_parse.specs.Parsers.{Parser, seq, bind, map_out, after, alt, opt, many}
use Rattle.cypher_parse.specs.ProjectionParsers.{number, returned, passed}
use Rattle.cypher_parse.specs.Queries.{Last, stage_of, query_of}

-- the reading and the updating clauses in front of WITH or RETURN
abbrev pub Clauses : Type 0
Clauses = List Clause × List Clause

-- the clauses in front of the first WITH, and what follows each WITH
abbrev pub Stages : Type 0
Stages = Clauses × List (Projection × Clauses)

abbrev pub stages_from : Clauses → List (Projection × Clauses) → List Stage
stages_from first [] = []
stages_from first (p ∷ rest) = stage_of (first, p.0) ∷ stages_from p.1 rest

abbrev pub last_from : Clauses → List (Projection × Clauses) → Clauses
last_from first [] = first
last_from first (p ∷ rest) = last_from p.1 rest

-- the parts that a WITH ends, and the clauses behind the last of them
abbrev pub parted : Stages → List Stage × Clauses
parted v = (stages_from v.0 v.1, last_from v.0 v.1)

abbrev pub regrouped : List Stage × Clauses → Option Projection → List Stage × Last
regrouped p r = (p.0, (p.1.0 ++ p.1.1, r))

unfoldable pub instants : Parser Time
instants =
    after (k.Tt ∷ [])
    (alt (k.Snapshot ∷ []) (map_out time.Snapshot (after (k.Snapshot ∷ []) number))
    (map_out (λ p. time.Between p.0 p.1) (after (k.Between ∷ []) (seq number (after (k.And ∷ []) number)))))

unfoldable pub times : Parser Time
times = opt (k.Tt ∷ []) time.None instants

module _ (e : Parser Expr) where
  unfoldable pub readings : Parser (List Clause)
  readings = many READINGS (reading e)

  unfoldable pub updatings : Parser (List Clause)
  updatings = many UPDATES (updating e)

  unfoldable pub clauses : Parser Clauses
  clauses = seq readings updatings

  unfoldable pub stage : Parser (Projection × Clauses)
  stage = seq (after (k.With ∷ []) (passed e)) clauses

  unfoldable pub stages : Parser Stages
  stages = seq clauses (many (k.With ∷ []) stage)

  unfoldable pub return_clause : Parser Projection
  return_clause = after (k.Return ∷ []) (returned e)

  -- Without an updating clause RETURN has to stand.
  abbrev pub return_behind : List Clause → Parser (Option Projection)
  return_behind [] = map_out Some return_clause
  return_behind (u ∷ us) = opt (k.Return ∷ []) None (map_out Some return_clause)

  unfoldable pub parts : Parser (List Stage × Last)
  parts = bind (map_out parted stages) (λ p. map_out (regrouped p) (return_behind p.1.1))

  unfoldable pub whole : Parser Query
  whole = map_out query_of (seq parts (seq times (flag k.Semicolon)))

abbrev pub query_at : ℕ → Parser Query
query_at n = whole (expression n)
