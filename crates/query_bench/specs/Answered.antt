-- The rows of a query that reads: its clauses one after the other, from one empty row on.
use Rattle.std.specs.Prelude.{List, [], ◌∷◌, ◌++◌, Option, Some, None, Ok, Err}
use Rattle.cypher_syntax.specs.declared.tree.clause.Clause.{Clause}
use Rattle.cypher_syntax.specs.declared.tree.clause.Clause.TheVariants as clause
use Rattle.cypher_syntax.specs.declared.tree.projection.Projection.{Projection}
use Rattle.cypher_syntax.specs.declared.tree.query.Query.{Query}
use Rattle.cypher_syntax.specs.declared.tree.query.Stage.{Stage}
use Rattle.expr_eval.specs.declared.refused.EvalRefused.TheVariants as refused
use Rattle.expr_eval.specs.Outcome.{Outcome, and_then}
use Rattle.expr_eval.specs.Row.{Row}
use Rattle.graph_reader.specs.declared.shown.Shown.{Shown}
use Rattle.graph_reader.specs.declared.shown.ShowRefused.TheVariants.{Gone, NoMemory}
use Rattle.graph_record.specs.Graph.{Graph}
use Rattle.graph_reader.specs.Shown.{Showing, shown_of}
use Rattle.graph_value.specs.declared.value.Value.{Value}
use Rattle.pattern_match.specs.Kept.{matched_table}
use Rattle.row_ops.specs.Projecting.{projected_of}
use Rattle.row_ops.specs.Unwinding.{unwound_of}

-- THE TABLE

-- the table behind a clause; one that writes, which no query that is run here has, leaves it
unfoldable pub clause_of : Graph → List Row → Clause → Outcome (List Row)
clause_of g table (clause.Match m) = matched_table g table m
clause_of g table (clause.Unwind u) = unwound_of g table u
clause_of g table (clause.Update u) = Ok table

abbrev pub clauses_of : Graph → List Row → List Clause → Outcome (List Row)
clauses_of g table [] = Ok table
clauses_of g table (c ∷ cs) = and_then (clause_of g table c) (λ next. clauses_of g next cs)

-- the table behind a WITH and the clauses in front of it
unfoldable pub stage_of : Graph → List Row → Stage → Outcome (List Row)
stage_of g table s = and_then (clauses_of g table s.clauses) (λ next. projected_of g next s.next)

abbrev pub stages_of : Graph → List Row → List Stage → Outcome (List Row)
stages_of g table [] = Ok table
stages_of g table (s ∷ ss) = and_then (stage_of g table s) (λ next. stages_of g next ss)

unfoldable pub returned_of : Graph → List Row → Option Projection → Outcome (List Row)
returned_of g table None = Ok table
returned_of g table (Some p) = projected_of g table p

-- the table behind all of a query, which begins with one empty row
abbrev pub table_of : Graph → Query → Outcome (List Row)
table_of g q =
    and_then (stages_of g ([] ∷ []) q.stages) (λ before.
    and_then (clauses_of g before q.clauses) (λ table. returned_of g table q.returns))

-- ITS ROWS AS THEY ARE SHOWN

abbrev pub evaluated : {A : Type 0} → Showing A → Outcome A
evaluated (Ok a) = Ok a
evaluated (Err (Gone x)) = Err (refused.Gone x)
evaluated (Err NoMemory) = Err refused.NoMemory

unfoldable pub value_shown : Graph → Value → Outcome Shown
value_shown g v = evaluated (shown_of g v)

-- the values of a row, behind those that are shown already
abbrev pub columns_on : Graph → List Shown → Row → Outcome (List Shown)
columns_on g done [] = Ok done
columns_on g done (column ∷ row) = and_then (value_shown g column.1) (λ shown. columns_on g (done ++ shown ∷ []) row)

unfoldable pub row_shown : Graph → Row → Outcome (List Shown)
row_shown g row = columns_on g [] row

abbrev pub rows_on : Graph → List (List Shown) → List Row → Outcome (List (List Shown))
rows_on g done [] = Ok done
rows_on g done (row ∷ rows) = and_then (row_shown g row) (λ shown. rows_on g (done ++ shown ∷ []) rows)

-- the rows of a query, or the first refusal
abbrev pub answered : Graph → Query → Outcome (List (List Shown))
answered g q = and_then (table_of g q) (rows_on g [])
