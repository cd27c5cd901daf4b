-- What a query that writes nothing comes to on one graph, clause by clause. A clause that writes is passed over.
use Rattle.std.specs.Prelude.{List, [], ◌∷◌, Option, Some, None, Ok}
use Rattle.graph_reader.specs.declared.shown.Shown.{Shown}
use Rattle.graph_record.specs.Graph.{Graph}
use Rattle.cypher_syntax.specs.declared.tree.clause.Clause.{Clause}
use Rattle.cypher_syntax.specs.declared.tree.clause.Clause.TheVariants as clause
use Rattle.cypher_syntax.specs.declared.tree.projection.Projection.{Projection}
use Rattle.cypher_syntax.specs.declared.tree.query.Query.{Query}
use Rattle.cypher_syntax.specs.declared.tree.query.Stage.{Stage}
use Rattle.expr_eval.specs.Outcome.{Outcome, and_then}
use Rattle.pattern_match.specs.Kept.{matched_table}
use Rattle.row_ops.specs.Projecting.{projected_of}
use Rattle.row_ops.specs.Unwinding.{unwound_of}
use Rattle.query_run.specs.Denoted.{Table, one_row}
use Rattle.query_run.specs.Shown.{rows_shown}

abbrev pub clause_table : Graph → Table → Clause → Outcome Table
clause_table g table (clause.Match m) = matched_table g table m
clause_table g table (clause.Unwind u) = unwound_of g table u
clause_table g table (clause.Update u) = Ok table

abbrev pub clauses_table : Graph → List Clause → Table → Outcome Table
clauses_table g [] table = Ok table
clauses_table g (c ∷ cs) table = and_then (clause_table g table c) (clauses_table g cs)

abbrev pub stage_table : Graph → Stage → Table → Outcome Table
stage_table g s table = and_then (clauses_table g s.clauses table) (λ t. projected_of g t s.next)

abbrev pub stages_table : Graph → List Stage → Table → Outcome Table
stages_table g [] table = Ok table
stages_table g (s ∷ stages) table = and_then (stage_table g s table) (stages_table g stages)

abbrev pub projected_rows : Graph → Projection → Table → Outcome (List (List Shown))
projected_rows g p table = and_then (projected_of g table p) (rows_shown g [])

abbrev pub returned_rows : Graph → Option Projection → Table → Outcome (List (List Shown))
returned_rows g None table = Ok []
returned_rows g (Some p) table = projected_rows g p table

abbrev pub rows_of : Graph → Query → Outcome (List (List Shown))
rows_of g q =
    and_then (stages_table g q.stages one_row) (λ t.
    and_then (clauses_table g q.clauses t) (returned_rows g q.returns))
