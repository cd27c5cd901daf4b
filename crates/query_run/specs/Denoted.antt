-- What a query means: clause by clause, each over the whole table that the one before it left.
use Rattle.std.specs.Prelude.{List, [], ◌∷◌, Option, Some, None}
use Rattle.graph_reader.specs.declared.shown.Shown.{Shown}
use Rattle.cypher_syntax.specs.declared.tree.clause.Clause.{Clause}
use Rattle.cypher_syntax.specs.declared.tree.clause.Clause.TheVariants as clause
use Rattle.cypher_syntax.specs.declared.tree.clause.Update.{Update}
use Rattle.cypher_syntax.specs.declared.tree.clause.Update.TheVariants as update
use Rattle.cypher_syntax.specs.declared.tree.pattern.Pattern.{Pattern}
use Rattle.cypher_syntax.specs.declared.tree.projection.Projection.{Projection}
use Rattle.cypher_syntax.specs.declared.tree.query.Query.{Query}
use Rattle.cypher_syntax.specs.declared.tree.query.Stage.{Stage}
use Rattle.expr_eval.specs.Row.{Row}
use Rattle.pattern_match.specs.Kept.{matched_table}
use Rattle.row_ops.specs.Projecting.{projected_of}
use Rattle.row_ops.specs.Unwinding.{unwound_of}
use Rattle.write_ops.specs.Creating.{create_of}
use Rattle.write_ops.specs.Planning.{plan_of}
use Rattle.query_run.specs.Parts.{Part, found, given, then}
use Rattle.query_run.specs.Asked.{planned_part}
use Rattle.query_run.specs.Named.{table_with}
use Rattle.query_run.specs.Shown.{rows_shown}

abbrev pub Table : Type 0
Table = List Row

-- CREATE: its plan is found on the graph before the clause, and then done; its names stand for what the store has made
abbrev pub create_part : Table → List Pattern → Part Table
create_part table patterns =
    then (found (λ g. create_of g patterns table)) (λ created.
    then (planned_part created.ops []) (λ ids.
    given (table_with ids table created.names)))

-- the other clauses that write; the table stays as it is
abbrev pub write_part : Table → Update → Part Table
write_part table u =
    then (found (λ g. plan_of g u table)) (λ ops.
    then (planned_part ops []) (λ ids.
    given table))

abbrev pub update_part : Table → Update → Part Table
update_part table (update.Create patterns) = create_part table patterns
update_part table (update.Set items) = write_part table (update.Set items)
update_part table (update.Remove items) = write_part table (update.Remove items)
update_part table (update.Delete detach names) = write_part table (update.Delete detach names)

abbrev pub clause_part : Table → Clause → Part Table
clause_part table (clause.Match m) = found (λ g. matched_table g table m)
clause_part table (clause.Unwind u) = found (λ g. unwound_of g table u)
clause_part table (clause.Update u) = update_part table u

abbrev pub clauses_part : List Clause → Table → Part Table
clauses_part [] table = given table
clauses_part (c ∷ cs) table = then (clause_part table c) (clauses_part cs)

-- the clauses up to a WITH, and what it passes on
abbrev pub stage_part : Stage → Table → Part Table
stage_part s table = then (clauses_part s.clauses table) (λ t. found (λ g. projected_of g t s.next))

abbrev pub stages_part : List Stage → Table → Part Table
stages_part [] table = given table
stages_part (s ∷ stages) table = then (stage_part s table) (stages_part stages)

-- The rows of RETURN are shown by the graph behind all clauses.
abbrev pub rows_part : Projection → Table → Part (List (List Shown))
rows_part p table =
    then (found (λ g. projected_of g table p)) (λ t.
    found (λ g. rows_shown g [] t))

-- Without RETURN there are no rows.
abbrev pub returned_part : Option Projection → Table → Part (List (List Shown))
returned_part None table = given []
returned_part (Some p) table = rows_part p table

-- a query begins with one empty row
abbrev pub one_row : Table
one_row = [] ∷ []

abbrev pub denoted : Query → Part (List (List Shown))
denoted q =
    then (stages_part q.stages one_row) (λ t.
    then (clauses_part q.clauses t) (returned_part q.returns))
