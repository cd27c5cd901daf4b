-- The rows of RETURN, as they are shown by a graph: the values of each row in the order of its columns.
use Rattle.std.specs.Prelude.{List, [], ◌∷◌, ◌++◌, Ok, Err}
use Rattle.graph_value.specs.declared.value.Value.{Value}
use Rattle.graph_record.specs.Graph.{Graph}
use Rattle.graph_reader.specs.declared.shown.Shown.{Shown}
use Rattle.graph_reader.specs.declared.shown.ShowRefused.{ShowRefused}
use Rattle.graph_reader.specs.declared.shown.ShowRefused.TheVariants as show
use Rattle.graph_reader.specs.Shown.{Showing, shown_of}
use Rattle.expr_eval.specs.declared.refused.EvalRefused.{EvalRefused}
use Rattle.expr_eval.specs.declared.refused.EvalRefused.TheVariants as eval
use Rattle.expr_eval.specs.Outcome.{Outcome, and_then}
use Rattle.expr_eval.specs.Row.{Row}

abbrev pub refusal_of : ShowRefused → EvalRefused
refusal_of (show.Gone x) = eval.Gone x
refusal_of show.NoMemory = eval.NoMemory

abbrev pub as_outcome : {A : Type 0} → Showing A → Outcome A
as_outcome (Ok a) = Ok a
as_outcome (Err why) = Err (refusal_of why)

abbrev pub value_shown : Graph → Value → Outcome Shown
value_shown g v = as_outcome (shown_of g v)

-- the values of a row, behind those that are shown already
abbrev pub values_shown : Graph → List Shown → Row → Outcome (List Shown)
values_shown g front [] = Ok front
values_shown g front (column ∷ row) = and_then (value_shown g column.1) (λ s. values_shown g (front ++ s ∷ []) row)

-- the rows of a table, behind those that are shown already
abbrev pub rows_shown : Graph → List (List Shown) → List Row → Outcome (List (List Shown))
rows_shown g front [] = Ok front
rows_shown g front (row ∷ rows) = and_then (values_shown g [] row) (λ values. rows_shown g (front ++ values ∷ []) rows)
