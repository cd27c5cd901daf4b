-- What a tuple that matches gives in one graph: the shown values of the items, where WHERE keeps its row.
use Rattle.std.specs.Prelude.{◌≡◌, List, [], ◌∷◌, ◌++◌, Bool, Option, Some, None, Ok, if◌then◌else◌}
use Rattle.graph_value.specs.declared.value.Value.{Value}
use Rattle.graph_record.specs.Graph.{Graph}
use Rattle.graph_reader.specs.declared.shown.Shown.{Shown}
use Rattle.graph_reader.specs.Rows.{row_text}
use Rattle.cypher_syntax.specs.declared.tree.expr.Expr.{Expr}
use Rattle.cypher_syntax.specs.declared.tree.projection.Item.{Item}
use Rattle.expr_eval.specs.Outcome.{Outcome, and_then}
use Rattle.expr_eval.specs.Row.{Row}
use Rattle.pattern_match.specs.Kept.{is_kept}
use Rattle.query_run.specs.Shown.{value_shown}
use Rattle.row_ops.specs.Making.{item_values}

-- shown values, in the order of the items
abbrev pub Values : Type 0
Values = List Shown

-- they are printed alike
abbrev pub PrintSame : Values → Values → Type 0
PrintSame a b = row_text a ≡ row_text b

-- the values as they are shown, behind those before
abbrev pub shown_on : Graph → Values → List Value → Outcome Values
shown_on g front [] = Ok front
shown_on g front (v ∷ vs) = and_then (value_shown g v) (λ s. shown_on g (front ++ s ∷ []) vs)

abbrev pub items_shown : Graph → List Item → Row → Outcome Values
items_shown g items row = and_then (item_values g items row) (shown_on g [])

abbrev pub shown_if : Bool → Graph → List Item → Row → Outcome (Option Values)
shown_if keep g items row = if keep then and_then (items_shown g items row) (λ values. Ok (Some values)) else Ok None

-- the values of the items, or nothing where WHERE doesn't keep the row
abbrev pub values_kept : Graph → Option Expr → List Item → Row → Outcome (Option Values)
values_kept g filter items row = and_then (is_kept g filter row) (λ keep. shown_if keep g items row)
