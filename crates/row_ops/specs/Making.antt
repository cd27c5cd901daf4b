-- Rows under way: the row that each was made of, and the values of the items.
use Rattle.std.specs.Prelude.{Bool, List, [], ◌∷◌, ◌++◌, map, if◌then◌else◌, Ok}
use Rattle.cypher_check.specs.Clauses.{is_closed}
use Rattle.cypher_syntax.specs.declared.tree.projection.Item.{Item}
use Rattle.cypher_syntax.specs.declared.tree.projection.Projection.{Projection}
use Rattle.graph_record.specs.Graph.{Graph}
use Rattle.graph_value.specs.declared.value.Value.{Value}
use Rattle.expr_eval.specs.Eval.{values_of}
use Rattle.expr_eval.specs.Outcome.{Outcome, and_then}
use Rattle.expr_eval.specs.Row.{Row}
use Rattle.row_ops.specs.declared.made.Made.{Made}
use Rattle.row_ops.specs.Columns.{columns, given_columns}

-- the values of the items in a row
abbrev pub item_values : Graph → List Item → Row → Outcome (List Value)
item_values g items row = values_of g row (map (λ i. i.expr) items)

-- row by row, behind the rows that are there
abbrev pub made_on : Graph → List Item → List Made → List Row → Outcome (List Made)
made_on g items done [] = Ok done
made_on g items done (row ∷ rows) =
    and_then (item_values g items row) (λ vs. made_on g items (done ++ (record { before = row; values = vs }) ∷ []) rows)

abbrev pub made_of : Graph → List Item → List Row → Outcome (List Made)
made_of g items rows = made_on g items [] rows

-- what `*` takes over: the names of the row itself, in order
abbrev pub starred : Bool → Row → Row
starred star row = if star then row else []

-- the row that a projection gives
abbrev pub after : Projection → Made → Row
after p made = starred p.star made.before ++ columns 0 p.items made.values

-- The names that ORDER BY sees: the projected ones, and then those before, unless rows were grouped or made distinct.
abbrev pub seen : Projection → Made → Row
seen p made =
    starred p.star made.before ++ given_columns p.items made.values ++ (if is_closed p then [] else made.before)
