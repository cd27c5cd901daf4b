-- Groups of rows, and the values of items in them.
use Rattle.std.specs.Prelude.{ℕ, ◌+◌, Bool, not, List, [], ◌∷◌, ◌++◌, map, filter, Option, None, Some, unwrap_or, slice_get, Ok, if◌then◌else◌}
use Rattle.std.specs.Fmt.{decimal}
use Rattle.std.specs.List.{list_any}
use Rattle.cypher_check.specs.Clauses.{has_aggregate}
use Rattle.cypher_syntax.specs.declared.tree.expr.Expr.{Expr}
use Rattle.cypher_syntax.specs.declared.tree.projection.Item.{Item}
use Rattle.graph_record.specs.Graph.{Graph}
use Rattle.graph_value.specs.Value.{same_value}
use Rattle.graph_value.specs.declared.value.Value.{Value}
use Rattle.graph_value.specs.declared.value.Value.TheVariants as value
use Rattle.expr_eval.specs.Eval.{eval_of, values_of}
use Rattle.expr_eval.specs.Outcome.{Outcome, and_then}
use Rattle.expr_eval.specs.Row.{Row}
use Rattle.row_ops.specs.declared.compiling.Aggregate.{Aggregate}
use Rattle.row_ops.specs.declared.grouping.Plan.{Plan}
use Rattle.row_ops.specs.declared.made.Made.{Made}
use Rattle.row_ops.specs.Aggregates.{aggregated}
use Rattle.row_ops.specs.Compiling.{part_of}
use Rattle.row_ops.specs.Distinct.{firsts}

-- THE CELLS OF A ROW: for each item what is evaluated of it there

-- an item without an aggregate is a key and is evaluated; of one with aggregates their arguments are
abbrev pub asked_of : Item → List Expr
asked_of i = if has_aggregate i.expr then map (λ a. a.of) (part_of i.expr).aggregates else i.expr ∷ []

abbrev pub cell_of : Graph → Row → Item → Outcome (List Value)
cell_of g row i = values_of g row (asked_of i)

abbrev pub cells_on : Graph → Row → List (List Value) → List Item → Outcome (List (List Value))
cells_on g row done [] = Ok done
cells_on g row done (i ∷ items) = and_then (cell_of g row i) (λ cell. cells_on g row (done ++ cell ∷ []) items)

abbrev pub rows_on : Graph → List Item → List (List (List Value)) → List Row → Outcome (List (List (List Value)))
rows_on g items done [] = Ok done
rows_on g items done (row ∷ rows) = and_then (cells_on g row [] items) (λ cells. rows_on g items (done ++ cells ∷ []) rows)

-- GROUPS

abbrev pub key_cell : Item → List Value → List Value
key_cell i cell = if has_aggregate i.expr then [] else cell

abbrev pub key_cell_at : Item → Option (List Value) → List Value
key_cell_at i None = []
key_cell_at i (Some cell) = key_cell i cell

abbrev pub key_values : List Item → List (List Value) → List Value
key_values [] cells = []
key_values (i ∷ items) [] = []
key_values (i ∷ items) (cell ∷ cells) = key_cell i cell ++ key_values items cells

abbrev pub key_of : List Item → List (List Value) → Value
key_of items cells = value.List (key_values items cells)

-- the rows with the same key as this one
abbrev pub with_key : List Item → List (List (List Value)) → List (List Value) → List (List (List Value))
with_key items rows first = filter (λ cells. same_value (key_of items cells) (key_of items first)) rows

abbrev pub has_keys : List Item → Bool
has_keys items = list_any (λ i. not (has_aggregate i.expr)) items

-- one row more, in the group of its key, or in one of its own behind the others
abbrev pub grown : {R : Type 0} → Value → R → List Value → List (List R) → List (List R)
grown v r [] gs = gs ++ (r ∷ []) ∷ []
grown v r (k ∷ ks) [] = (r ∷ []) ∷ []
grown v r (k ∷ ks) (g ∷ gs) = if same_value v k then (g ++ r ∷ []) ∷ gs else g ∷ grown v r ks gs

abbrev pub by_key : List Item → List (List (List Value)) → List (List (List (List Value)))
by_key items rows = map (with_key items rows) (firsts (key_of items) rows)

-- A group for each key, in the order of their first rows. Without keys all rows are one group, even where there are none.
abbrev pub groups_of : List Item → List (List (List Value)) → List (List (List (List Value)))
groups_of items rows = if has_keys items then by_key items rows else rows ∷ []

-- THE VALUES OF A GROUP

abbrev pub at_or : {A : Type 0} → A → ℕ → List A → A
at_or none place xs = unwrap_or (slice_get xs place) none

-- what stands at a place in each
abbrev pub through : {A : Type 0} → A → ℕ → List (List A) → List A
through none place rows = map (at_or none place) rows

-- the aggregates of an item, finished in order, each under its number
abbrev pub results_on : List (List Value) → ℕ → Row → List Aggregate → Outcome Row
results_on cells place row [] = Ok row
results_on cells place row (a ∷ rest) =
    and_then (aggregated a.fun a.distinct (through value.Null place cells)) (λ v.
    results_on cells (place + 1) (row ++ (decimal place, v) ∷ []) rest)

-- what is made ready of an item
abbrev pub plan_of : Item → Plan
plan_of i = record {
  is_key = not (has_aggregate i.expr);
  filled = (part_of i.expr).filled 0;
  aggregates = (part_of i.expr).aggregates;
}

-- an item is evaluated with its aggregates as operands
abbrev pub plan_value : Graph → Plan → List (List Value) → Outcome Value
plan_value g plan cells = and_then (results_on cells 0 [] plan.aggregates) (λ row. eval_of g row plan.filled)

-- a key is the same in all rows
abbrev pub key_value : ℕ → List (List (List Value)) → Value
key_value place group = at_or value.Null 0 (at_or [] place (at_or [] 0 group))

abbrev pub planned_value : Graph → Plan → ℕ → List (List (List Value)) → Outcome Value
planned_value g plan place group =
    if plan.is_key then Ok (key_value place group) else plan_value g plan (through [] place group)

abbrev pub planned_on : Graph → List (List (List Value)) → ℕ → List Value → List Plan → Outcome (List Value)
planned_on g group place done [] = Ok done
planned_on g group place done (plan ∷ plans) =
    and_then (planned_value g plan place group) (λ v. planned_on g group (place + 1) (done ++ v ∷ []) plans)

abbrev pub groups_on : Graph → List Plan → List Made → List (List (List (List Value))) → Outcome (List Made)
groups_on g plans done [] = Ok done
groups_on g plans done (group ∷ groups) =
    and_then (planned_on g group 0 [] plans) (λ vs. groups_on g plans (done ++ (record { before = []; values = vs }) ∷ []) groups)

-- All rows are evaluated before the first group is finished. What `*` takes over of a group, which no checked query asks,
-- is nothing.
abbrev pub grouped_of : Graph → List Item → List Row → Outcome (List Made)
grouped_of g items table =
    and_then (rows_on g items [] table) (λ rows. groups_on g (map plan_of items) [] (groups_of items rows))
