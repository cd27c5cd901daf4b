-- The table behind a WITH or RETURN.
use Rattle.std.specs.Prelude.{ℕ, Bool, List, Option, Some, None, Ok, drop, take, if◌then◌else◌}
use Rattle.std.specs.List.{list_any}
use Rattle.cypher_check.specs.Clauses.{has_aggregate}
use Rattle.cypher_syntax.specs.declared.tree.projection.Item.{Item}
use Rattle.cypher_syntax.specs.declared.tree.projection.Projection.{Projection}
use Rattle.graph_record.specs.Graph.{Graph}
use Rattle.expr_eval.specs.Outcome.{Outcome, and_then}
use Rattle.expr_eval.specs.Row.{Row}
use Rattle.row_ops.specs.declared.made.Made.{Made}
use Rattle.row_ops.specs.Grouping.{grouped_of}
use Rattle.row_ops.specs.Making.{made_of}
use Rattle.row_ops.specs.Distinct.{distinct_of}
use Rattle.row_ops.specs.Sorting.{sorted_of}
use Rattle.row_ops.specs.Filtering.{filtered_of}

abbrev pub skipped : {X : Type 0} → Option ℕ → List X → List X
skipped None xs = xs
skipped (Some n) xs = drop n xs

abbrev pub limited_to : {X : Type 0} → Option ℕ → List X → List X
limited_to None xs = xs
limited_to (Some n) xs = take n xs

-- what SKIP and LIMIT leave
abbrev pub cut : {X : Type 0} → Projection → List X → List X
cut p rows = limited_to p.limit (skipped p.skip rows)

-- Where an item has an aggregate there is a row for each group, else one for each row.
abbrev pub is_grouped : List Item → Bool
is_grouped items = list_any (λ i. has_aggregate i.expr) items

abbrev pub rows_of : Graph → List Item → List Row → Outcome (List Made)
rows_of g items table = if is_grouped items then grouped_of g items table else made_of g items table

-- the rows in order, as far as SKIP and LIMIT leave them
abbrev pub ordered_of : Graph → Projection → List Made → Outcome (List Row)
ordered_of g p made = and_then (sorted_of g p made) (λ rows. Ok (cut p rows))

-- Rows are made, kept once where that is asked, sorted and cut; then WHERE asks each of what is left.
abbrev pub projected_of : Graph → List Row → Projection → Outcome (List Row)
projected_of g table p =
    and_then (rows_of g p.items table) (λ made.
    and_then (ordered_of g p (distinct_of p.distinct p.star made)) (λ rows.
    filtered_of g p.filter rows))
