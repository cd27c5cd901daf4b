-- UNWIND: for each row a row for each element of its list.
use Rattle.std.specs.Prelude.{ℕ, Bool, List, [], ◌∷◌, ◌++◌, map, length, nat_le, Ok, Err, if◌then◌else◌}
use Rattle.cypher_syntax.specs.declared.tree.clause.Unwind.{Unwind}
use Rattle.graph_record.specs.Graph.{Graph}
use Rattle.graph_value.specs.declared.value.Value.{Value, out-Value}
use Rattle.graph_value.specs.declared.value.Value.TheOpen.{Value-F}
use Rattle.expr_eval.specs.Eval.{eval_of}
use Rattle.expr_eval.specs.Outcome.{Outcome, and_then}
use Rattle.expr_eval.specs.Row.{Row, row_limit}
use Rattle.expr_eval.specs.declared.refused.EvalRefused.TheVariants.{TypeFault, RowLimit}

-- the elements that get a row each: null has none
abbrev pub elements_level : Value-F Value → Outcome (List Value)
elements_level Value-F.Null = Ok []
elements_level (Value-F.List vs) = Ok vs
elements_level v = Err TypeFault

unfoldable pub elements : Value → Outcome (List Value)
elements v = elements_level (out-Value v)

-- the row with one more name
abbrev pub with_name : Row → List ℕ → Value → Row
with_name row name v = row ++ (name, v) ∷ []

-- whether a table may have so many rows
abbrev pub has_room : ℕ → Bool
has_room rows = nat_le rows row_limit

abbrev pub limited : List Row → Outcome (List Row)
limited rows = if has_room (length rows) then Ok rows else Err RowLimit

-- with the rows of one row, whose list is this
abbrev pub extended : List Row → Row → List ℕ → Value → Outcome (List Row)
extended done row name v = and_then (elements v) (λ vs. limited (done ++ map (with_name row name) vs))

-- with those of one row more
unfoldable pub unwound_row : Graph → Unwind → List Row → Row → Outcome (List Row)
unwound_row g u done row = and_then (eval_of g row u.list) (extended done row u.name)

-- behind the rows that are there
abbrev pub unwound_on : Graph → Unwind → List Row → List Row → Outcome (List Row)
unwound_on g u done [] = Ok done
unwound_on g u done (row ∷ rows) = and_then (unwound_row g u done row) (λ all. unwound_on g u all rows)

-- the table behind an UNWIND
abbrev pub unwound_of : Graph → List Row → Unwind → Outcome (List Row)
unwound_of g table u = unwound_on g u [] table
