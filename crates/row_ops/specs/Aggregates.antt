-- Aggregates: what the values of a group come to.
use Rattle.std.specs.Prelude.{Bool, not, List, [], ◌∷◌, filter, length, ℤ, pos, ◌+ℤ◌, Ok, Err, if◌then◌else◌}
use Rattle.std.specs.Ordering.{is_lt}
use Rattle.cypher_syntax.specs.declared.tree.operators.AggFun.{AggFun}
use Rattle.cypher_syntax.specs.declared.tree.operators.AggFun.TheVariants.{Count, Sum, Min, Max, Collect}
use Rattle.graph_value.specs.Order.{order_of}
use Rattle.graph_value.specs.declared.value.Value.{Value, out-Value}
use Rattle.graph_value.specs.declared.value.Value.TheVariants as value
use Rattle.graph_value.specs.declared.value.Value.TheOpen.{Value-F}
use Rattle.expr_eval.specs.Comparing.{is_null}
use Rattle.expr_eval.specs.Numbers.{fitted}
use Rattle.expr_eval.specs.Outcome.{Outcome, and_then}
use Rattle.expr_eval.specs.Size.{sized}
use Rattle.expr_eval.specs.declared.refused.EvalRefused.TheVariants.{TypeFault}
use Rattle.row_ops.specs.Distinct.{firsts}

-- null counts for nothing, and under DISTINCT each value counts once, at its first place
abbrev pub present : List Value → List Value
present vs = filter (λ v. not (is_null v)) vs

abbrev pub counting : Bool → List Value → List Value
counting distinct vs = if distinct then firsts (λ v. v) (present vs) else present vs

abbrev pub integer_level : Value-F Value → Outcome ℤ
integer_level (Value-F.Int n) = Ok n
integer_level v = Err TypeFault

unfoldable pub integer : Value → Outcome ℤ
integer v = integer_level (out-Value v)

-- the sum of all, however great
abbrev pub total : ℤ → List Value → Outcome ℤ
total n [] = Ok n
total n (v ∷ vs) = and_then (integer v) (λ m. total (n +ℤ m) vs)

abbrev pub sum_of : List Value → Outcome Value
sum_of vs = and_then (total (pos 0) vs) fitted

-- the one that comes first in the order of values, or last; null where there is none
abbrev pub lesser : Value → Value → Value
lesser v w = if is_lt (order_of w v) then w else v

abbrev pub greater : Value → Value → Value
greater v w = if is_lt (order_of v w) then w else v

abbrev pub most : (Value → Value → Value) → Value → List Value → Value
most better v [] = v
most better v (w ∷ ws) = most better (better v w) ws

abbrev pub most_of : (Value → Value → Value) → List Value → Value
most_of better [] = value.Null
most_of better (v ∷ vs) = most better v vs

abbrev pub finished : AggFun → List Value → Outcome Value
finished Count vs = fitted (pos (length vs))
finished Sum vs = sum_of vs
finished Min vs = Ok (most_of lesser vs)
finished Max vs = Ok (most_of greater vs)
finished Collect vs = sized (value.List vs)

abbrev pub aggregated : AggFun → Bool → List Value → Outcome Value
aggregated fun distinct vs = finished fun (counting distinct vs)
