-- Arithmetic on integers of 64 bits. Null with anything is null.
use Rattle.std.specs.Prelude.{ℕ, ◌^◌, ◌++◌, nat_lt, List, Bool, ℤ, pos, negsuc, neg_ℤ, ◌+ℤ◌, ◌-ℤ◌, ◌*ℤ◌, int_div, int_rem, Ok, Err, if◌then◌else◌}
use Rattle.std.specs.Ordering.{int_eq}
use Rattle.graph_value.specs.declared.value.Value.{Value, out-Value}
use Rattle.graph_value.specs.declared.value.Value.TheVariants as value
use Rattle.graph_value.specs.declared.value.Value.TheOpen.{Value-F}
use Rattle.cypher_syntax.specs.declared.tree.operators.SumOp.{SumOp}
use Rattle.cypher_syntax.specs.declared.tree.operators.SumOp.TheVariants.{Plus, Minus}
use Rattle.cypher_syntax.specs.declared.tree.operators.ProdOp.{ProdOp}
use Rattle.cypher_syntax.specs.declared.tree.operators.ProdOp.TheVariants.{Times, Over, Rest}
use Rattle.expr_eval.specs.declared.refused.EvalRefused.TheVariants.{TypeFault, Overflow, ZeroDivisor}
use Rattle.expr_eval.specs.Outcome.{Outcome}
use Rattle.expr_eval.specs.Size.{sized}

-- from -2 ^ 63 to 2 ^ 63 - 1
abbrev pub fits : ℤ → Bool
fits (pos n) = nat_lt n (2 ^ 63)
fits (negsuc n) = nat_lt n (2 ^ 63)

-- the number, unless it doesn't fit
abbrev pub fitted : ℤ → Outcome Value
fitted n = if fits n then Ok (value.Int n) else Err Overflow

abbrev pub sum_of : SumOp → ℤ → ℤ → ℤ
sum_of Plus a b = a +ℤ b
sum_of Minus a b = a -ℤ b

-- Texts and lists are joined by plus.
abbrev pub text_sum : SumOp → List ℕ → List ℕ → Outcome Value
text_sum Plus a b = sized (value.Text (a ++ b))
text_sum Minus a b = Err TypeFault

abbrev pub list_sum : SumOp → List Value → List Value → Outcome Value
list_sum Plus a b = sized (value.List (a ++ b))
list_sum Minus a b = Err TypeFault

abbrev pub summed_level : SumOp → Value-F Value → Value-F Value → Outcome Value
summed_level op Value-F.Null w = Ok value.Null
summed_level op v Value-F.Null = Ok value.Null
summed_level op (Value-F.Int a) (Value-F.Int b) = fitted (sum_of op a b)
summed_level op (Value-F.Text a) (Value-F.Text b) = text_sum op a b
summed_level op (Value-F.List a) (Value-F.List b) = list_sum op a b
summed_level op v w = Err TypeFault

unfoldable pub summed : SumOp → Value → Value → Outcome Value
summed op v w = summed_level op (out-Value v) (out-Value w)

-- A quotient is cut toward zero, and the remainder has the sign of the dividend.
abbrev pub product_of : ProdOp → ℤ → ℤ → Outcome Value
product_of Times a b = fitted (a *ℤ b)
product_of Over a b = if int_eq b (pos 0) then Err ZeroDivisor else fitted (int_div a b)
product_of Rest a b = if int_eq b (pos 0) then Err ZeroDivisor else Ok (value.Int (int_rem a b))

abbrev pub multiplied_level : ProdOp → Value-F Value → Value-F Value → Outcome Value
multiplied_level op Value-F.Null w = Ok value.Null
multiplied_level op v Value-F.Null = Ok value.Null
multiplied_level op (Value-F.Int a) (Value-F.Int b) = product_of op a b
multiplied_level op v w = Err TypeFault

unfoldable pub multiplied : ProdOp → Value → Value → Outcome Value
multiplied op v w = multiplied_level op (out-Value v) (out-Value w)

abbrev pub signed_level : SumOp → Value-F Value → Outcome Value
signed_level op Value-F.Null = Ok value.Null
signed_level Plus (Value-F.Int n) = Ok (value.Int n)
signed_level Minus (Value-F.Int n) = fitted (neg_ℤ n)
signed_level op v = Err TypeFault

unfoldable pub signed : SumOp → Value → Outcome Value
signed op v = signed_level op (out-Value v)
