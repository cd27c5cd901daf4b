-- Elements of lists, and lists of integers.
use Rattle.std.specs.Prelude.{ℕ, zero, suc, ◌+◌, ◌-◌, nat_lt, List, [], ◌∷◌, length, slice_get, ℤ, pos, negsuc, ◌+ℤ◌, ◌-ℤ◌, int_lt, unsigned_abs, unwrap_or, Ok, Err, if◌then◌else◌}
use Rattle.graph_value.specs.declared.value.Value.{Value, out-Value}
use Rattle.graph_value.specs.declared.value.Value.TheVariants as value
use Rattle.graph_value.specs.declared.value.Value.TheOpen.{Value-F}
use Rattle.expr_eval.specs.declared.refused.EvalRefused.TheVariants.{TypeFault}
use Rattle.expr_eval.specs.Outcome.{Outcome}
use Rattle.expr_eval.specs.Size.{sized}

-- the element at a place, or null where there is none
abbrev pub element : List Value → ℕ → Value
element items n = unwrap_or (slice_get items n) value.Null

-- places count from 0, and negative ones from the end
abbrev pub element_at : List Value → ℤ → Value
element_at items (pos n) = element items n
element_at items (negsuc n) = if nat_lt n (length items) then element items (length items - suc n) else value.Null

-- Null comes before other kinds.
abbrev pub indexed_level : Value-F Value → Value-F Value → Outcome Value
indexed_level Value-F.Null w = Ok value.Null
indexed_level v Value-F.Null = Ok value.Null
indexed_level (Value-F.List items) (Value-F.Int n) = Ok (element_at items n)
indexed_level v w = Err TypeFault

unfoldable pub indexed : Value → Value → Outcome Value
indexed v w = indexed_level (out-Value v) (out-Value w)

-- so many integers, from one on
abbrev pub counted : ℤ → ℕ → List Value
counted a zero = []
counted a (suc n) = value.Int a ∷ counted (a +ℤ pos 1) n

-- how many integers there are from one to another
abbrev pub count_between : ℤ → ℤ → ℕ
count_between a b = if int_lt b a then 0 else unsigned_abs (b -ℤ a) + 1

abbrev pub range_level : Value-F Value → Value-F Value → Outcome Value
range_level Value-F.Null w = Ok value.Null
range_level v Value-F.Null = Ok value.Null
range_level (Value-F.Int a) (Value-F.Int b) = sized (value.List (counted a (count_between a b)))
range_level v w = Err TypeFault

unfoldable pub range : Value → Value → Outcome Value
range v w = range_level (out-Value v) (out-Value w)
