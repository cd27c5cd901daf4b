-- Tests of texts, byte by byte.
use Rattle.std.specs.Prelude.{ℕ, nat_eq, nat_lt, nat_le, Bool, ◌||◌, List, [], ◌∷◌}
use Rattle.std.specs.List.{starts_with, ends_with}
use Rattle.graph_value.specs.declared.value.Value.{Value, out-Value}
use Rattle.graph_value.specs.declared.value.Value.TheVariants as value
use Rattle.graph_value.specs.declared.value.Value.TheOpen.{Value-F}
use Rattle.expr_eval.specs.declared.texts.TextTest.{TextTest}
use Rattle.expr_eval.specs.declared.texts.TextTest.TheVariants.{Starts, Ends, Contains}

-- a text stands somewhere in another one
abbrev pub contains : List ℕ → List ℕ → Bool
contains [] part = starts_with nat_eq [] part
contains (b ∷ bytes) part = starts_with nat_eq (b ∷ bytes) part || contains bytes part

abbrev pub passes : TextTest → List ℕ → List ℕ → Bool
passes Starts text part = starts_with nat_eq text part
passes Ends text part = ends_with nat_eq text part
passes Contains text part = contains text part

-- of two texts; null of other values
abbrev pub tested_level : TextTest → Value-F Value → Value-F Value → Value
tested_level test (Value-F.Text text) (Value-F.Text part) = value.Bool (passes test text part)
tested_level test v w = value.Null

unfoldable pub tested : TextTest → Value → Value → Value
tested test v w = tested_level test (out-Value v) (out-Value w)

-- Of the bytes of a character all but the first are from 128 to 191.
abbrev pub begins_character : ℕ → Bool
begins_character b = nat_lt b 128 || nat_le 192 b
