-- Functions of values. All give null of null.
use Rattle.std.specs.Prelude.{ℕ, ◌-◌, nat_lt, Bool, true, false, ◌&&◌, List, [], ◌∷◌, length, count_by, codes, pos, unsigned_abs, Ok, Err, if◌then◌else◌}
use Rattle.std.specs.Char.{digit_value}
use Rattle.std.specs.List.{list_all}
use Rattle.std.specs.Fmt.{signed_decimal}
use Rattle.std.specs.Str.Parse.{without_leading_sign, signed_digits_value}
use Rattle.graph_value.specs.declared.value.Value.{Value, out-Value}
use Rattle.graph_value.specs.declared.value.Value.TheVariants as value
use Rattle.graph_value.specs.declared.value.Value.TheOpen.{Value-F}
use Rattle.cypher_syntax.specs.declared.tree.operators.Fun.{Fun}
use Rattle.cypher_syntax.specs.declared.tree.operators.Fun.TheVariants as fun
use Rattle.graph_record.specs.Graph.{Graph}
use Rattle.expr_eval.specs.declared.refused.EvalRefused.TheVariants.{TypeFault}
use Rattle.expr_eval.specs.Outcome.{Outcome}
use Rattle.expr_eval.specs.Numbers.{fits, fitted}
use Rattle.expr_eval.specs.Texts.{begins_character}
use Rattle.expr_eval.specs.Lists.{element, range}
use Rattle.expr_eval.specs.Entities.{labels_of, keys, kind_of, start_of, end_of}

abbrev pub number : ℕ → Outcome Value
number n = fitted (pos n)

abbrev pub id_level : Value-F Value → Outcome Value
id_level Value-F.Null = Ok value.Null
id_level (Value-F.Vertex v) = number v.0
id_level (Value-F.Edge e) = number e.0
id_level v = Err TypeFault

unfoldable pub id_of : Value → Outcome Value
id_of v = id_level (out-Value v)

-- the characters of a text, the elements of a list
abbrev pub size_level : Value-F Value → Outcome Value
size_level Value-F.Null = Ok value.Null
size_level (Value-F.Text text) = number (count_by begins_character text)
size_level (Value-F.List items) = number (length items)
size_level v = Err TypeFault

unfoldable pub size_of : Value → Outcome Value
size_of v = size_level (out-Value v)

abbrev pub head_level : Value-F Value → Outcome Value
head_level Value-F.Null = Ok value.Null
head_level (Value-F.List items) = Ok (element items 0)
head_level v = Err TypeFault

unfoldable pub head : Value → Outcome Value
head v = head_level (out-Value v)

abbrev pub last_level : Value-F Value → Outcome Value
last_level Value-F.Null = Ok value.Null
last_level (Value-F.List items) = Ok (element items (length items - 1))
last_level v = Err TypeFault

unfoldable pub last : Value → Outcome Value
last v = last_level (out-Value v)

abbrev pub abs_level : Value-F Value → Outcome Value
abs_level Value-F.Null = Ok value.Null
abs_level (Value-F.Int n) = number (unsigned_abs n)
abs_level v = Err TypeFault

unfoldable pub abs : Value → Outcome Value
abs v = abs_level (out-Value v)

abbrev pub truth_text : Bool → List ℕ
truth_text true = codes "true"
truth_text false = codes "false"

abbrev pub text_level : Value-F Value → Outcome Value
text_level Value-F.Null = Ok value.Null
text_level (Value-F.Text text) = Ok (value.Text text)
text_level (Value-F.Int n) = Ok (value.Text (signed_decimal n))
text_level (Value-F.Bool b) = Ok (value.Text (truth_text b))
text_level v = Err TypeFault

unfoldable pub text_of : Value → Outcome Value
text_of v = text_level (out-Value v)

-- digits, one or more
abbrev pub are_digits : List ℕ → Bool
are_digits [] = false
are_digits (b ∷ bytes) = list_all (λ b. nat_lt (digit_value b) 10) (b ∷ bytes)

-- A text that is digits, maybe behind a sign, is the integer that it writes, where that fits. Any other text is null.
abbrev pub integer_in : List ℕ → Value
integer_in text =
    if are_digits (without_leading_sign text) && fits (signed_digits_value 10 text) then value.Int (signed_digits_value 10 text)
    else value.Null

abbrev pub integer_level : Value-F Value → Outcome Value
integer_level Value-F.Null = Ok value.Null
integer_level (Value-F.Int n) = Ok (value.Int n)
integer_level (Value-F.Text text) = Ok (integer_in text)
integer_level v = Err TypeFault

unfoldable pub integer_of : Value → Outcome Value
integer_of v = integer_level (out-Value v)

-- functions of one value; the grammar gives the two last ones other operands
abbrev pub single : Graph → Fun → Value → Outcome Value
single g fun.Id v = id_of v
single g fun.Labels v = labels_of g v
single g fun.Kind v = kind_of g v
single g fun.StartNode v = start_of g v
single g fun.EndNode v = end_of g v
single g fun.Keys v = keys g v
single g fun.Size v = size_of v
single g fun.Head v = head v
single g fun.Last v = last v
single g fun.Abs v = abs v
single g fun.ToText v = text_of v
single g fun.ToInteger v = integer_of v
single g fun.Range v = Err TypeFault
single g fun.Coalesce v = Err TypeFault

-- functions of two
abbrev pub double : Fun → Value → Value → Outcome Value
double fun.Range v w = range v w
double f v w = Err TypeFault

abbrev pub applied : Graph → Fun → List Value → Outcome Value
applied g f [] = Err TypeFault
applied g f (v ∷ []) = single g f v
applied g f (v ∷ w ∷ vs) = double f v w
