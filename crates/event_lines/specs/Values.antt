-- The value that a text behind `set` is: JSON with no white space before it and none behind it.
use Rattle.std.specs.Prelude.{ℕ, ◌==◌, Bool, false, ◌||◌, not, if◌then◌else◌, List, [], ◌∷◌, Option, Some, None, option_map}
use Rattle.std.specs.Str.{is_utf8}
use Rattle.serde_json.specs.Data.{Data, null, boolean, number, string, array, object, Items, no_items, item}
use Rattle.serde_json.specs.Find.{as_i64}
use Rattle.serde_json.specs.Read.{read}
use Rattle.graph_value.specs.declared.value.Value.{Value}
use Rattle.graph_value.specs.declared.value.Value.TheVariants as value
use Rattle.event_lines.specs.Words.{◌>>=◌}

-- WHITE SPACE

-- a tab, a line feed, a carriage return or a space
abbrev pub is_white : ℕ → Bool
is_white b = b == 9 || b == 10 || b == 13 || b == 32

abbrev pub begins_white : List ℕ → Bool
begins_white [] = false
begins_white (b ∷ bytes) = is_white b

abbrev pub ends_white : List ℕ → Bool
ends_white [] = false
ends_white (b ∷ []) = is_white b
ends_white (b ∷ c ∷ bytes) = ends_white (c ∷ bytes)

-- WHAT CAN BE SET

-- A truth value, a string, or an integer of 64 bits. What has a fraction or an exponent is none, and neither is `-0`.
abbrev pub simple_from : Data → Option Value
simple_from null = None
simple_from (boolean b) = Some (value.Bool b)
simple_from (number n) = option_map value.Int (as_i64 n)
simple_from (string text) = Some (value.Text text)
simple_from (array items) = None
simple_from (object entries) = None

abbrev pub list_from : Items → Option (List Value)
list_from no_items = Some []
list_from (item d items) = do
  v ← simple_from d
  option_map (λ vs. v ∷ vs) (list_from items)

-- one of these, a list of them, or null
abbrev pub value_from : Data → Option Value
value_from null = Some value.Null
value_from (boolean b) = simple_from (boolean b)
value_from (number n) = simple_from (number n)
value_from (string text) = simple_from (string text)
value_from (array items) = option_map value.List (list_from items)
value_from (object entries) = None

-- JSON is UTF-8.
unfoldable pub json_value : List ℕ → Option Value
json_value text =
    if begins_white text || ends_white text || not (is_utf8 text) then None
    else (do
      d ← read text
      value_from d)
