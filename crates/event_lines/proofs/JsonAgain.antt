-- The text of a value is read as that value.
use Rattle.std.proofs.Common.{◌≡◌, ℕ, suc, ◌<◌, ◌≤◌, ◌^◌, Bool, true, false, List, [], ◌∷◌, ◌++◌, map, Option, Some, option_map, option_and_then, ℤ, pos, negsuc, FitsSigned, w64, IsUtf8, refl, sym, ap, ◌∙◌, arith, append_assoc, append-nil}
use Rattle.std.specs.List.{list_all}
use Rattle.std.specs.Char.{is_ascii_digit}
use Rattle.std.specs.Fmt.{decimal}
use Rattle.std.proofs.lemmas.Bool.{lt-ltb}
use Rattle.std.proofs.lemmas.Bool.Decides.{nat_tests}
use Rattle.std.proofs.lemmas.Int.{ints}
use Rattle.std.proofs.lemmas.Str.{IsUtf8-append, IsUtf8-from_ascii}
use Rattle.std.proofs.lemmas.Str.Ascii.{IsAscii-cons}
use Rattle.std.proofs.lemmas.Fmt.{IsAscii-from_digits, digits_decimal}
use Rattle.json.specs.Token.{Token}
use Rattle.json.specs.Json as json
use Rattle.json.specs.Json.{if_last}
use Rattle.json.specs.Lex.{tokens}
use Rattle.json.specs.Print.{escape}
use Rattle.json.specs.Tree as tree
use Rattle.json.proofs.Printed.Decimals.{IsNumber-decimal, IsNumber-signed_decimal}
use Rattle.json.proofs.Printed.Tokens.{tokens-print}
use Rattle.json.proofs.Printed.Trees.{ArePrintable-json_tokens, value-json_tokens}
use Rattle.json.proofs.Printed.Utf8.{IsUtf8-are_ascii, IsUtf8-quoted, IsUtf8-boolean}
use Rattle.serde_json.specs.Data.{Data, null, boolean, number, string, array, Items, no_items, item}
use Rattle.serde_json.specs.Find.{of_integer, as_i64}
use Rattle.serde_json.specs.Read.{read, of_json, of_items, max_depth}
use Rattle.serde_json.specs.View.{items_of}
use Rattle.serde_json.specs.Written.{outline, items_outline, comma_if, compact_text, items_text}
use Rattle.serde_json.proofs.Numbers.{number_of-decimal, number_of-negative}
use Rattle.serde_json.proofs.Texts.{print-outline}
use Rattle.graph_value.specs.declared.value.Value.{Value, out-Value, roll-Value, roll-out-Value}
use Rattle.graph_value.specs.declared.value.Value.TheVariants as value
use Rattle.graph_value.specs.declared.value.Value.TheOpen.{Value-F}
use Rattle.graph_value.proofs.Levels.{int_rolled}
use Rattle.graph_reader.specs.Json.{simple_level, simple_data, value_level}
use Rattle.event_lines.specs.Values.{is_white, begins_white, ends_white, simple_from, list_from, value_from, json_value}
use Rattle.event_lines.specs.Spelling.{value_text, IsSpelledSimple, AreSpelled, IsSpelledLevel, IsSpelledValue}
use Rattle.event_lines.proofs.Numbers.{own}
use Rattle.event_lines.proofs.JsonTexts.{json_read}
use Rattle.event_lines.proofs.Rolled.{null_rolled, bool_rolled, text_rolled, list_rolled}

-- WHITE SPACE

ends_behind : (front : List ℕ) (b : ℕ) → ends_white (front ++ b ∷ []) ≡ is_white b
ends_behind [] b = refl
ends_behind (a ∷ []) b = refl
ends_behind (a ∷ c ∷ front) b = ends_behind (c ∷ front) b

digit_not_white : (d : ℕ) → is_ascii_digit d ≡ true → is_white d ≡ false
digit_not_white d h = grind (arith, nat_tests)

digits_begin : (ds : List ℕ) → list_all is_ascii_digit ds ≡ true → begins_white ds ≡ false
digits_begin [] h = refl
digits_begin (d ∷ ds) h =
    let first : is_ascii_digit d ≡ true = grind arith in
    digit_not_white d first

digits_end : (ds : List ℕ) → list_all is_ascii_digit ds ≡ true → ends_white ds ≡ false
digits_end [] h = refl
digits_end (d ∷ []) h =
    let first : is_ascii_digit d ≡ true = grind arith in
    digit_not_white d first
digits_end (d ∷ e ∷ ds) h =
    let rest : list_all is_ascii_digit (e ∷ ds) ≡ true = grind arith in
    digits_end (e ∷ ds) rest

minus_end : (ds : List ℕ) → ends_white ds ≡ false → ends_white (45 ∷ ds) ≡ false
minus_end [] h = refl
minus_end (d ∷ ds) h = h

-- WHAT A SIMPLE VALUE IS AS JSON

-- what a value needs so that its text is read as itself
record IsRead (d : Data) : Type 0 where
  again : of_json (outline d) ≡ Some d
  numbers : tree.HasNumbers (outline d)
  utf8 : IsUtf8 (compact_text d)
  begins : begins_white (compact_text d) ≡ false
  ends : ends_white (compact_text d) ≡ false

-- nothing nests
abbrev IsFlat : Data → Type 0
IsFlat d = tree.depth (outline d) ≡ 0

integer_read : (z : ℤ) → FitsSigned w64 z → IsRead (number (of_integer z))
integer_read (pos n) h =
    let small : n < 2 ^ 63 = omega (arith, ints) in
    let low : n < 2 ^ 64 = omega arith in
    let read = number_of-decimal n low in
    let digits = digits_decimal own n low in
    record {
      again = rw read refl;
      numbers = IsNumber-decimal n low;
      utf8 = IsUtf8-from_ascii (decimal n) (IsAscii-from_digits (decimal n) (own.to (decimal n) digits));
      begins = digits_begin (decimal n) digits;
      ends = digits_end (decimal n) digits;
    }
integer_read (negsuc n) h =
    let small : n < 2 ^ 63 = omega (arith, ints) in
    let low : suc n < 2 ^ 64 = omega arith in
    let read = number_of-negative n small in
    let digits = digits_decimal own (suc n) low in
    record {
      again = rw read refl;
      numbers = IsNumber-signed_decimal (negsuc n) small;
      utf8 = IsUtf8-from_ascii (45 ∷ decimal (suc n)) (IsAscii-cons 45 (decimal (suc n)) (omega arith) (IsAscii-from_digits (decimal (suc n)) (own.to (decimal (suc n)) digits)));
      begins = refl;
      ends = minus_end (decimal (suc n)) (digits_end (decimal (suc n)) digits);
    }

text_read : (t : List ℕ) → IsUtf8 t → IsRead (string t)
text_read t h = record { again = refl; numbers = tt; utf8 = IsUtf8-quoted t h; begins = refl; ends = ends_behind (34 ∷ escape t) 34 }

bool_read : (b : Bool) → IsRead (boolean b)
bool_read true = record { again = refl; numbers = tt; utf8 = IsUtf8-boolean true; begins = refl; ends = refl }
bool_read false = record { again = refl; numbers = tt; utf8 = IsUtf8-boolean false; begins = refl; ends = refl }

integer_flat : (z : ℤ) → IsFlat (number (of_integer z))
integer_flat (pos n) = refl
integer_flat (negsuc n) = refl

integer_from : (z : ℤ) → FitsSigned w64 z → as_i64 (of_integer z) ≡ Some z
integer_from (pos n) h =
    let small : n < 2 ^ 63 = omega (arith, ints) in
    rw (lt-ltb n (2 ^ 63) small) refl
integer_from (negsuc n) h = refl

simple_read : (l : Value-F Value) → IsSpelledSimple l → IsRead (simple_level l)
simple_read Value-F.Null h = elim h [ ]
simple_read (Value-F.Bool b) h = bool_read b
simple_read (Value-F.Int n) h = integer_read n h
simple_read (Value-F.Text t) h = text_read t h
simple_read (Value-F.List vs) h = elim h [ ]
simple_read (Value-F.Vertex v) h = elim h [ ]
simple_read (Value-F.Edge e) h = elim h [ ]

simple_flat : (l : Value-F Value) → IsSpelledSimple l → IsFlat (simple_level l)
simple_flat Value-F.Null h = elim h [ ]
simple_flat (Value-F.Bool b) h = refl
simple_flat (Value-F.Int n) h = integer_flat n
simple_flat (Value-F.Text t) h = refl
simple_flat (Value-F.List vs) h = elim h [ ]
simple_flat (Value-F.Vertex v) h = elim h [ ]
simple_flat (Value-F.Edge e) h = elim h [ ]

simple_again : (l : Value-F Value) → IsSpelledSimple l → simple_from (simple_level l) ≡ Some (roll-Value l)
simple_again Value-F.Null h = elim h [ ]
simple_again (Value-F.Bool b) h = ap Some (bool_rolled b)
simple_again (Value-F.Int n) h = ap (option_map value.Int) (integer_from n h) ∙ ap Some (sym (int_rolled n))
simple_again (Value-F.Text t) h = ap Some (text_rolled t)
simple_again (Value-F.List vs) h = elim h [ ]
simple_again (Value-F.Vertex v) h = elim h [ ]
simple_again (Value-F.Edge e) h = elim h [ ]

element_again : (v : Value) → IsSpelledSimple (out-Value v) → simple_from (simple_data v) ≡ Some v
element_again v h = simple_again (out-Value v) h ∙ ap Some (roll-out-Value v)

-- WHAT A LIST IS AS JSON

abbrev items_for : List Value → Items
items_for vs = items_of (map simple_data vs)

items_again : (vs : List Value) → AreSpelled vs → of_items (items_outline (items_for vs)) ≡ Some (items_for vs)
items_again [] h = refl
items_again (v ∷ vs) h = rw ((simple_read (out-Value v) h.0).again, items_again vs h.1) refl

items_numbers : (vs : List Value) → AreSpelled vs → tree.ItemsHaveNumbers (items_outline (items_for vs))
items_numbers [] h = tt
items_numbers (v ∷ vs) h = ((simple_read (out-Value v) h.0).numbers, items_numbers vs h.1)

items_tree_depth : (vs : List Value) → AreSpelled vs → tree.items_depth (items_outline (items_for vs)) ≡ 0
items_tree_depth [] h = refl
items_tree_depth (v ∷ vs) h = rw ((simple_flat (out-Value v) h.0), items_tree_depth vs h.1) refl

comma_utf8 : (later : Bool) → IsUtf8 (comma_if later)
comma_utf8 true = IsUtf8-are_ascii (44 ∷ []) refl
comma_utf8 false = IsUtf8-are_ascii [] refl

items_utf8 : (later : Bool) (vs : List Value) → AreSpelled vs → IsUtf8 (items_text later (items_for vs))
items_utf8 later [] h = IsUtf8-are_ascii (93 ∷ []) refl
items_utf8 later (v ∷ vs) h =
    IsUtf8-append (comma_if later) _ (comma_utf8 later) (IsUtf8-append (compact_text (simple_data v)) _ (simple_read (out-Value v) h.0).utf8 (items_utf8 true vs h.1))

-- the closing bracket comes last
items_close : (later : Bool) (items : Items) → (front : List ℕ) × (items_text later items ≡ front ++ 93 ∷ [])
items_close later no_items = ([], refl)
items_close later (item d items) =
    let rest = items_close true items in
    (comma_if later ++ (compact_text d ++ rest.0), ap (λ t. comma_if later ++ (compact_text d ++ t)) rest.1 ∙ ap (λ t. comma_if later ++ t) (sym (append_assoc (compact_text d) rest.0 (93 ∷ []))) ∙ sym (append_assoc (comma_if later) (compact_text d ++ rest.0) (93 ∷ [])))

list_ends : (items : Items) → ends_white (91 ∷ items_text false items) ≡ false
list_ends items =
    let close = items_close false items in
    ap (λ t. ends_white (91 ∷ t)) close.1 ∙ ends_behind (91 ∷ close.0) 93

list_read : (vs : List Value) → AreSpelled vs → IsRead (array (items_for vs))
list_read vs h = record {
  again = rw (items_again vs h) refl;
  numbers = items_numbers vs h;
  utf8 = IsUtf8-append (91 ∷ []) _ (IsUtf8-are_ascii (91 ∷ []) refl) (items_utf8 false vs h);
  begins = refl;
  ends = list_ends (items_for vs);
}

list_again : (vs : List Value) → AreSpelled vs → list_from (items_for vs) ≡ Some vs
list_again [] h = refl
list_again (v ∷ vs) h = rw (element_again v h.0, list_again vs h.1) refl

-- ANY VALUE

-- how the tokens of a text are read to the end
abbrev whole : List Token → Option Data
whole ts = option_and_then of_json (option_and_then (λ p. if_last p.0 p.1) (json.value max_depth ts))

read_again : (d : Data) → IsRead d → tree.depth (outline d) ≤ max_depth → read (compact_text d) ≡ Some d
read_again d is shallow =
    let tokens_are : tokens (compact_text d) ≡ tree.json_tokens (outline d) ++ [] =
    ap tokens (sym (print-outline d)) ∙ tokens-print (tree.json_tokens (outline d)) (ArePrintable-json_tokens (outline d) is.numbers) ∙ sym (append-nil (tree.json_tokens (outline d))) in
    ap whole tokens_are
    ∙ ap (λ o. option_and_then of_json (option_and_then (λ p. if_last p.0 p.1) o)) (value-json_tokens (outline d) max_depth [] shallow)
    ∙ is.again

text_again : (d : Data) (v : Value) → IsRead d → tree.depth (outline d) ≤ max_depth → value_from d ≡ Some v → json_value (compact_text d) ≡ Some v
text_again d v is shallow from = json_read (compact_text d) d is.begins is.ends is.utf8 (read_again d is shallow) ∙ from

flat_again : (d : Data) (v : Value) → IsRead d → IsFlat d → value_from d ≡ Some v → json_value (compact_text d) ≡ Some v
flat_again d v is flat from = text_again d v is (omega (arith, flat)) from

null_read : IsRead null
null_read = record { again = refl; numbers = tt; utf8 = IsUtf8-are_ascii (110 ∷ 117 ∷ 108 ∷ 108 ∷ []) refl; begins = refl; ends = refl }

level_again : (l : Value-F Value) → IsSpelledLevel l → json_value (compact_text (value_level l)) ≡ Some (roll-Value l)
level_again Value-F.Null h = flat_again null _ null_read (refl) (ap Some null_rolled)
level_again (Value-F.Bool b) h = flat_again (boolean b) _ (bool_read b) (simple_flat (Value-F.Bool b) h) (simple_again (Value-F.Bool b) h)
level_again (Value-F.Int n) h = flat_again (number (of_integer n)) _ (integer_read n h) (integer_flat n) (simple_again (Value-F.Int n) h)
level_again (Value-F.Text t) h = flat_again (string t) _ (text_read t h) (simple_flat (Value-F.Text t) h) (simple_again (Value-F.Text t) h)
level_again (Value-F.List vs) h =
    let tree_one : tree.depth (outline (array (items_for vs))) ≡ 1 = rw (items_tree_depth vs h) refl in
    text_again (array (items_for vs)) _ (list_read vs h) (omega (arith, tree_one)) (ap (option_map value.List) (list_again vs h) ∙ ap Some (list_rolled vs))
level_again (Value-F.Vertex v) h = elim h [ ]
level_again (Value-F.Edge e) h = elim h [ ]

pub value_again : (v : Value) → IsSpelledValue v → json_value (value_text v) ≡ Some v
value_again v h = level_again (out-Value v) h ∙ ap Some (roll-out-Value v)

-- an integer as it is printed
pub integer_again : (z : ℤ) → FitsSigned w64 z → json_value (compact_text (number (of_integer z))) ≡ Some (value.Int z)
integer_again z h = flat_again (number (of_integer z)) _ (integer_read z h) (integer_flat z) (ap (option_map value.Int) (integer_from z h))
