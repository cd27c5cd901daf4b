-- A text that is read as an integer.
use Rattle.std.proofs.Common.{◌≡◌, ℕ, ◌<◌, List, [], ◌∷◌, ℤ, Bool, true, false, ◌&&◌, cond, nat_lt, w64, refl, sym, ap, ◌∙◌, arith}
use Rattle.std.specs.Char.{digit_value}
use Rattle.std.specs.List.{list_all}
use Rattle.std.specs.Prelude.{FitsSigned}
use Rattle.std.specs.Str.Parse.{AllDigits, IsNumeral, without_leading_sign, signed_digits_value}
use Rattle.std.proofs.lemmas.Bool.{false≢true, and_parts}
use Rattle.std.proofs.lemmas.Bool.Decides.{nat_tests}
use Rattle.graph_value.specs.declared.value.Value.TheVariants as value
use Rattle.expr_eval.specs.Functions.{are_digits, integer_in}
use Rattle.expr_eval.specs.Numbers.{fits}
use Rattle.expr_eval.proofs.Fitting.{fits_true, fits_back}

abbrev is_decimal : ℕ → Bool
is_decimal b = nat_lt (digit_value b) 10

below : (a b : ℕ) → a < b → nat_lt a b ≡ true
below a b h = grind (arith, nat_tests)

above : (a b : ℕ) → nat_lt a b ≡ true → a < b
above a b e = grind (arith, nat_tests)

all_digits : (bs : List ℕ) → AllDigits 10 bs → list_all is_decimal bs ≡ true
all_digits [] h = refl
all_digits (b ∷ bs) h = ap (λ t. t && list_all is_decimal bs) (below (digit_value b) 10 h.0) ∙ all_digits bs h.1

digits_back : (bs : List ℕ) → list_all is_decimal bs ≡ true → AllDigits 10 bs
digits_back [] e = tt
digits_back (b ∷ bs) e =
    let parts = and_parts (is_decimal b) (list_all is_decimal bs) e in
    (above (digit_value b) 10 parts.0, digits_back bs parts.1)

numeral_true : (bs : List ℕ) → IsNumeral 10 bs → are_digits bs ≡ true
numeral_true [] h = absurd (omega (arith, h.0))
numeral_true (b ∷ bs) h = all_digits (b ∷ bs) h.1

numeral_back : (bs : List ℕ) → are_digits bs ≡ true → IsNumeral 10 bs
numeral_back [] e = absurd (false≢true e)
numeral_back (b ∷ bs) e = (omega arith, digits_back (b ∷ bs) e)

abbrev Reads : List ℕ → Type 0
Reads text = IsNumeral 10 (without_leading_sign text) × FitsSigned w64 (signed_digits_value 10 text)

abbrev reads : List ℕ → Bool
reads text = are_digits (without_leading_sign text) && fits (signed_digits_value 10 text)

reads_true : (text : List ℕ) → Reads text → reads text ≡ true
reads_true text h = ap (λ b. b && fits (signed_digits_value 10 text)) (numeral_true (without_leading_sign text) h.0) ∙ fits_true (signed_digits_value 10 text) h.1

reads_back : (text : List ℕ) → reads text ≡ true → Reads text
reads_back text e =
    let parts = and_parts (are_digits (without_leading_sign text)) (fits (signed_digits_value 10 text)) e in
    (numeral_back (without_leading_sign text) parts.0, fits_back (signed_digits_value 10 text) parts.1)

pub reads_integer : (text : List ℕ) (n : ℤ) → Reads text → n ≡ signed_digits_value 10 text → value.Int n ≡ integer_in text
reads_integer text n h e = ap value.Int e ∙ sym (ap (λ b. cond b (value.Int (signed_digits_value 10 text)) value.Null) (reads_true text h))

pub reads_none : (text : List ℕ) → (Reads text → ⊥) → value.Null ≡ integer_in text
reads_none text never =
    elim (reads text) as (λ b. reads text ≡ b → value.Null ≡ cond b (value.Int (signed_digits_value 10 text)) value.Null) [
      | true ↦ λ e. absurd (never (reads_back text e))
      | false ↦ λ e. refl
    ] refl
