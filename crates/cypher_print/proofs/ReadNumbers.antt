-- Printed numbers are read as themselves.
use Rattle.std.proofs.Common.{◌≡◌, ℕ, zero, suc, ◌+◌, ◌*◌, ◌^◌, ◌<◌, ◌≤◌, true, false, eqb, nat_lt, pos, List, [], ◌∷◌, ◌++◌, length, take, get_or, Some, option_and_then, refl, sym, ap, ◌∙◌, arith}
use Rattle.std.specs.List.{list_all, prefix_len, fold}
use Rattle.std.specs.Char.{is_ascii_digit, digit_value}
use Rattle.std.specs.Fmt.{decimal}
use Rattle.std.specs.Str.Parse.{AllDigits, digits_value_after}
use Rattle.std.proofs.Math.Seq.{take-append_seam}
use Rattle.std.proofs.lemmas.Bool.{false≢true}
use Rattle.std.proofs.lemmas.Bool.Decides.{nat_tests}
use Rattle.std.proofs.lemmas.Fmt.{decimal_is_IsNumeral, first_decimal, decimal_digit}
use Rattle.std.proofs.lemmas.Str.Parse.{digit_from_value}
use Rattle.cypher_syntax.specs.declared.token.What.{What}
use Rattle.cypher_syntax.specs.declared.token.What.TheVariants as what
use Rattle.cypher_syntax.specs.Bytes.{is_blank, begins_word, continues_word, is_quote}
use Rattle.cypher_syntax.specs.Numerals.{digit_of, is_decimal, is_hexadecimal, numeral_of, integer_of}
use Rattle.cypher_syntax.specs.Lexing.{made, unquoted_front, front_of, number_front}
use Rattle.cypher_syntax.proofs.Spelled.{is_byte}
use Rattle.cypher_parse.specs.declared.lexeme.Lexeme.{Lexeme}
use Rattle.cypher_parse.specs.Texts.{lexeme_of}
use Rattle.cypher_print.specs.ReadBack.{parts_word, IsReadAs, IsNumber, IsLeast}
use Rattle.cypher_print.proofs.ReadBack.{split, run, in_front}

in_range : (c : ℕ) → digit_value c < 10 → (48 ≤ c) × (c ≤ 57)
in_range c h = digit_from_value c h

is_digit : (c : ℕ) → digit_value c < 10 → is_ascii_digit c ≡ true
is_digit c h = let r = in_range c h in grind (arith, nat_tests, r)

same_digit : (c : ℕ) → digit_value c < 10 → digit_of c ≡ digit_value c
same_digit c h = let r = in_range c h in grind (arith, nat_tests, r)

same_value : (n : ℕ) (ds : List ℕ) → AllDigits 10 ds → fold (λ n b. n * 10 + digit_of b) n ds ≡ digits_value_after 10 n ds
same_value n [] h = refl
same_value n (c ∷ cs) h = ap (λ d. fold (λ n b. n * 10 + digit_of b) (n * 10 + d) cs) (same_digit c h.0) ∙ same_value (n * 10 + digit_value c) cs h.1

digits : (ds : List ℕ) → AllDigits 10 ds → list_all is_ascii_digit ds ≡ true
digits [] h = refl
digits (c ∷ cs) h = rw (is_digit c h.0) (digits cs h.1)

no_cross : (d : ℕ) → digit_value d < 10 → eqb d 120 ≡ false
no_cross d h = let r = in_range d h in grind (arith, nat_tests, r)

not_hexadecimal : (ds : List ℕ) → AllDigits 10 ds → is_hexadecimal ds ≡ false
not_hexadecimal [] h = refl
not_hexadecimal (c ∷ []) h = refl
not_hexadecimal (c ∷ d ∷ []) h = refl
not_hexadecimal (c ∷ d ∷ e ∷ ds) h = split (is_hexadecimal (c ∷ d ∷ e ∷ ds) ≡ false) (eqb c 48) (λ z. rw z (rw (no_cross d h.1.0) refl)) (λ z. rw z refl)

is_numeral : (ds : List ℕ) → AllDigits 10 ds → 0 < length ds → (get_or ds 0 0 ≡ 48 → length ds ≡ 1) → is_decimal ds ≡ true
is_numeral [] h some first = absurd (omega arith)
is_numeral (c ∷ []) h some first = is_digit c h.0
is_numeral (c ∷ d ∷ ds) h some first =
    split (is_decimal (c ∷ d ∷ ds) ≡ true) (eqb c 48)
    (λ z. (let one = first (is_byte c 48 z) in absurd (omega (arith, one))))
    (λ z. rw z (digits (c ∷ d ∷ ds) h))

no_leading_zero : (n : ℕ) → n < 2 ^ 64 → get_or (decimal n) 0 0 ≡ 48 → length (decimal n) ≡ 1
no_leading_zero zero small h = ap length (decimal_digit 0 (omega arith))
no_leading_zero (suc n) small h = let more = first_decimal (suc n) (omega arith) small in absurd (omega (arith, more, h))

numeral : (n : ℕ) → n < 2 ^ 64 → numeral_of (decimal n) ≡ Some n
numeral n small =
    let is = decimal_is_IsNumeral n small in
    rw (not_hexadecimal (decimal n) is.0.1) (rw (is_numeral (decimal n) is.0.1 is.0.0 (no_leading_zero n small)) (ap Some (same_value 0 (decimal n) is.0.1 ∙ is.1)))

integer : (n : ℕ) → n < 2 ^ 63 → option_and_then integer_of (numeral_of (decimal n)) ≡ Some (what.Int (pos n))
integer n small =
    let fits : n < 2 ^ 64 = omega (arith, small) in
    let lt : nat_lt n (2 ^ 63) ≡ true = grind (arith, nat_tests, small) in
    ap (option_and_then integer_of) (numeral n fits) ∙ (rw lt refl)

unquoted : (c : ℕ) → digit_value c < 10 → is_quote c ≡ false
unquoted c h = let r = in_range c h in grind (arith, nat_tests, r)

unblank : (c : ℕ) → digit_value c < 10 → is_blank c ≡ false
unblank c h = let r = in_range c h in grind (arith, nat_tests, r)

no_word : (c : ℕ) → digit_value c < 10 → begins_word c ≡ false
no_word c h = let r = in_range c h in grind (arith, nat_tests, r)

in_word : (c : ℕ) → digit_value c < 10 → continues_word c ≡ true
in_word c h = let r = in_range c h in grind (arith, nat_tests, r)

all_in_word : (ds : List ℕ) → AllDigits 10 ds → list_all continues_word ds ≡ true
all_in_word [] h = refl
all_in_word (c ∷ cs) h = rw (in_word c h.0) (all_in_word cs h.1)

pub no_more : (behind : List ℕ) → parts_word behind ≡ true → prefix_len continues_word behind ≡ 0
no_more [] h = refl
no_more (b ∷ bytes) h = split (prefix_len continues_word (b ∷ bytes) ≡ 0) (continues_word b) (λ c. absurd (false≢true (sym (rw c refl) ∙ h))) (λ c. rw c refl)

front_is : (ds behind : List ℕ) → AllDigits 10 ds → 0 < length ds → front_of (ds ++ behind) ≡ number_front (ds ++ behind)
unfolding front_of unquoted_front
front_is [] behind h some = absurd (omega arith)
front_is (c ∷ cs) behind h some = rw (unquoted c h.0) (rw (unblank c h.0) (rw (no_word c h.0) (rw (is_digit c h.0) refl)))

-- the digits of a number that is such a token
numbered : (P : Lexeme → Type 0) (w : What) (n : ℕ) (behind : List ℕ) → n < 2 ^ 64 → option_and_then integer_of (numeral_of (decimal n)) ≡ Some w → parts_word behind ≡ true
    → ((place : ℕ) → P (lexeme_of w (decimal n) place)) → IsReadAs P (decimal n) behind
numbered P w n behind fits token parts such =
    let is = decimal_is_IsNumeral n fits in
    let len = run continues_word (decimal n) behind (all_in_word (decimal n) is.0.1) (no_more behind parts) in
    in_front P w (decimal n) behind is.0.0
    (front_is (decimal n) behind is.0.1 is.0.0
    ∙ ap (λ m. made (option_and_then integer_of (numeral_of (take m (decimal n ++ behind)))) m) len
    ∙ ap (λ ys. made (option_and_then integer_of (numeral_of ys)) (length (decimal n))) (take-append_seam (decimal n) behind)
    ∙ ap (λ o. made o (length (decimal n))) token)
    such

pub numbers : (n : ℕ) (behind : List ℕ) → n < 2 ^ 63 → parts_word behind ≡ true → IsReadAs (IsNumber n) (decimal n) behind
numbers n behind small parts =
    let fits : n < 2 ^ 64 = omega (arith, small) in numbered (IsNumber n) (what.Int (pos n)) n behind fits (integer n small) parts (λ place. (refl, refl))

least_token : option_and_then integer_of (numeral_of (decimal (2 ^ 63))) ≡ Some what.IntMin
least_token = let fits : 2 ^ 63 < 2 ^ 64 = omega arith in ap (option_and_then integer_of) (numeral (2 ^ 63) fits)

pub least : (behind : List ℕ) → parts_word behind ≡ true → IsReadAs IsLeast (decimal (2 ^ 63)) behind
least behind parts = let fits : 2 ^ 63 < 2 ^ 64 = omega arith in numbered IsLeast what.IntMin (2 ^ 63) behind fits least_token parts (λ place. refl)
