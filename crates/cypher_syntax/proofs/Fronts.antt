-- What stands at the front of a text takes at least one byte, and no more than there are.
use Rattle.std.proofs.Common.{◌≡◌, ℕ, zero, suc, ◌+◌, ◌-◌, ◌≤◌, ◌<◌, Bool, true, false, cond, ◌&&◌, eqb, List, [], ◌∷◌, length, take, drop, Option, Some, None, option_map, get_or, refl, sym, subst, ap, ◌∙◌, arith}
use Rattle.std.specs.List.{prefix_len}
use Rattle.std.specs.Char.{is_ascii_digit, encode_utf8}
use Rattle.std.proofs.lemmas.Bool.Decides.{nat_tests}
use Rattle.std.specs.Str.{IsUtf8, IsCharBoundary}
use Rattle.std.proofs.lemmas.Str.{IsCharBoundary-after_ascii}
use Rattle.std.proofs.lemmas.Bool.{false≢true}
use Rattle.std.proofs.lemmas.List.{drop_more, length-drop, take_rest}
use Rattle.std.proofs.lemmas.List.Sums.{prefix_len-le-length}
use Rattle.cypher_syntax.specs.declared.token.What.{What}
use Rattle.cypher_syntax.specs.declared.lexer.quotes.Part.{Part}
use Rattle.cypher_syntax.specs.declared.lexer.quotes.Part.TheVariants.{Closes, Char, Broken}
use Rattle.cypher_syntax.specs.declared.lexer.front.Front.{Front}
use Rattle.cypher_syntax.specs.declared.lexer.front.Front.TheVariants.{Gap, Made, Fault}
use Rattle.cypher_syntax.specs.Bytes.{is_blank, begins_word, continues_word, is_quote, heads, is_sign, is_long_sign, sign_len, within_line, closed_len}
use Rattle.cypher_syntax.specs.Quotes.{is_plain, part_of, Ended, further, with_part, inside}
use Rattle.cypher_syntax.specs.Lexing.{made, name_front, text_front, quote_front, closed_front, sign_front, slash_front, unquoted_front, front_of}

abbrev pub IsWithin : Front → ℕ → Type 0
IsWithin (Gap n) len = (0 < n) × (n ≤ len)
IsWithin (Made w n) len = (0 < n) × (n ≤ len)
IsWithin Fault len = Unit {0}

pub chosen : (P : Front → Type 0) (t : Bool) (a b : Front) → (t ≡ true → P a) → P b → P (cond t a b)
chosen P true a b x y = x refl
chosen P false a b x y = y

run_within : (p : ℕ → Bool) (b : ℕ) (bs : List ℕ) → p b ≡ true → (0 < prefix_len p (b ∷ bs)) × (prefix_len p (b ∷ bs) ≤ length (b ∷ bs))
run_within p b bs h =
    let e : prefix_len p (b ∷ bs) ≡ 1 + prefix_len p bs = rw h refl in
    let le = prefix_len-le-length p bs in
    (omega (arith, e), omega (arith, e, le))

made_within : (o : Option What) (n len : ℕ) → (0 < n) × (n ≤ len) → IsWithin (made o n) len
made_within None n len h = tt
made_within (Some w) n len h = h

-- between quotes

abbrev pub EndsWithin : Ended → ℕ → Type 0
EndsWithin None len = Unit {0}
EndsWithin (Some (text, n)) len = n ≤ len

further_within : (f : List ℕ) (e : Ended) (len : ℕ) → EndsWithin e len → EndsWithin (further f 1 e) (suc len)
further_within f None len h = tt
further_within f (Some (t, n)) len h = omega (arith, h)

part_within : (p : Part) (rest : ℕ → Ended) (len : ℕ) → ((k : ℕ) → EndsWithin (rest k) len) → EndsWithin (with_part p rest) (suc len)
part_within Closes rest len h = omega arith
part_within (Char c n) rest len h = further_within (encode_utf8 c) (rest (n - 1)) len (h (n - 1))
part_within Broken rest len h = tt

pub inside_within : (q k : ℕ) (xs : List ℕ) → EndsWithin (inside q k xs) (length xs)
unfolding inside
inside_within q k [] = tt
inside_within q (suc k) (x ∷ xs) = further_within [] (inside q k xs) (length xs) (inside_within q k xs)
inside_within q zero (x ∷ xs) =
    elim (is_plain q x) as (λ b. EndsWithin (cond b (further (x ∷ []) 1 (inside q zero xs)) (with_part (part_of q (x ∷ xs)) (λ skip. inside q skip xs))) (suc (length xs))) [
      | true ↦ further_within (x ∷ []) (inside q zero xs) (length xs) (inside_within q zero xs)
      | false ↦ part_within (part_of q (x ∷ xs)) (λ skip. inside q skip xs) (length xs) (λ k. inside_within q k xs)
    ]

name_within : (e : Ended) (len : ℕ) → EndsWithin e len → IsWithin (name_front e) (suc len)
name_within None len h = tt
name_within (Some ([], n)) len h = tt
name_within (Some (b ∷ t, n)) len h = (omega arith, omega (arith, h))

text_within : (e : Ended) (len : ℕ) → EndsWithin e len → IsWithin (text_front e) (suc len)
text_within None len h = tt
text_within (Some (t, n)) len h = (omega arith, omega (arith, h))

quote_within : (q : ℕ) (bs : List ℕ) → IsWithin (quote_front q bs) (suc (length bs))
quote_within q bs =
    chosen (λ f. IsWithin f (suc (length bs))) (eqb q 96) _ _
    (λ _. name_within (inside 96 0 bs) (length bs) (inside_within 96 0 bs))
    (text_within (inside q 0 bs) (length bs) (inside_within q 0 bs))

-- comments and signs

abbrev LenWithin : Option ℕ → ℕ → Type 0
LenWithin None len = Unit {0}
LenWithin (Some n) len = n ≤ len

one_more : (o : Option ℕ) (len : ℕ) → LenWithin o len → LenWithin (option_map suc o) (suc len)
one_more None len h = tt
one_more (Some n) len h = omega (arith, h)

closed_step : (b : Bool) (o : Option ℕ) (len : ℕ) → (b ≡ true → 2 ≤ suc len) → LenWithin o len → LenWithin (cond b (Some 2) (option_map suc o)) (suc len)
closed_step true o len x h = x refl
closed_step false o len x h = one_more o len h

closing_first : (t : Bool) (xs : List ℕ) → t && heads 47 xs ≡ true → 2 ≤ suc (length xs)
closing_first true [] h = absurd (false≢true h)
closing_first false [] h = absurd (false≢true h)
closing_first t (x ∷ xs) h = omega arith

closed_within : (xs : List ℕ) → LenWithin (closed_len xs) (length xs)
closed_within [] = tt
closed_within (x ∷ xs) = closed_step (eqb x 42 && heads 47 xs) (closed_len xs) (length xs) (closing_first (eqb x 42) xs) (closed_within xs)

gap_within : (o : Option ℕ) (len : ℕ) → LenWithin o len → IsWithin (closed_front o) (suc (suc len))
gap_within None len h = tt
gap_within (Some n) len h = (omega arith, omega (arith, h))

sign_within : (n len : ℕ) → n ≤ len → IsWithin (sign_front n) len
sign_within zero len h = tt
sign_within (suc n) len h = (omega arith, h)

sign_len_within : (xs : List ℕ) → sign_len xs ≤ length xs
sign_len_within [] = omega arith
sign_len_within (a ∷ []) = elim (is_sign a) as (λ t. cond t 1 0 ≤ 1) [ true ↦ omega arith | false ↦ omega arith ]
sign_len_within (a ∷ b ∷ bs) = elim (is_long_sign a b) as (λ t. cond t 2 (cond (is_sign a) 1 0) ≤ suc (suc (length bs))) [
  | true ↦ omega arith
  | false ↦ elim (is_sign a) as (λ t. cond t 1 0 ≤ suc (suc (length bs))) [ true ↦ omega arith | false ↦ omega arith ]
]

inner_within : (t : Bool) (bs : List ℕ) → t && heads 42 bs ≡ true → IsWithin (closed_front (closed_len (drop 1 bs))) (suc (length bs))
inner_within true [] h = tt
inner_within false [] h = tt
inner_within t (c ∷ cs) h = gap_within (closed_len cs) (length cs) (closed_within cs)

pub word_goes_on : (b : ℕ) → begins_word b ≡ true → continues_word b ≡ true
word_goes_on b h = grind (arith, nat_tests)

pub digit_goes_on : (b : ℕ) → is_ascii_digit b ≡ true → continues_word b ≡ true
digit_goes_on b h = grind (arith, nat_tests)

pub slash_goes_on : (b : ℕ) (t : Bool) → eqb b 47 && t ≡ true → within_line b ≡ true
slash_goes_on b t h = grind (arith, nat_tests)

slash_within : (b : ℕ) (bs : List ℕ) → IsWithin (slash_front (b ∷ bs)) (suc (length bs))
slash_within b bs =
    let P : Front → Type 0 = λ f. IsWithin f (suc (length bs)) in
    chosen P (eqb b 47 && heads 47 bs) _ _ (λ h. run_within within_line b bs (slash_goes_on b (heads 47 bs) h))
    (chosen P (eqb b 47 && heads 42 bs) _ _ (inner_within (eqb b 47) bs) (sign_within (sign_len (b ∷ bs)) (suc (length bs)) (sign_len_within (b ∷ bs))))

unquoted_within : (b : ℕ) (bs : List ℕ) → IsWithin (unquoted_front (b ∷ bs)) (suc (length bs))
unfolding unquoted_front
unquoted_within b bs =
    let P : Front → Type 0 = λ f. IsWithin f (suc (length bs)) in
    chosen P (is_blank b) _ _ (λ h. run_within is_blank b bs h)
    (chosen P (begins_word b) _ _ (λ h. run_within continues_word b bs (word_goes_on b h))
    (chosen P (is_ascii_digit b) _ _ (λ h. made_within _ _ _ (run_within continues_word b bs (digit_goes_on b h))) (slash_within b bs)))

pub front_within : (b : ℕ) (bs : List ℕ) → IsWithin (front_of (b ∷ bs)) (suc (length bs))
unfolding front_of
front_within b bs = chosen (λ f. IsWithin f (suc (length bs))) (is_quote b) _ _ (λ _. quote_within b bs) (unquoted_within b bs)

at_first : (b : ℕ) (bs : List ℕ) (t : Bool) → is_quote b ≡ t → front_of (b ∷ bs) ≡ cond t (quote_front b bs) (unquoted_front (b ∷ bs))
unfolding front_of
at_first b bs t h = ap (λ t. cond t (quote_front b bs) (unquoted_front (b ∷ bs))) h

pub at_quote : (text : List ℕ) (at : ℕ) → at < length text → is_quote (get_or text at 0) ≡ true → front_of (drop at text) ≡ quote_front (get_or text at 0) (drop (at + 1) text)
at_quote text at there h = ap front_of (drop_more text at 0 there) ∙ at_first (get_or text at 0) (drop (at + 1) text) true h

pub at_other : (text : List ℕ) (at : ℕ) → at < length text → is_quote (get_or text at 0) ≡ false → front_of (drop at text) ≡ unquoted_front (drop at text)
at_other text at there h = ap front_of (drop_more text at 0 there) ∙ at_first (get_or text at 0) (drop (at + 1) text) false h ∙ ap unquoted_front (sym (drop_more text at 0 there))

quote_is_ascii : (b : ℕ) → is_quote b ≡ true → b < 128
quote_is_ascii b h = grind (arith, nat_tests)

-- behind a quote a character begins
pub quote_boundary : (text : List ℕ) (at : ℕ) → IsUtf8 text → at < length text → is_quote (get_or text at 0) ≡ true → IsCharBoundary text (at + 1)
quote_boundary text at utf8 there h = IsCharBoundary-after_ascii text at utf8 there (quote_is_ascii (get_or text at 0) h)

-- what stands at a place ends within the text
pub within_at : (text : List ℕ) (at : ℕ) (f : Front) → at < length text → f ≡ front_of (drop at text) → IsWithin f (length text - at)
within_at text at f there is =
    let more = drop_more text at 0 there in
    let P : Front → Type 0 = λ f. IsWithin f (length text - at) in
    let len : suc (length (drop (at + 1) text)) ≡ length text - at = omega (arith, length-drop (at + 1) text) in
    let Q : ℕ → Type 0 = λ n. IsWithin (front_of (get_or text at 0 ∷ drop (at + 1) text)) n in
    subst P (sym (is ∙ ap front_of more)) (subst Q len (front_within (get_or text at 0) (drop (at + 1) text)))

-- the same of the rest of the bytes of a text
pub at_rest : (text bytes : List ℕ) (at : ℕ) → at < length text → bytes ≡ text → is_quote (get_or text at 0) ≡ false → unquoted_front (take (length bytes - at) (drop at bytes)) ≡ front_of (drop at text)
at_rest text bytes at there same h = ap unquoted_front (take_rest bytes at ∙ ap (drop at) same) ∙ sym (at_other text at there h)
