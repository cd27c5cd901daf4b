-- What stands between quotes is read from its own bytes.
use Rattle.std.proofs.Common.{◌≡◌, ◌⊎◌, inl, inr, ℕ, zero, suc, ◌+◌, ◌-◌, ◌≤◌, ◌<◌, Bool, true, false, cond, ◌&&◌, ◌||◌, eqb, List, [], ◌∷◌, length, take, Some, None, refl, sym, ap, subst, ◌∙◌, arith, length-take}
use Rattle.std.specs.List.{list_all}
use Rattle.std.specs.Char.{is_ascii_hexdigit, encode_utf8}
use Rattle.std.proofs.lemmas.Bool.{false≢true}
use Rattle.cypher_syntax.specs.declared.lexer.quotes.Part.{Part}
use Rattle.cypher_syntax.specs.declared.lexer.quotes.Part.TheVariants.{Closes, Char, Broken}
use Rattle.cypher_syntax.specs.Bytes.{is_quote}
use Rattle.cypher_syntax.specs.Numerals.{value_in}
use Rattle.cypher_syntax.specs.Quotes.{is_plain, is_scalar, quote_of, escape_of, simple_of, scalar_of, part_of, Ended, further, with_part, inside}
use Rattle.cypher_syntax.specs.Lexing.{name_front, text_front, front_of}
use Rattle.cypher_syntax.specs.Spans.{IsQuoted}
use Rattle.cypher_syntax.proofs.Insides.{plain_first, other_first}
use Rattle.cypher_syntax.proofs.Fronts.{chosen, inside_within, EndsWithin}
use Rattle.cypher_syntax.proofs.Spelled.{Said, IsLocal, quote_local, scalar_same, unquoted_said, is_byte}

either : (P : Part → Type 0) (b : Bool) (p r : Part) → P p → P r → P (cond b p r)
either P true p r x y = x
either P false p r x y = y

-- a character of so many bytes, if it is one
abbrev SizeIs : ℕ → Part → Type 0
SizeIs k (Char c m) = m ≡ k
SizeIs k Closes = Unit {0}
SizeIs k Broken = Unit {0}

sized : (k c m : ℕ) (p : Part) → SizeIs k p → p ≡ Char c m → m ≡ k
sized k c m p s h = let P : Part → Type 0 = λ p. SizeIs k p in subst P h s

scalar_size : (k : ℕ) (ys : List ℕ) → SizeIs (k + 2) (scalar_of k ys)
scalar_size k ys = either (SizeIs (k + 2)) (eqb (length (take k ys)) k && list_all is_ascii_hexdigit (take k ys) && is_scalar (value_in 16 (take k ys))) _ _ refl tt

simple_size : (v : ℕ) → SizeIs 2 (simple_of v)
simple_size v =
    let P : Part → Type 0 = SizeIs 2 in
    either P (eqb v 92) _ _ refl (either P (eqb v 39) _ _ refl (either P (eqb v 34) _ _ refl (either P (eqb v 98) _ _ refl
    (either P (eqb v 102) _ _ refl (either P (eqb v 110) _ _ refl (either P (eqb v 114) _ _ refl (either P (eqb v 116) _ _ refl tt)))))))

-- an escape by its first byte
abbrev escape : Bool → Bool → ℕ → List ℕ → Part
escape u v e ys = cond u (scalar_of 4 ys) (cond v (scalar_of 8 ys) (simple_of e))

escape_least : (u v : Bool) (e c m : ℕ) (ys : List ℕ) → escape u v e ys ≡ Char c m → 2 ≤ m
escape_least true v e c m ys h = let s = sized 6 c m (scalar_of 4 ys) (scalar_size 4 ys) h in omega (arith, s)
escape_least false true e c m ys h = let s = sized 10 c m (scalar_of 8 ys) (scalar_size 8 ys) h in omega (arith, s)
escape_least false false e c m ys h = let s = sized 2 c m (simple_of e) (simple_size e) h in omega (arith, s)

escape_fits : (u v : Bool) (e c m j : ℕ) (ys : List ℕ) → escape u v e ys ≡ Char c m → m ≤ suc j + 1 → escape u v e (take j ys) ≡ Char c m
escape_fits true v e c m j ys h le =
    let s = sized 6 c m (scalar_of 4 ys) (scalar_size 4 ys) h in
    let room : 4 ≤ j = omega (arith, s) in scalar_same 4 j ys room ∙ h
escape_fits false true e c m j ys h le =
    let s = sized 10 c m (scalar_of 8 ys) (scalar_size 8 ys) h in
    let room : 8 ≤ j = omega (arith, s) in scalar_same 8 j ys room ∙ h
escape_fits false false e c m j ys h le = h

escape_local : (xs : List ℕ) (c m n : ℕ) → escape_of xs ≡ Char c m → m ≤ n + 1 → escape_of (take n xs) ≡ Char c m
escape_local [] c m n h le = absurd (cc)
escape_local (e ∷ ys) c m zero h le = let s = escape_least (eqb e 117) (eqb e 85) e c m ys h in absurd (omega (arith, s))
escape_local (e ∷ ys) c m (suc j) h le = let le' : m ≤ suc j + 1 = omega arith in escape_fits (eqb e 117) (eqb e 85) e c m j ys h le'

local_at : (f : List ℕ → Part) (p : Part) (xs : List ℕ) (c m n : ℕ) → IsLocal f p xs → p ≡ Char c m → m ≤ n + 1 → f (take n xs) ≡ Char c m
local_at f p xs c m n h is le = let P : Part → Type 0 = λ p. IsLocal f p xs in subst P is h n le

part_case : (b : Bool) (q c m n : ℕ) (xs : List ℕ) → cond b (quote_of q xs) (escape_of xs) ≡ Char c m → m ≤ n + 1 → cond b (quote_of q (take n xs)) (escape_of (take n xs)) ≡ Char c m
part_case true q c m n xs h le = local_at (quote_of q) (quote_of q xs) xs c m n (quote_local q xs) h le
part_case false q c m n xs h le = escape_local xs c m n h le

part_local : (q x c m n : ℕ) (xs : List ℕ) → part_of q (x ∷ xs) ≡ Char c m → m ≤ n + 1 → part_of q (x ∷ take n xs) ≡ Char c m
part_local q x c m n xs h le = part_case (eqb x q) q c m n xs h le

abbrev GoesOn : Part → Type 0
GoesOn (Char c m) = Unit {0}
GoesOn Closes = ⊥
GoesOn Broken = Unit {0}

simple_goes_on : (v : ℕ) → GoesOn (simple_of v)
simple_goes_on v =
    let P : Part → Type 0 = GoesOn in
    either P (eqb v 92) _ _ tt (either P (eqb v 39) _ _ tt (either P (eqb v 34) _ _ tt (either P (eqb v 98) _ _ tt
    (either P (eqb v 102) _ _ tt (either P (eqb v 110) _ _ tt (either P (eqb v 114) _ _ tt (either P (eqb v 116) _ _ tt tt)))))))

scalar_goes_on : (k : ℕ) (ys : List ℕ) → GoesOn (scalar_of k ys)
scalar_goes_on k ys = either GoesOn (eqb (length (take k ys)) k && list_all is_ascii_hexdigit (take k ys) && is_scalar (value_in 16 (take k ys))) _ _ tt tt

escape_goes_on : (xs : List ℕ) → GoesOn (escape_of xs)
escape_goes_on [] = tt
escape_goes_on (e ∷ ys) = either GoesOn (eqb e 117) _ _ (scalar_goes_on 4 ys) (either GoesOn (eqb e 85) _ _ (scalar_goes_on 8 ys) (simple_goes_on e))

lone_quote : (b : Bool) → cond (b && false) (Char 96 2) Closes ≡ Closes
lone_quote true = refl
lone_quote false = refl

closes_case : (b : Bool) (q : ℕ) (xs : List ℕ) → cond b (quote_of q xs) (escape_of xs) ≡ Closes → cond b (quote_of q []) (escape_of []) ≡ Closes
closes_case true q xs h = lone_quote (eqb q 96)
closes_case false q xs h = absurd (let P : Part → Type 0 = GoesOn in subst P h (escape_goes_on xs))

closes_local : (q x : ℕ) (xs : List ℕ) → part_of q (x ∷ xs) ≡ Closes → part_of q (x ∷ []) ≡ Closes
closes_local q x xs h = closes_case (eqb x q) q xs h

-- what is skipped lies in front of the end
abbrev Longer : ℕ → Ended → Type 0
Longer k None = Unit {0}
Longer k (Some (t, n)) = k < n

further_longer : (f : List ℕ) (e : Ended) → Longer 0 (further f 1 e)
further_longer f None = tt
further_longer f (Some (t, n)) = omega arith

skip_longer : (k : ℕ) (e : Ended) → Longer k e → Longer (suc k) (further [] 1 e)
skip_longer k None h = tt
skip_longer k (Some (t, n)) h = omega (arith, h)

part_longer : (p : Part) (rest : ℕ → Ended) → Longer 0 (with_part p rest)
part_longer Closes rest = omega arith
part_longer (Char c m) rest = further_longer (encode_utf8 c) (rest (m - 1))
part_longer Broken rest = tt

inside_longer : (q k : ℕ) (xs : List ℕ) → Longer k (inside q k xs)
unfolding inside
inside_longer q k [] = tt
inside_longer q (suc k) (x ∷ xs) = skip_longer k (inside q k xs) (inside_longer q k xs)
inside_longer q zero (x ∷ xs) =
    elim (is_plain q x) as (λ b. Longer 0 (cond b (further (x ∷ []) 1 (inside q zero xs)) (with_part (part_of q (x ∷ xs)) (λ skip. inside q skip xs)))) [
      | true ↦ further_longer (x ∷ []) (inside q zero xs)
      | false ↦ part_longer (part_of q (x ∷ xs)) (λ skip. inside q skip xs)
    ]

-- the same is read from the bytes that it takes
abbrev Same : ℕ → ℕ → Ended → List ℕ → Type 0
Same q k None xs = Unit {0}
Same q k (Some (t, n)) xs = inside q k (take n xs) ≡ Some (t, n)

same_skip : (q k x : ℕ) (xs : List ℕ) (e : Ended) → Same q k e xs → Same q (suc k) (further [] 1 e) (x ∷ xs)
unfolding inside
same_skip q k x xs None h = tt
same_skip q k x xs (Some (t, n)) h =
    let more : n + 1 ≡ suc n = omega arith in
    ap (λ j. inside q (suc k) (take j (x ∷ xs))) more ∙ ap (further [] 1) h

same_plain : (q x : ℕ) (xs : List ℕ) (e : Ended) → is_plain q x ≡ true → Same q 0 e xs → Same q 0 (further (x ∷ []) 1 e) (x ∷ xs)
same_plain q x xs None p h = tt
same_plain q x xs (Some (t, n)) p h =
    let more : n + 1 ≡ suc n = omega arith in
    ap (λ j. inside q 0 (take j (x ∷ xs))) more ∙ plain_first q x (take n xs) p ∙ ap (further (x ∷ []) 1) h

same_char : (q x c m : ℕ) (xs : List ℕ) (e : Ended) → is_plain q x ≡ false → part_of q (x ∷ xs) ≡ Char c m → Longer (m - 1) e → Same q (m - 1) e xs → Same q 0 (further (encode_utf8 c) 1 e) (x ∷ xs)
same_char q x c m xs None p is long h = tt
same_char q x c m xs (Some (t, n)) p is long h =
    let more : n + 1 ≡ suc n = omega arith in
    let room : m ≤ n + 1 = omega (arith, long) in
    ap (λ j. inside q 0 (take j (x ∷ xs))) more
    ∙ other_first q x (take n xs) p
    ∙ ap (λ p. with_part p (λ skip. inside q skip (take n xs))) (part_local q x c m n xs is room)
    ∙ ap (further (encode_utf8 c) 1) h

same_part : (q x : ℕ) (xs : List ℕ) (part : Part) → is_plain q x ≡ false → part_of q (x ∷ xs) ≡ part → ((k : ℕ) → Same q k (inside q k xs) xs) → Same q 0 (with_part part (λ skip. inside q skip xs)) (x ∷ xs)
same_part q x xs Closes p is ih = other_first q x [] p ∙ ap (λ p. with_part p (λ skip. inside q skip [])) (closes_local q x xs is)
same_part q x xs (Char c m) p is ih = same_char q x c m xs (inside q (m - 1) xs) p is (inside_longer q (m - 1) xs) (ih (m - 1))
same_part q x xs Broken p is ih = tt

inside_same : (q k : ℕ) (xs : List ℕ) → Same q k (inside q k xs) xs
unfolding inside
inside_same q k [] = tt
inside_same q (suc k) (x ∷ xs) = same_skip q k x xs (inside q k xs) (inside_same q k xs)
inside_same q zero (x ∷ xs) =
    elim (is_plain q x) as (λ b. is_plain q x ≡ b → Same q zero (cond b (further (x ∷ []) 1 (inside q zero xs)) (with_part (part_of q (x ∷ xs)) (λ skip. inside q skip xs))) (x ∷ xs)) [
      | true ↦ λ p. same_plain q x xs (inside q zero xs) p (inside_same q zero xs)
      | false ↦ λ p. same_part q x xs (part_of q (x ∷ xs)) p refl (λ k. inside_same q k xs)
    ] refl

quoted : (q k : ℕ) (t bs : List ℕ) (n : ℕ) → q ≡ k → EndsWithin (Some (t, n)) (length bs) → inside k 0 (take n bs) ≡ Some (t, n) → IsQuoted k t (take (n + 1) (q ∷ bs))
quoted q k t bs n is within same =
    let more : suc n ≡ n + 1 = omega arith in
    let full : n ≡ length (take n bs) = omega (arith, length-take n bs, within) in
    let P : ℕ → Type 0 = λ j. IsQuoted k t (take j (q ∷ bs)) in
    subst P more (is, same ∙ ap (λ j. Some (t, j)) full)

name_said : (q : ℕ) (bs : List ℕ) (e : Ended) → q ≡ 96 → EndsWithin e (length bs) → Same 96 0 e bs → Said (name_front e) (q ∷ bs)
name_said q bs None is within same = tt
name_said q bs (Some ([], n)) is within same = tt
name_said q bs (Some (b ∷ t, n)) is within same = quoted q 96 (b ∷ t) bs n is within same

text_said : (q : ℕ) (bs : List ℕ) (e : Ended) → (q ≡ 39) ⊎ (q ≡ 34) → EndsWithin e (length bs) → Same q 0 e bs → Said (text_front e) (q ∷ bs)
text_said q bs None is within same = tt
text_said q bs (Some (t, n)) is within same =
    let full : n ≡ length (take n bs) = omega (arith, length-take n bs, within) in
    let more : suc n ≡ n + 1 = omega arith in
    let P : ℕ → Type 0 = λ j. IsQuoted 39 t (take j (q ∷ bs)) ⊎ IsQuoted 34 t (take j (q ∷ bs)) in
    subst P more (elim is [
      | inl h ↦ inl (h, ap (λ k. inside k 0 (take n bs)) (sym h) ∙ same ∙ ap (λ j. Some (t, j)) full)
      | inr h ↦ inr (h, ap (λ k. inside k 0 (take n bs)) (sym h) ∙ same ∙ ap (λ j. Some (t, j)) full)
    ])

which_quote : (q : ℕ) → is_quote q ≡ true → eqb q 96 ≡ false → (q ≡ 39) ⊎ (q ≡ 34)
which_quote q h other =
    elim (eqb q 39) as (λ a. eqb q 39 ≡ a → (a || eqb q 34) || eqb q 96 ≡ true → (q ≡ 39) ⊎ (q ≡ 34)) [
      | true ↦ λ e _. inl (is_byte q 39 e)
      | false ↦ λ e k. inr (is_byte q 34 (elim (eqb q 34) as (λ b. b || eqb q 96 ≡ true → b ≡ true) [ true ↦ λ _. refl | false ↦ λ k. absurd (false≢true (sym other ∙ k)) ] k))
    ] refl h

quote_case : (q : ℕ) (bs : List ℕ) (b : Bool) → eqb q 96 ≡ b → is_quote q ≡ true → Said (cond b (name_front (inside 96 0 bs)) (text_front (inside q 0 bs))) (q ∷ bs)
quote_case q bs true e h = name_said q bs (inside 96 0 bs) (is_byte q 96 e) (inside_within 96 0 bs) (inside_same 96 0 bs)
quote_case q bs false e h = text_said q bs (inside q 0 bs) (which_quote q h e) (inside_within q 0 bs) (inside_same q 0 bs)

pub front_said : (b : ℕ) (bs : List ℕ) → Said (front_of (b ∷ bs)) (b ∷ bs)
unfolding front_of
front_said b bs = chosen (λ f. Said f (b ∷ bs)) (is_quote b) _ _ (λ h. quote_case b bs (eqb b 96) refl h) (unquoted_said b bs)
