-- What stands at the front of a text is spelled by its first bytes.
use Rattle.std.proofs.Common.{◌≡◌, ℕ, zero, suc, ◌+◌, ◌≤◌, ◌<◌, Bool, true, false, cond, ◌&&◌, eqb, List, [], ◌∷◌, ◌++◌, length, take, drop, Option, Some, None, option_map, option_and_then, nat_lt, pos, ◌^◌, append-nil, refl, sym, ap, subst, ◌∙◌, arith}
use Rattle.std.specs.List.{prefix_len, list_all}
use Rattle.std.specs.Char.{is_ascii_digit, is_ascii_hexdigit}
use Rattle.std.proofs.lemmas.Bool.{false≢true}
use Rattle.std.proofs.lemmas.Bool.Decides.{Decides-eqb}
use Rattle.cypher_syntax.specs.declared.token.What.{What}
use Rattle.cypher_syntax.specs.declared.token.What.TheVariants as what
use Rattle.cypher_syntax.specs.declared.lexer.quotes.Part.{Part}
use Rattle.cypher_syntax.specs.declared.lexer.quotes.Part.TheVariants.{Closes, Char, Broken}
use Rattle.cypher_syntax.specs.declared.lexer.front.Front.{Front}
use Rattle.cypher_syntax.specs.declared.lexer.front.Front.TheVariants.{Gap, Made, Fault}
use Rattle.cypher_syntax.specs.Bytes.{is_blank, begins_word, continues_word, heads, is_sign, is_long_sign, sign_len, within_line, closed_len}
use Rattle.cypher_syntax.specs.Numerals.{numeral_of, integer_of, value_in}
use Rattle.cypher_syntax.specs.Quotes.{is_scalar, quote_of, scalar_of}
use Rattle.cypher_syntax.specs.Lexing.{made, closed_front, sign_front, slash_front, unquoted_front}
use Rattle.cypher_syntax.proofs.Fronts.{chosen, word_goes_on, slash_goes_on}
use Rattle.cypher_syntax.specs.Spans.{IsGap, Nothing, Blank, Line, Closed, IsWord, IsSpelling}

both : (a b : Bool) → a ≡ true → b ≡ true → a && b ≡ true
both true b x y = y
both false b x y = x

left : (a b : Bool) → a && b ≡ true → a ≡ true
left true b h = refl
left false b h = h

right : (a b : Bool) → a && b ≡ true → b ≡ true
right true b h = h
right false b h = absurd (false≢true h)

-- RUNS

-- the run of a class at the front
run_case : (P : List ℕ → Type 0) (p : ℕ → Bool) (x : ℕ) (xs : List ℕ) (b : Bool) → p x ≡ b → P [] → (p x ≡ true → P (x ∷ take (prefix_len p xs) xs)) → P (take (prefix_len p (x ∷ xs)) (x ∷ xs))
run_case P p x xs true h none some =
    let e : suc (prefix_len p xs) ≡ prefix_len p (x ∷ xs) = rw h (omega arith) in
    let Q : ℕ → Type 0 = λ k. P (take k (x ∷ xs)) in subst Q e (some h)
run_case P p x xs false h none some =
    let e : 0 ≡ prefix_len p (x ∷ xs) = rw h refl in
    let Q : ℕ → Type 0 = λ k. P (take k (x ∷ xs)) in subst Q e none

run_first : (P : List ℕ → Type 0) (p : ℕ → Bool) (x : ℕ) (xs : List ℕ) → p x ≡ true → P (x ∷ take (prefix_len p xs) xs) → P (take (prefix_len p (x ∷ xs)) (x ∷ xs))
run_first P p x xs h some =
    let e : suc (prefix_len p xs) ≡ prefix_len p (x ∷ xs) = rw h (omega arith) in
    let Q : ℕ → Type 0 = λ k. P (take k (x ∷ xs)) in subst Q e some

run_passes : (p : ℕ → Bool) (xs : List ℕ) → list_all p (take (prefix_len p xs) xs) ≡ true
run_passes p [] = refl
run_passes p (x ∷ xs) = run_case (λ ys. list_all p ys ≡ true) p x xs (p x) refl refl (λ h. both (p x) (list_all p (take (prefix_len p xs) xs)) h (run_passes p xs))

blanks_gap : (xs : List ℕ) → IsGap (take (prefix_len is_blank xs) xs)
blanks_gap [] = Nothing
blanks_gap (x ∷ xs) = run_case IsGap is_blank x xs (is_blank x) refl Nothing (λ h. Blank x (take (prefix_len is_blank xs) xs) h (blanks_gap xs))

-- what stands at the front is what its first bytes say
abbrev pub Said : Front → List ℕ → Type 0
Said (Gap n) xs = IsGap (take n xs)
Said (Made w n) xs = IsSpelling w (take n xs)
Said Fault xs = Unit {0}

-- INTEGERS

abbrev IsNumber : Option What → Type 0
IsNumber None = Unit {0}
IsNumber (Some (what.Int z)) = Unit {0}
IsNumber (Some what.IntMin) = Unit {0}
IsNumber (Some what.Word) = ⊥
IsNumber (Some (what.Quoted n)) = ⊥
IsNumber (Some (what.Text t)) = ⊥
IsNumber (Some what.Sign) = ⊥

kinds : (m : Option ℕ) → IsNumber (option_and_then integer_of m)
kinds None = tt
kinds (Some n) =
    elim (nat_lt n (2 ^ 63)) as (λ b. IsNumber (cond b (Some (what.Int (pos n))) (cond (eqb n (2 ^ 63)) (Some what.IntMin) None))) [
      | true ↦ tt
      | false ↦ elim (eqb n (2 ^ 63)) as (λ b. IsNumber (cond b (Some what.IntMin) None)) [ true ↦ tt | false ↦ tt ]
    ]

number_said : (o : Option What) (n : ℕ) (xs : List ℕ) → IsNumber o → option_and_then integer_of (numeral_of (take n xs)) ≡ o → Said (made o n) xs
number_said None n xs k h = tt
number_said (Some (what.Int z)) n xs k h = h
number_said (Some what.IntMin) n xs k h = h
number_said (Some what.Word) n xs k h = absurd k
number_said (Some (what.Quoted m)) n xs k h = absurd k
number_said (Some (what.Text t)) n xs k h = absurd k
number_said (Some what.Sign) n xs k h = absurd k

-- SIGNS

picked : (P : ℕ → Type 0) (b : Bool) (m n : ℕ) → (b ≡ true → P m) → P n → P (cond b m n)
picked P true m n x y = x refl
picked P false m n x y = y

sign_said : (xs : List ℕ) → Said (sign_front (sign_len xs)) xs
sign_said [] = tt
sign_said (a ∷ []) = picked (λ n. Said (sign_front n) (a ∷ [])) (is_sign a) 1 0 (λ h. h) tt
sign_said (a ∷ b ∷ bs) =
    let P : ℕ → Type 0 = λ n. Said (sign_front n) (a ∷ b ∷ bs) in
    picked P (is_long_sign a b) 2 _ (λ h. h) (picked P (is_sign a) 1 0 (λ h. h) tt)

-- COMMENTS

pub is_byte : (a b : ℕ) → eqb a b ≡ true → a ≡ b
is_byte a b h = (Decides-eqb a b).0 h

line_gap : (b : ℕ) (bs : List ℕ) → eqb b 47 && heads 47 bs ≡ true → IsGap (take (prefix_len within_line (b ∷ bs)) (b ∷ bs))
line_gap b [] h = absurd (false≢true (right (eqb b 47) false h))
line_gap b (c ∷ cs) h =
    let fb = is_byte b 47 (left (eqb b 47) (eqb c 47) h) in
    let fc = is_byte c 47 (right (eqb b 47) (eqb c 47) h) in
    let t = take (prefix_len within_line cs) cs in
    let gap : IsGap (47 ∷ 47 ∷ t) = subst (λ (ys : List ℕ). IsGap (47 ∷ 47 ∷ ys)) (append-nil t) (Line t [] (run_passes within_line cs) Nothing) in
    let there : IsGap (b ∷ c ∷ t) = subst (λ (x : ℕ). IsGap (x ∷ c ∷ t)) (sym fb) (subst (λ (y : ℕ). IsGap (47 ∷ y ∷ t)) (sym fc) gap) in
    run_first IsGap within_line b (c ∷ cs) (slash_goes_on b true (both (eqb b 47) true (left (eqb b 47) (eqb c 47) h) refl))
    (run_first (λ ys. IsGap (b ∷ ys)) within_line c cs (slash_goes_on c true (both (eqb c 47) true (right (eqb b 47) (eqb c 47) h) refl)) there)

abbrev ClosedSaid : Option ℕ → List ℕ → Type 0
ClosedSaid None cs = Unit {0}
ClosedSaid (Some n) cs = (text : List ℕ) × (take n cs ≡ text ++ (42 ∷ 47 ∷ []))

closed_more : (o : Option ℕ) (x : ℕ) (xs : List ℕ) → ClosedSaid o xs → ClosedSaid (option_map suc o) (x ∷ xs)
closed_more None x xs h = tt
closed_more (Some n) x xs h = (x ∷ h.0, ap (λ (ys : List ℕ). x ∷ ys) h.1)

closed_now : (x : ℕ) (xs : List ℕ) → eqb x 42 && heads 47 xs ≡ true → ClosedSaid (Some 2) (x ∷ xs)
closed_now x [] h = absurd (false≢true (right (eqb x 42) false h))
closed_now x (y ∷ ys) h =
    let fx = is_byte x 42 (left (eqb x 42) (eqb y 47) h) in
    let fy = is_byte y 47 (right (eqb x 42) (eqb y 47) h) in
    ([], ap (λ (a : ℕ). a ∷ y ∷ []) fx ∙ ap (λ (a : ℕ). 42 ∷ a ∷ []) fy)

closed_case : (x : ℕ) (xs : List ℕ) (b : Bool) → (b ≡ true → ClosedSaid (Some 2) (x ∷ xs)) → ClosedSaid (closed_len xs) xs → ClosedSaid (cond b (Some 2) (option_map suc (closed_len xs))) (x ∷ xs)
closed_case x xs true h ih = h refl
closed_case x xs false h ih = closed_more (closed_len xs) x xs ih

closed_said : (cs : List ℕ) → ClosedSaid (closed_len cs) cs
closed_said [] = tt
closed_said (x ∷ xs) = closed_case x xs (eqb x 42 && heads 47 xs) (closed_now x xs) (closed_said xs)

closed_gap : (b c : ℕ) (cs : List ℕ) (o : Option ℕ) → b ≡ 47 → c ≡ 42 → ClosedSaid o cs → Said (closed_front o) (b ∷ c ∷ cs)
closed_gap b c cs None fb fc h = tt
closed_gap b c cs (Some n) fb fc h =
    let gap : IsGap (47 ∷ 42 ∷ take n cs) = subst (λ (ys : List ℕ). IsGap (47 ∷ 42 ∷ ys)) (sym h.1) (Closed h.0 [] Nothing) in
    let there : IsGap (b ∷ c ∷ take n cs) = subst (λ (x : ℕ). IsGap (x ∷ c ∷ take n cs)) (sym fb) (subst (λ (y : ℕ). IsGap (47 ∷ y ∷ take n cs)) (sym fc) gap) in
    let e : suc (suc n) ≡ n + 2 = omega arith in
    subst (λ (k : ℕ). IsGap (take k (b ∷ c ∷ cs))) e there

inner_gap : (b : ℕ) (bs : List ℕ) → eqb b 47 && heads 42 bs ≡ true → Said (closed_front (closed_len (drop 1 bs))) (b ∷ bs)
inner_gap b [] h = absurd (false≢true (right (eqb b 47) false h))
inner_gap b (c ∷ cs) h = closed_gap b c cs (closed_len cs) (is_byte b 47 (left (eqb b 47) (eqb c 42) h)) (is_byte c 42 (right (eqb b 47) (eqb c 42) h)) (closed_said cs)

slash_said : (b : ℕ) (bs : List ℕ) → Said (slash_front (b ∷ bs)) (b ∷ bs)
slash_said b bs =
    let P : Front → Type 0 = λ f. Said f (b ∷ bs) in
    chosen P (eqb b 47 && heads 47 bs) _ _ (line_gap b bs)
    (chosen P (eqb b 47 && heads 42 bs) _ _ (inner_gap b bs) (sign_said (b ∷ bs)))

pub unquoted_said : (b : ℕ) (bs : List ℕ) → Said (unquoted_front (b ∷ bs)) (b ∷ bs)
unfolding unquoted_front
unquoted_said b bs =
    let P : Front → Type 0 = λ f. Said f (b ∷ bs) in
    chosen P (is_blank b) _ _ (λ _. blanks_gap (b ∷ bs))
    (chosen P (begins_word b) _ _ (λ h. run_first IsWord continues_word b bs (word_goes_on b h) (h, run_passes continues_word bs))
    (chosen P (is_ascii_digit b) _ _ (λ _. number_said _ (prefix_len continues_word (b ∷ bs)) (b ∷ bs) (kinds (numeral_of (take (prefix_len continues_word (b ∷ bs)) (b ∷ bs)))) refl) (slash_said b bs)))

-- QUOTES

heads_take : (b n : ℕ) (xs : List ℕ) → 0 < n → heads b (take n xs) ≡ heads b xs
heads_take b zero xs h = absurd (omega arith)
heads_take b (suc n) [] h = refl
heads_take b (suc n) (x ∷ xs) h = refl

take_take : (k n : ℕ) (xs : List ℕ) → k ≤ n → take k (take n xs) ≡ take k xs
take_take zero n xs h = refl
take_take (suc k) zero xs h = absurd (omega arith)
take_take (suc k) (suc n) [] h = refl
take_take (suc k) (suc n) (x ∷ xs) h = let le : k ≤ n = omega arith in ap (λ (ys : List ℕ). x ∷ ys) (take_take k n xs le)

-- a character that is read from some bytes is read from the first of them
abbrev pub IsLocal : (List ℕ → Part) → Part → List ℕ → Type 0
IsLocal part (Char c m) xs = (n : ℕ) → m ≤ n + 1 → part (take n xs) ≡ Char c m
IsLocal part Closes xs = Unit {0}
IsLocal part Broken xs = Unit {0}

pub quote_local : (q : ℕ) (xs : List ℕ) → IsLocal (quote_of q) (quote_of q xs) xs
quote_local q xs =
    elim (eqb q 96 && heads 96 xs) as (λ b. eqb q 96 && heads 96 xs ≡ b → IsLocal (quote_of q) (cond b (Char 96 2) Closes) xs) [
      | true ↦ λ e n le. (let some : 0 < n = omega arith in ap (λ t. cond (eqb q 96 && t) (Char 96 2) Closes) (heads_take 96 n xs some) ∙ ap (λ t. cond t (Char 96 2) Closes) e)
      | false ↦ λ e. tt
    ] refl

pub scalar_same : (count n : ℕ) (xs : List ℕ) → count ≤ n → scalar_of count (take n xs) ≡ scalar_of count xs
scalar_same count n xs le =
    ap (λ ys. cond (eqb (length ys) count && list_all is_ascii_hexdigit ys && is_scalar (value_in 16 ys)) (Char (value_in 16 ys) (count + 2)) Broken) (take_take count n xs le)
