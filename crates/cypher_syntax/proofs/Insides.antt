-- Reading what stands between quotes, a run of plain bytes and the part behind it at a time.
use Rattle.std.proofs.Common.{◌≡◌, ℕ, zero, suc, ◌+◌, ◌-◌, ◌≤◌, ◌<◌, Bool, true, false, cond, ◌&&◌, eqb, List, [], ◌∷◌, ◌++◌, length, take, drop, get_or, Some, None, refl, sym, subst, lit<, length-take, length-drop, ap, ◌∙◌, append_assoc, append-nil, arith}
use Rattle.std.specs.Char.{encode_utf8, is_ascii_hexdigit}
use Rattle.std.specs.List.{prefix_len, list_all}
use Rattle.std.proofs.lemmas.List.{drop-drop, get_or-take}
use Rattle.std.specs.Str.{IsUtf8, IsCharBoundary}
use Rattle.std.proofs.lemmas.Str.{IsCharBoundary-after_ascii}
use Rattle.std.proofs.lemmas.List.Sums.{prefix_len-le-length}
use Rattle.std.proofs.lemmas.List.Folds.{list_all_at}
use Rattle.std.proofs.lemmas.Bool.{false≢true}
use Rattle.std.proofs.lemmas.Bool.Decides.{nat_tests, Decides-eqb}
use Rattle.cypher_syntax.specs.declared.lexer.quotes.Part.{Part}
use Rattle.cypher_syntax.specs.declared.lexer.quotes.Part.TheVariants.{Closes, Char, Broken}
use Rattle.cypher_syntax.specs.Numerals.{value_in}
use Rattle.cypher_syntax.specs.Quotes.{is_plain, is_scalar, quote_of, escape_of, simple_of, scalar_of, part_of, Ended, further, with_part, inside}

pub further-further : (f g : List ℕ) (j k : ℕ) (e : Ended) → further f j (further g k e) ≡ further (f ++ g) (j + k) e
further-further f g j k None = refl
further-further f g j k (Some (t, n)) = ap (λ s. Some (s, n + k + j)) (sym (append_assoc f g t)) ∙ ap (λ m. Some ((f ++ g) ++ t, m)) (omega arith)

further-nothing : (e : Ended) → e ≡ further [] 0 e
further-nothing None = refl
further-nothing (Some (t, n)) = ap (λ m. Some (t, m)) (omega arith)

pub inside-skip : (q k : ℕ) (xs : List ℕ) → inside q k xs ≡ further [] k (inside q 0 (drop k xs))
unfolding inside
inside-skip q zero xs = further-nothing (inside q 0 xs)
inside-skip q (suc k) [] = refl
inside-skip q (suc k) (x ∷ xs) = ap (further [] 1) (inside-skip q k xs) ∙ further-further [] [] 1 k (inside q 0 (drop k xs)) ∙ ap (λ m. further [] m (inside q 0 (drop k xs))) (omega arith)

abbrev pub plain_run : ℕ → List ℕ → ℕ
plain_run q xs = prefix_len (is_plain q) xs

-- the bytes behind the plain ones
abbrev pub behind_run : ℕ → List ℕ → List ℕ
behind_run q xs = drop (plain_run q xs) xs

pub plain_first : (q x : ℕ) (xs : List ℕ) → is_plain q x ≡ true → inside q 0 (x ∷ xs) ≡ further (x ∷ []) 1 (inside q 0 xs)
unfolding inside
plain_first q x xs h = rw h refl

pub other_first : (q x : ℕ) (xs : List ℕ) → is_plain q x ≡ false → inside q 0 (x ∷ xs) ≡ with_part (part_of q (x ∷ xs)) (λ skip. inside q skip xs)
unfolding inside
other_first q x xs h = rw h refl

-- k bytes from the front, and what the others stand for
abbrev cut_at : ℕ → List ℕ → ℕ → Ended
cut_at q ys k = further (take k ys) k (inside q 0 (drop k ys))

run_step : (q x : ℕ) (xs : List ℕ) → inside q 0 xs ≡ cut_at q xs (plain_run q xs) → (b : Bool) → is_plain q x ≡ b → inside q 0 (x ∷ xs) ≡ cut_at q (x ∷ xs) (plain_run q (x ∷ xs))
run_step q x xs ih true h =
    let r = plain_run q xs in
    let e : suc r ≡ plain_run q (x ∷ xs) = rw h (omega arith) in
    plain_first q x xs h
    ∙ ap (further (x ∷ []) 1) ih
    ∙ further-further (x ∷ []) (take r xs) 1 r (inside q 0 (drop r xs))
    ∙ ap (λ m. further (x ∷ take r xs) m (inside q 0 (drop r xs))) (omega arith)
    ∙ ap (cut_at q (x ∷ xs)) e
run_step q x xs ih false h =
    let e : 0 ≡ plain_run q (x ∷ xs) = rw h refl in
    further-nothing (inside q 0 (x ∷ xs)) ∙ ap (cut_at q (x ∷ xs)) e

pub inside-run : (q : ℕ) (xs : List ℕ) → inside q 0 xs ≡ cut_at q xs (plain_run q xs)
inside-run q [] = further-nothing (inside q 0 [])
inside-run q (x ∷ xs) = run_step q x xs (inside-run q xs) (is_plain q x) refl

-- none stands for itself at the front
abbrev IsStopped : ℕ → List ℕ → Type 0
IsStopped q [] = Unit {0}
IsStopped q (y ∷ ys) = is_plain q y ≡ false

stop_step : (q x : ℕ) (xs : List ℕ) → IsStopped q (behind_run q xs) → (b : Bool) → is_plain q x ≡ b → IsStopped q (behind_run q (x ∷ xs))
stop_step q x xs ih true h =
    let e : suc (plain_run q xs) ≡ plain_run q (x ∷ xs) = rw h (omega arith) in
    let P : ℕ → Type 0 = λ k. IsStopped q (drop k (x ∷ xs)) in subst P e ih
stop_step q x xs ih false h =
    let e : 0 ≡ plain_run q (x ∷ xs) = rw h refl in
    let P : ℕ → Type 0 = λ k. IsStopped q (drop k (x ∷ xs)) in subst P e h

run_stops : (q : ℕ) (xs : List ℕ) → IsStopped q (behind_run q xs)
run_stops q [] = tt
run_stops q (x ∷ xs) = stop_step q x xs (run_stops q xs) (is_plain q x) refl

at_stop : (q : ℕ) (ys : List ℕ) → IsStopped q ys → inside q 0 ys ≡ with_part (part_of q ys) (λ skip. inside q skip (drop 1 ys))
unfolding inside
at_stop q [] h = refl
at_stop q (y ∷ ys) h = other_first q y ys h

turn : (q : ℕ) (value xs : List ℕ) (k : ℕ) → further value k (inside q 0 xs) ≡ further (value ++ take (plain_run q xs) xs) (k + plain_run q xs) (with_part (part_of q (behind_run q xs)) (λ skip. inside q skip (drop 1 (behind_run q xs))))
turn q value xs k =
    ap (further value k) (inside-run q xs)
    ∙ further-further value (take (plain_run q xs) xs) k (plain_run q xs) (inside q 0 (behind_run q xs))
    ∙ ap (further (value ++ take (plain_run q xs) xs) (k + plain_run q xs)) (at_stop q (behind_run q xs) (run_stops q xs))

-- the quote ends it
pub turn_closes : (q : ℕ) (value xs : List ℕ) (k : ℕ) → part_of q (behind_run q xs) ≡ Closes → further value k (inside q 0 xs) ≡ Some (value ++ take (plain_run q xs) xs, k + plain_run q xs + 1)
turn_closes q value xs k h =
    turn q value xs k
    ∙ ap (λ p. further (value ++ take (plain_run q xs) xs) (k + plain_run q xs) (with_part p (λ skip. inside q skip (drop 1 (behind_run q xs))))) h
    ∙ ap (λ s. Some (s, 1 + (k + plain_run q xs))) (append-nil (value ++ take (plain_run q xs) xs))
    ∙ ap (λ n. Some (value ++ take (plain_run q xs) xs, n)) (omega arith)

-- nothing may stand there
pub turn_breaks : (q : ℕ) (value xs : List ℕ) (k : ℕ) → part_of q (behind_run q xs) ≡ Broken → further value k (inside q 0 xs) ≡ None
turn_breaks q value xs k h =
    turn q value xs k
    ∙ ap (λ p. further (value ++ take (plain_run q xs) xs) (k + plain_run q xs) (with_part p (λ skip. inside q skip (drop 1 (behind_run q xs))))) h

after_char : (q c n : ℕ) (ys : List ℕ) → 0 < n → further (encode_utf8 c) 1 (inside q (n - 1) (drop 1 ys)) ≡ further (encode_utf8 c) n (inside q 0 (drop n ys))
after_char q c n ys some =
    ap (further (encode_utf8 c) 1) (inside-skip q (n - 1) (drop 1 ys))
    ∙ further-further (encode_utf8 c) [] 1 (n - 1) (inside q 0 (drop (n - 1) (drop 1 ys)))
    ∙ ap (λ f. further f (1 + (n - 1)) (inside q 0 (drop (n - 1) (drop 1 ys)))) (append-nil (encode_utf8 c))
    ∙ ap (λ zs. further (encode_utf8 c) (1 + (n - 1)) (inside q 0 zs)) (drop-drop (n - 1) 1 ys)
    ∙ (let e : 1 + (n - 1) ≡ n = omega arith in ap (λ m. further (encode_utf8 c) m (inside q 0 (drop m ys))) e)

-- a character goes in front
pub turn_goes_on : (q : ℕ) (value xs : List ℕ) (k c n : ℕ) → part_of q (behind_run q xs) ≡ Char c n → 0 < n
    → further value k (inside q 0 xs) ≡ further ((value ++ take (plain_run q xs) xs) ++ encode_utf8 c) (k + plain_run q xs + n) (inside q 0 (drop n (behind_run q xs)))
turn_goes_on q value xs k c n h some =
    turn q value xs k
    ∙ ap (λ p. further (value ++ take (plain_run q xs) xs) (k + plain_run q xs) (with_part p (λ skip. inside q skip (drop 1 (behind_run q xs))))) h
    ∙ ap (further (value ++ take (plain_run q xs) xs) (k + plain_run q xs)) (after_char q c n (behind_run q xs) some)
    ∙ further-further (value ++ take (plain_run q xs) xs) (encode_utf8 c) (k + plain_run q xs) n (inside q 0 (drop n (behind_run q xs)))

-- PARTS

-- a character takes some of the bytes, of which the last is ASCII
abbrev pub IsTaken : Part → List ℕ → Type 0
IsTaken (Char c n) xs = (0 < n) × (n ≤ length xs) × (get_or xs (n - 1) 0 < 128)
IsTaken Closes xs = Unit {0}
IsTaken Broken xs = Unit {0}

either_taken : (P : Part → Type 0) (b : Bool) (p r : Part) → P p → P r → P (cond b p r)
either_taken P true p r x y = x
either_taken P false p r x y = y

three_tests : (P : Part → Type 0) (a b c : Bool) (p r : Part) → (a ≡ true → b ≡ true → P p) → P r → P (cond (a && b && c) p r)
three_tests P true true true p r x y = x refl refl
three_tests P true true false p r x y = y
three_tests P true false c p r x y = y
three_tests P false b c p r x y = y

hex_below : (b : ℕ) → is_ascii_hexdigit b ≡ true → b < 128
hex_below b h = grind (arith, nat_tests)

if_taken : (v k value u : ℕ) (xs : List ℕ) (r : Part) → k < 128 → IsTaken r (u ∷ v ∷ xs) → IsTaken (cond (eqb v k) (Char value 2) r) (u ∷ v ∷ xs)
if_taken v k value u xs r low rest =
    elim (eqb v k) as (λ b. eqb v k ≡ b → IsTaken (cond b (Char value 2) r) (u ∷ v ∷ xs)) [
      | true ↦ λ e. (let same : v ≡ k = grind (arith, nat_tests) in let ascii : v < 128 = omega arith in (lit< tt, omega arith, ascii))
      | false ↦ λ _. rest
    ] refl

quote_taken : (q x : ℕ) (xs : List ℕ) → IsTaken (quote_of q xs) (x ∷ xs)
quote_taken q x [] = elim (eqb q 96) as (λ b. IsTaken (cond (b && false) (Char 96 2) Closes) (x ∷ [])) [ true ↦ tt | false ↦ tt ]
quote_taken q x (y ∷ ys) =
    elim (eqb q 96) as (λ b. IsTaken (cond (b && eqb y 96) (Char 96 2) Closes) (x ∷ y ∷ ys)) [
      | true ↦ if_taken y 96 96 x ys Closes (lit< tt) tt
      | false ↦ tt
    ]

all_pass : (p : ℕ → Bool) (xs : List ℕ) (i : ℕ) → i < length xs → list_all p xs ≡ true → p (get_or xs i 0) ≡ true
all_pass p xs i h all =
    elim (p (get_or xs i 0)) as (λ b. p (get_or xs i 0) ≡ b → b ≡ true) [
      | true ↦ λ _. refl
      | false ↦ λ e. absurd (false≢true (sym (list_all_at p xs i 0 h e) ∙ all))
    ] refl

hex_is_ascii : (xs : List ℕ) (count : ℕ) → 0 < count → length (take count xs) ≡ count → list_all is_ascii_hexdigit (take count xs) ≡ true → get_or xs (count - 1) 0 < 128
hex_is_ascii xs count some full hex =
    let within : count - 1 < length (take count xs) = omega arith in
    let digit : is_ascii_hexdigit (get_or (take count xs) (count - 1) 0) ≡ true = all_pass is_ascii_hexdigit (take count xs) (count - 1) within hex in
    let below : count - 1 < count = omega arith in
    let same : get_or (take count xs) (count - 1) 0 ≡ get_or xs (count - 1) 0 = get_or-take count xs (count - 1) 0 below in
    hex_below (get_or xs (count - 1) 0) (ap is_ascii_hexdigit (sym same) ∙ digit)

scalar_taken : (u v count : ℕ) (xs : List ℕ) → 0 < count → IsTaken (scalar_of count xs) (u ∷ v ∷ xs)
scalar_taken u v count xs some =
    let digits = take count xs in
    let P : Part → Type 0 = λ p. IsTaken p (u ∷ v ∷ xs) in
    three_tests P (eqb (length digits) count) (list_all is_ascii_hexdigit digits) (is_scalar (value_in 16 digits)) (Char (value_in 16 digits) (count + 2)) Broken
    (λ full hex.
    let all : length digits ≡ count = (Decides-eqb (length digits) count).0 full in
    let within : count ≤ length xs = omega (arith, length-take count xs) in
    let low : get_or xs (count - 1) 0 < 128 = hex_is_ascii xs count some all hex in
    let place : count + 2 - 1 ≡ suc (suc (count - 1)) = omega arith in
    let ascii : get_or (u ∷ v ∷ xs) (count + 2 - 1) 0 < 128 = let Q : ℕ → Type 0 = λ i. get_or (u ∷ v ∷ xs) i 0 < 128 in subst Q (sym place) low in
    (omega arith, omega arith, ascii))
    tt

simple_taken : (u v : ℕ) (xs : List ℕ) → IsTaken (simple_of v) (u ∷ v ∷ xs)
simple_taken u v xs =
    if_taken v 92 92 u xs _ (lit< tt) (if_taken v 39 39 u xs _ (lit< tt) (if_taken v 34 34 u xs _ (lit< tt) (if_taken v 98 8 u xs _ (lit< tt)
    (if_taken v 102 12 u xs _ (lit< tt) (if_taken v 110 10 u xs _ (lit< tt) (if_taken v 114 13 u xs _ (lit< tt) (if_taken v 116 9 u xs Broken (lit< tt) tt)))))))

escape_taken : (u : ℕ) (xs : List ℕ) → IsTaken (escape_of xs) (u ∷ xs)
escape_taken u [] = tt
escape_taken u (v ∷ xs) =
    let P : Part → Type 0 = λ p. IsTaken p (u ∷ v ∷ xs) in
    either_taken P (eqb v 117) _ _ (scalar_taken u v 4 xs (lit< tt)) (either_taken P (eqb v 85) _ _ (scalar_taken u v 8 xs (lit< tt)) (simple_taken u v xs))

pub part_taken : (q : ℕ) (xs : List ℕ) → IsTaken (part_of q xs) xs
part_taken q [] = tt
part_taken q (x ∷ xs) =
    let P : Part → Type 0 = λ p. IsTaken p (x ∷ xs) in
    either_taken P (eqb x q) _ _ (quote_taken q x xs) (escape_taken x xs)

taken_char : (q c n : ℕ) (ys : List ℕ) → part_of q ys ≡ Char c n → (0 < n) × (n ≤ length ys) × (get_or ys (n - 1) 0 < 128)
taken_char q c n ys h = let P : Part → Type 0 = λ p. IsTaken p ys in subst P h (part_taken q ys)

-- behind a character another one begins
pub char_boundary : (q c n : ℕ) (ys : List ℕ) → IsUtf8 ys → part_of q ys ≡ Char c n → IsCharBoundary ys n
char_boundary q c n ys utf8 h =
    let t = taken_char q c n ys h in
    let some : 0 < n = t.0 in
    let within : n ≤ length ys = t.1 in
    let there : n - 1 < length ys = omega arith in
    let place : n - 1 + 1 ≡ n = omega arith in
    let P : ℕ → Type 0 = λ i. IsCharBoundary ys i in
    subst P place (IsCharBoundary-after_ascii ys (n - 1) utf8 there t.2)

-- A TURN OF THE LOOP

-- a run of plain bytes was put behind the value
pub record Turned (quote mid : ℕ) (value rest plain behind value' : List ℕ) : Type 0 where
  pub run : mid ≡ plain_run quote rest
  pub plain_is : plain ≡ take mid rest
  pub behind_is : behind ≡ drop mid rest
  pub value_is : value' ≡ value ++ plain

-- the loop's invariant
abbrev pub Kept : ℕ → (text value rest : List ℕ) → Type 0
Kept quote text value rest = further value (length text - length rest) (inside quote 0 rest) ≡ inside quote 0 text

same_behind : {q mid : ℕ} {value rest plain behind value' : List ℕ} → Turned q mid value rest plain behind value' → behind_run q rest ≡ behind
same_behind {rest = rest} t = sym (t.behind_is ∙ ap (λ k. drop k rest) t.run)

same_value : {q mid : ℕ} {value rest plain behind value' : List ℕ} → Turned q mid value rest plain behind value' → value' ≡ value ++ take (plain_run q rest) rest
same_value {value = value} {rest = rest} t = t.value_is ∙ ap (λ p. value ++ p) (t.plain_is ∙ ap (λ k. take k rest) t.run)

passed : {q mid : ℕ} {value rest plain behind value' : List ℕ} (text : List ℕ) → Turned q mid value rest plain behind value' → length rest ≤ length text
    → (length behind ≤ length rest) × (length text - length behind ≡ length text - length rest + plain_run q rest)
passed {q = q} {mid = mid} {rest = rest} text t le =
    let h = ap length t.behind_is ∙ length-drop mid rest in
    let r : mid ≡ plain_run q rest = t.run in
    let le' = prefix_len-le-length (is_plain q) rest in
    (omega (arith, h, le'), omega (arith, h, le'))

pub closes : {q mid : ℕ} {value rest plain behind value' : List ℕ} (text : List ℕ) → Turned q mid value rest plain behind value'
    → part_of q behind ≡ Closes → length rest ≤ length text → Kept q text value rest → Some (value', length text - length behind + 1) ≡ inside q 0 text
closes {q = q} {value = value} {rest = rest} {behind = behind} text t part le kept =
    let v = same_value t in
    let n = ap (λ k. k + 1) (passed text t le).1 in
    ap (λ (s : List ℕ). Some (s, length text - length behind + 1)) v
    ∙ ap (λ m. Some (value ++ take (plain_run q rest) rest, m)) n
    ∙ sym (turn_closes q value rest (length text - length rest) (ap (part_of q) (same_behind t) ∙ part))
    ∙ kept

pub breaks : {q mid : ℕ} {value rest plain behind value' : List ℕ} (text : List ℕ) → Turned q mid value rest plain behind value'
    → part_of q behind ≡ Broken → Kept q text value rest → None ≡ inside q 0 text
breaks {q = q} {value = value} {rest = rest} text t part kept =
    sym (turn_breaks q value rest (length text - length rest) (ap (part_of q) (same_behind t) ∙ part)) ∙ kept

pub goes_on : {q mid : ℕ} {value rest plain behind value' : List ℕ} (text : List ℕ) (c n : ℕ) (value'' rest' : List ℕ) → Turned q mid value rest plain behind value'
    → part_of q behind ≡ Char c n → length rest ≤ length text → value'' ≡ value' ++ encode_utf8 c → rest' ≡ drop n behind → Kept q text value rest
    → (length rest' < length rest) × Kept q text value'' rest'
goes_on {q = q} {value = value} {rest = rest} {behind = behind} text c n value'' rest' t part le ve re kept =
    let taken = taken_char q c n behind part in
    let some : 0 < n = taken.0 in
    let within : n ≤ length behind = taken.1 in
    let p = passed text t le in
    let shorter : length behind ≤ length rest = p.0 in
    let there : length text - length behind ≡ length text - length rest + plain_run q rest = p.1 in
    let h = ap length re ∙ length-drop n behind in
    let place : length text - length rest' ≡ length text - length rest + plain_run q rest + n = omega (arith, h) in (
      omega (arith, h),
      ap (λ v. further v (length text - length rest') (inside q 0 rest')) (ve ∙ ap (λ v. v ++ encode_utf8 c) (same_value t))
          ∙ ap (λ k. further ((value ++ take (plain_run q rest) rest) ++ encode_utf8 c) k (inside q 0 rest')) place
          ∙ ap (λ ys. further ((value ++ take (plain_run q rest) rest) ++ encode_utf8 c) (length text - length rest + plain_run q rest + n) (inside q 0 ys)) (re ∙ ap (drop n) (sym (same_behind t)))
          ∙ sym (turn_goes_on q value rest (length text - length rest) c n (ap (part_of q) (same_behind t) ∙ part) some)
          ∙ kept,
    )
