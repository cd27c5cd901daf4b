-- The sessions as a list, by their names and by their numbers.
use Rattle.std.proofs.Common.{◌≡◌, ℕ, zero, suc, ◌+◌, ◌<◌, ◌≤◌, List, [], ◌∷◌, Option, Some, None, Bool, true, false, not, cond, length, map, refl, ap, ◌∙◌, arith, string_bytes, String, Global}
use Rattle.std.specs.Prelude.{nat_lt, position, slice_get}
use Rattle.std.proofs.lemmas.Bool.Decides.{nat_tests}
use Rattle.std.specs.List.{position_or_len}
use Rattle.std.specs.Map.{keys_of, values_of}
use Rattle.std.specs.Str.{bytes_eq}
use Rattle.indexmap.specs.IndexMap.{insert_entry, set_value_at}
use Rattle.script_desk.specs.Roll.{Roll, enrolled, number_of, running_at, running_of, with_running, with_running_at}

-- ---- a name's number

pub number_within : (name : List ℕ) (r : Roll) → number_of name r ≤ length r
number_within name [] = omega arith
number_within name (e ∷ r) = by (bytes_eq name e.0) (number_within name r)
  where
    by : (b : Bool) → number_of name r ≤ length r → cond b zero (suc (number_of name r)) ≤ suc (length r)
    by true h = omega arith
    by false h = omega (arith, h)

-- a name that has no number has no transaction
pub absent_none : (name : List ℕ) (r : Roll) → number_of name r ≡ length r → running_of name r ≡ None
absent_none name [] h = refl
absent_none name (e ∷ r) h = by (bytes_eq name e.0) (absent_none name r) h
  where
    by : (b : Bool) → (number_of name r ≡ length r → running_of name r ≡ None) → cond b zero (suc (number_of name r)) ≡ suc (length r) → cond b e.1 (running_of name r) ≡ None
    by true rest k = absurd (omega (arith, k))
    by false rest k = rest (omega (arith, k))

-- a name that has a number is enrolled already
pub present_enrolled : (name : List ℕ) (r : Roll) → number_of name r < length r → enrolled name r ≡ r
present_enrolled name [] h = absurd (omega (arith, h))
present_enrolled name (e ∷ r) h = by (bytes_eq name e.0) (present_enrolled name r) h
  where
    by : (b : Bool) → (number_of name r < length r → enrolled name r ≡ r) → cond b zero (suc (number_of name r)) < suc (length r) →
        cond b ((e.0, cond b e.1 (running_of name r)) ∷ r) (e ∷ with_running name (cond b e.1 (running_of name r)) r) ≡ e ∷ r
    by true rest k = refl
    by false rest k = ap (λ l. e ∷ l) (rest (omega (arith, k)))

-- what is known by a number is known by its name
pub running_by_number : (name : List ℕ) (r : Roll) → running_at (number_of name r) (enrolled name r) ≡ running_of name r
running_by_number name [] = refl
running_by_number name (e ∷ r) = by (bytes_eq name e.0) (running_by_number name r)
  where
    by : (b : Bool) → running_at (number_of name r) (enrolled name r) ≡ running_of name r → running_at (cond b zero (suc (number_of name r)))
        (cond b ((e.0, cond b e.1 (running_of name r)) ∷ r) (e ∷ with_running name (cond b e.1 (running_of name r)) r)) ≡ cond b e.1 (running_of name r)
    by true rest = refl
    by false rest = rest

pub set_by_number : (name : List ℕ) (v : Option ℕ) (r : Roll) → with_running_at (number_of name r) v (enrolled name r) ≡ with_running name v r
set_by_number name v [] = refl
set_by_number name v (e ∷ r) = by (bytes_eq name e.0) (set_by_number name v r)
  where
    by : (b : Bool) → with_running_at (number_of name r) v (enrolled name r) ≡ with_running name v r → with_running_at (cond b zero (suc (number_of name r))) v
        (cond b ((e.0, cond b e.1 (running_of name r)) ∷ r) (e ∷ with_running name (cond b e.1 (running_of name r)) r)) ≡ cond b ((e.0, v) ∷ r) (e ∷ with_running name v r)
    by true rest = refl
    by false rest = ap (λ l. e ∷ l) rest

-- ---- as they are kept

abbrev pub Kept : Type 0
Kept = List (String Global × Option ℕ)

abbrev test : List ℕ → String Global → Bool
test name k = bytes_eq name (string_bytes k)

abbrev same_key : String Global → String Global → Bool
same_key a b = bytes_eq (string_bytes a) (string_bytes b)

abbrev pub shown : Kept → Roll
shown es = map (λ e. (string_bytes e.0, e.1)) es

pub number_by_key : (name : List ℕ) (es : Kept) → position_or_len (test name) (keys_of es) ≡ number_of name (shown es)
number_by_key name [] = refl
number_by_key name (e ∷ es) = by (bytes_eq name (string_bytes e.0)) (number_by_key name es)
  where
    by : (b : Bool) → position_or_len (test name) (keys_of es) ≡ number_of name (shown es) → cond (not b) (1 + position_or_len (test name) (keys_of es)) 0 ≡ cond b zero (suc (number_of name (shown es)))
    by true rest = refl
    by false rest = omega (arith, rest)

pub inserted : (key : String Global) (v : Option ℕ) (es : Kept) →
    shown (insert_entry same_key es key v) ≡ with_running (string_bytes key) v (shown es)
inserted key v [] = refl
inserted key v (e ∷ es) = by (bytes_eq (string_bytes key) (string_bytes e.0)) (inserted key v es)
  where
    by : (b : Bool) → shown (insert_entry same_key es key v) ≡ with_running (string_bytes key) v (shown es) → shown (cond b ((e.0, v) ∷ es) (e ∷ insert_entry same_key es key v))
        ≡ cond b ((string_bytes e.0, v) ∷ shown es) ((string_bytes e.0, e.1) ∷ with_running (string_bytes key) v (shown es))
    by true rest = refl
    by false rest = ap (λ l. (string_bytes e.0, e.1) ∷ l) rest

abbrev pub second : Option (String Global × Option ℕ) → Option ℕ
second None = None
second (Some e) = e.1

pub running_by_place : (n : ℕ) (es : Kept) → running_at n (shown es) ≡ second (slice_get es n)
running_by_place n [] = refl
running_by_place zero (e ∷ es) = refl
running_by_place (suc n) (e ∷ es) = running_by_place n es

pub set_by_place : (n : ℕ) (v : Option ℕ) (es : Kept) → shown (set_value_at es n v) ≡ with_running_at n v (shown es)
set_by_place n v [] = refl
set_by_place zero v (e ∷ es) = refl
set_by_place (suc n) v (e ∷ es) = ap (λ l. (string_bytes e.0, e.1) ∷ l) (set_by_place n v es)

-- past the end nothing is set
pub set_past : (n : ℕ) (v : Option ℕ) (es : Kept) → slice_get (values_of es) n ≡ None → with_running_at n v (shown es) ≡ shown es
set_past n v [] h = refl
set_past zero v (e ∷ es) h = absurd cc
set_past (suc n) v (e ∷ es) h = ap (λ l. (string_bytes e.0, e.1) ∷ l) (set_past n v es h)

-- ---- a look-up by name

lengths : (es : Kept) → length (keys_of es) ≡ length (shown es)
lengths [] = refl
lengths (e ∷ es) = ap suc (lengths es)

below : (p n : ℕ) → nat_lt p n ≡ true → p < n
below p n h = grind (arith, nat_tests)

not_below : (p n : ℕ) → nat_lt p n ≡ false → n ≤ p
not_below p n h = grind (arith, nat_tests)

found_at : (b : Bool) (p n : ℕ) → Some n ≡ cond b (Some p) None → (n ≡ p) × (b ≡ true)
found_at true p n h = (cc, refl)
found_at false p n h = absurd cc

none_at : (b : Bool) (p : ℕ) → ◌≡◌ {A = Option ℕ} None (cond b (Some p) None) → b ≡ false
none_at true p h = absurd cc
none_at false p h = refl

module _ (name : List ℕ) (es : Kept) where
  abbrev place : ℕ
  place = position_or_len (test name) (keys_of es)

  pub found_number : (n : ℕ) → Some n ≡ position (test name) (keys_of es) → n ≡ number_of name (shown es)
  found_number n h = (found_at (nat_lt place (length (keys_of es))) place n h).0 ∙ number_by_key name es

  pub found_enrolled : (n : ℕ) → Some n ≡ position (test name) (keys_of es) → enrolled name (shown es) ≡ shown es
  found_enrolled n h =
      let there = below place (length (keys_of es)) (found_at (nat_lt place (length (keys_of es))) place n h).1 in
      present_enrolled name (shown es) (omega (arith, there, number_by_key name es, lengths es))

  pub absent_enrolled : ◌≡◌ {A = Option ℕ} None (position (test name) (keys_of es)) → enrolled name (shown es) ≡ with_running name None (shown es)
  absent_enrolled h =
      let past = not_below place (length (keys_of es)) (none_at (nat_lt place (length (keys_of es))) place h) in
      ap (λ v. with_running name v (shown es)) (absent_none name (shown es) (omega (arith, past, number_by_key name es, lengths es, number_within name (shown es))))
