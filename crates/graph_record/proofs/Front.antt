-- The first elements of a list, and the element at its end.
use Rattle.std.proofs.Common.{◌≡◌, ℕ, zero, suc, ◌-◌, ◌≤◌, List, [], ◌∷◌, ◌++◌, Some, None, Bool, true, false, ◌&&◌, length, take, Greater, IsTrue, refl, sym, ap, ◌∙◌, arith, rules}
use Rattle.std.specs.Prelude.{slice_get, nat_lt}
use Rattle.std.specs.List.{list_all}
use Rattle.std.specs.Ordering.{nat_cmp, is_lt}
use Rattle.std.proofs.lemmas.Bool.{and_parts}
use Rattle.std.proofs.lemmas.Bool.Decides.{nat_tests}
use Rattle.std.proofs.lemmas.List.{take_all, length-take-le, length-append}
use Rattle.graph_value.specs.declared.id.EdgeId.{EdgeId}
use Rattle.graph_record.specs.Ascending.{edge_cmp, IsAscendingIds}
use Rattle.graph_record.specs.Edits.{added, is_below}
use Rattle.graph_record.proofs.Place.{both}

pub take_front : {A : Type 0} (n m : ℕ) (xs : List A) → n ≤ m → take n (take m xs) ≡ take n xs
take_front zero m xs h = refl
take_front (suc n) zero xs h = absurd (omega arith)
take_front (suc n) (suc m) [] h = refl
take_front (suc n) (suc m) (x ∷ xs) h = ap (λ ys. x ∷ ys) (take_front n m xs (omega arith))

-- one element less of the first n
pub one_less : {A : Type 0} (n : ℕ) (xs : List A) → n ≤ length xs → take (n - 1) xs ≡ take (length (take n xs) - 1) (take n xs)
one_less n xs h =
    ap (λ m. take (m - 1) xs) (sym (length-take-le n xs h))
    ∙ sym (take_front (length (take n xs) - 1) n xs (let e : length (take n xs) ≡ n = length-take-le n xs h in omega arith))

all_front : {A : Type 0} (p : A → Bool) (n : ℕ) (xs : List A) → IsTrue (list_all p xs) → IsTrue (list_all p (take n xs))
all_front p zero xs h = refl
all_front p (suc n) [] h = refl
all_front p (suc n) (x ∷ xs) h = both _ _ (and_parts _ _ h).0 (all_front p n xs (and_parts _ _ h).1)

-- the first of an ascending list ascend
pub front_ascends : (n : ℕ) (xs : List EdgeId) → IsAscendingIds xs → IsAscendingIds (take n xs)
front_ascends zero xs h = refl
front_ascends (suc n) [] h = refl
front_ascends (suc n) (x ∷ xs) h = both _ _ (all_front _ n xs (and_parts _ _ h).0) (front_ascends n xs (and_parts _ _ h).1)

-- an id is above all of an ascending list exactly where it is above the last
below_more : (x y z : ℕ) (rest : Bool) → IsTrue (is_lt (nat_cmp y z)) → (is_lt (nat_cmp y x) && (is_lt (nat_cmp z x) && rest)) ≡ (is_lt (nat_cmp z x) && rest)
below_more x y z true h = grind (arith, nat_tests, rules)
below_more x y z false h = grind (arith, nat_tests, rules)

one_below : (x y : ℕ) → (is_lt (nat_cmp y x) && true) ≡ nat_lt y x
one_below x y = grind (arith, nat_tests, rules)

-- the element at the end, one element later
last_later : {A : Type 0} (y z : A) (zs : List A) → slice_get (y ∷ z ∷ zs) (length (y ∷ z ∷ zs) - 1) ≡ slice_get (z ∷ zs) (length (z ∷ zs) - 1)
last_later y z zs = let e : length (y ∷ z ∷ zs) - 1 ≡ suc (length (z ∷ zs) - 1) = omega arith in ap (slice_get (y ∷ z ∷ zs)) e

pub below_last : (x : EdgeId) (ys : List EdgeId) (last : EdgeId) → IsAscendingIds ys → slice_get ys (length ys - 1) ≡ Some last → is_below edge_cmp x ys ≡ nat_lt last.0 x.0
below_last x [] last h e = cc
below_last x (y ∷ []) last h e = let same : y ≡ last = cc in ap (λ (l : EdgeId). is_lt (nat_cmp l.0 x.0) && true) same ∙ one_below x.0 last.0
below_last x (y ∷ z ∷ zs) last h e =
    below_more x.0 y.0 z.0 (list_all (λ w. is_lt (edge_cmp w x)) zs) (and_parts _ _ (and_parts _ _ h).0).0
    ∙ below_last x (z ∷ zs) last (and_parts _ _ h).1 (sym (last_later y z zs) ∙ e)

has_last : {A : Type 0} (y : A) (ys : List A) → slice_get (y ∷ ys) (length (y ∷ ys) - 1) ≡ None → ⊥
has_last y [] e = cc
has_last y (z ∷ zs) e = has_last z zs (sym (last_later y z zs) ∙ e)

pub below_none : (x : EdgeId) (ys : List EdgeId) → slice_get ys (length ys - 1) ≡ None → is_below edge_cmp x ys ≡ true
below_none x [] e = refl
below_none x (y ∷ ys) e = absurd (has_last y ys e)

-- an id that is above all goes to the end, and taking the last one off gives the list back
pub added_last : (x : EdgeId) (ys : List EdgeId) → IsTrue (is_below edge_cmp x ys) → added edge_cmp x ys ≡ ys ++ x ∷ []
added_last x [] h = refl
added_last x (y ∷ ys) h = rw (above x.0 y.0 (and_parts _ _ h).0) (ap (λ zs. y ∷ zs) (added_last x ys (and_parts _ _ h).1))
  where
    above : (a b : ℕ) → IsTrue (is_lt (nat_cmp b a)) → nat_cmp a b ≡ Greater
    above a b lt = grind (arith, nat_tests, rules)

pub last_taken : {A : Type 0} (ys : List A) (x : A) → take (length (ys ++ x ∷ []) - 1) (ys ++ x ∷ []) ≡ ys
last_taken [] x = refl
last_taken (y ∷ ys) x =
    let e : length (y ∷ (ys ++ x ∷ [])) - 1 ≡ suc (length (ys ++ x ∷ []) - 1) = omega (arith, length-append ys (x ∷ [])) in
    ap (λ n. take n (y ∷ (ys ++ x ∷ []))) e ∙ ap (λ zs. y ∷ zs) (last_taken ys x)

-- as many elements of a list as it has are the list
pub whole_taken : {A : Type 0} (ys zs : List A) → ys ≡ zs → take (length ys) zs ≡ zs
whole_taken ys zs e = take_all (length ys) zs (let same : length ys ≡ length zs = ap length e in omega arith)

pub whole_kept : (ys zs : List EdgeId) → ys ≡ zs → IsAscendingIds zs → (length ys ≤ length zs) × IsAscendingIds (take (length ys) zs)
whole_kept ys zs e ascends =
    let same : length ys ≡ length zs = ap length e in
    (omega arith, rw (whole_taken ys zs e) ascends)
