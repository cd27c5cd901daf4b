-- Two lists of maximal runs with the same values at each instant are the same.
use Rattle.std.proofs.Common.{◌≡◌, ℕ, ◌+◌, ◌<◌, ◌≤◌, true, false, ◌&&◌, nat_le, cond, Option, Some, None, List, [], ◌∷◌, refl, sym, ap, subst, ◌∙◌, inl, inr, arith}
use Rattle.std.specs.Coded.{le_prop}
use Rattle.std.proofs.lemmas.Bool.{cases_lt}
use Rattle.std.proofs.lemmas.Bool.Decides.{nat_tests}
use Rattle.tt_intervals.specs.declared.span.Span.{Span}
use Rattle.tt_intervals.specs.Neighbours.{OnFirst}
use Rattle.tt_intervals.proofs.Meanings.{mean_symmetric, mean_transitive}
use Rattle.tt_intervals.specs.Runs.{AreMaximalRuns, AreSameRuns, Ascends, EndsBefore, IsMaximal, MeanSame, SameValues, value_at}

-- spans with the same ends are one
same_ends : (f g l m : ℕ) (h : f ≤ l) (k : g ≤ m) → f ≡ g → l ≡ m → ◌≡◌ {A = Span} (record { first = f; last = l; ordered = h }) (record { first = g; last = m; ordered = k })
same_ends f g l m h k e d =
    let P : ℕ → ℕ → Type 0 = λ x y. (w : x ≤ y) → ◌≡◌ {A = Span} (record { first = f; last = l; ordered = h }) (record { first = x; last = y; ordered = w }) in
    let here : P f l = λ w. ap (λ (o : f ≤ l). record { first = f; last = l; ordered = o }) (le_prop h w) in
    subst (λ y. P g y) d (subst (λ x. P x l) e here) k

pub span_equal : (a b : Span) → a.first ≡ b.first → a.last ≡ b.last → a ≡ b
span_equal a b e d = same_ends a.first b.first a.last b.last a.ordered b.ordered e d

-- a test of an instant, from its place
is_inside : (t f l : ℕ) → f ≤ t → t ≤ l → (nat_le f t && nat_le t l) ≡ true
is_inside t f l a b = grind (arith, nat_tests)

is_before : (t f l : ℕ) → t < f → (nat_le f t && nat_le t l) ≡ false
is_before t f l a = grind (arith, nat_tests)

is_behind : (t f l : ℕ) → l < t → (nat_le f t && nat_le t l) ≡ false
is_behind t f l a = grind (arith, nat_tests)

module _ {T : Type 0} where
  value_inside : (t : ℕ) (p : Span × T) (ps : List (Span × T)) → p.0.first ≤ t → t ≤ p.0.last → value_at t (p ∷ ps) ≡ Some p.1
  value_inside t p ps a b = ap (λ c. cond c (Some p.1) (value_at t ps)) (is_inside t p.0.first p.0.last a b)

  value_behind : (t : ℕ) (p : Span × T) (ps : List (Span × T)) → p.0.last < t → value_at t (p ∷ ps) ≡ value_at t ps
  value_behind t p ps a = ap (λ c. cond c (Some p.1) (value_at t ps)) (is_behind t p.0.first p.0.last a)

  starts_later : (t : ℕ) (p : Span × T) (ps : List (Span × T)) → t ≤ p.0.last → OnFirst (EndsBefore p) ps → OnFirst (λ q. t < q.0.first) ps
  starts_later t p [] a h = tt
  starts_later t p (q ∷ ps) a h = omega (arith, h)

  -- before the first piece there is nothing
  value_before : (t : ℕ) (ps : List (Span × T)) → Ascends ps → OnFirst (λ p. t < p.0.first) ps → value_at t ps ≡ None
  value_before t [] a h = refl
  value_before t (p ∷ ps) a h =
      ap (λ c. cond c (Some p.1) (value_at t ps)) (is_before t p.0.first p.0.last h)
      ∙ value_before t ps a.1 (starts_later t p ps (let o : p.0.first ≤ p.0.last = p.0.ordered in omega (arith, h)) a.0)

module _ {T : Type 0} (Same : T → T → Type 0) where
  both_there : (o p : Option T) (u v : T) → MeanSame Same o p → o ≡ Some u → p ≡ Some v → Same u v
  both_there o p u v h e d = subst (λ q. MeanSame Same (Some u) q) d (subst (λ q. MeanSame Same q p) e h)

  not_alone : (o p : Option T) (u : T) → MeanSame Same o p → o ≡ Some u → p ≡ None → ⊥
  not_alone o p u h e d = subst (λ q. MeanSame Same (Some u) q) d (subst (λ q. MeanSame Same q p) e h)

  moved : (o p q r : Option T) → MeanSame Same o p → o ≡ q → p ≡ r → MeanSame Same q r
  moved o p q r h e d = subst (λ z. MeanSame Same q z) d (subst (λ z. MeanSame Same z p) e h)

  -- where there is something in one list, the other one has begun
  not_earlier : (x y : Span × T) (xs ys : List (Span × T)) → Ascends (y ∷ ys) → SameValues Same (x ∷ xs) (y ∷ ys) → x.0.first < y.0.first → ⊥
  not_earlier x y xs ys a h b =
      let t = x.0.first in
      not_alone (value_at t (x ∷ xs)) (value_at t (y ∷ ys)) x.1 (h t) (value_inside t x xs (omega arith) x.0.ordered) (value_before t (y ∷ ys) a b)

  module _ (symmetric : (a b : T) → Same a b → Same b a) (transitive : (a b c : T) → Same a b → Same b c → Same a c) where
    flipped : (xs ys : List (Span × T)) → SameValues Same xs ys → SameValues Same ys xs
    flipped xs ys h = λ t. mean_symmetric Same symmetric (value_at t xs) (value_at t ys) (h t)

    -- behind the end of x, where y goes on
    next_there : (x y : Span × T) (xs ys : List (Span × T)) → SameValues Same (x ∷ xs) (y ∷ ys) → x.0.first ≡ y.0.first → x.0.last < y.0.last → MeanSame Same (Some y.1) (value_at (x.0.last + 1) xs)
    next_there x y xs ys h e b =
        let t = x.0.last + 1 in
        let ordered : x.0.first ≤ x.0.last = x.0.ordered in
        moved (value_at t (y ∷ ys)) (value_at t (x ∷ xs)) (Some y.1) (value_at t xs) (flipped (x ∷ xs) (y ∷ ys) h t) (value_inside t y ys (omega (arith, ordered)) (omega arith)) (value_behind t x xs (omega arith))

    -- a run doesn't end within one that means the same
    not_shorter : (x y : Span × T) (xs ys : List (Span × T)) → Ascends (x ∷ xs) → IsMaximal Same (x ∷ xs) → SameValues Same (x ∷ xs) (y ∷ ys) → x.0.first ≡ y.0.first → Same x.1 y.1 → x.0.last < y.0.last → ⊥
    not_shorter x y [] ys a m h e s b = next_there x y [] ys h e b
    not_shorter x y (z ∷ xs) ys a m h e s b =
        let t = x.0.last + 1 in
        let there : MeanSame Same (Some y.1) (value_at t (z ∷ xs)) = next_there x y (z ∷ xs) ys h e b in
        let not_later : t < z.0.first → ⊥ = λ l. subst (λ q. MeanSame Same (Some y.1) q) (value_before t (z ∷ xs) a.1 l) there in
        let touches : t ≡ z.0.first = omega (arith, not_later, a.0) in
        let ordered : z.0.first ≤ z.0.last = z.0.ordered in
        let same : Same y.1 z.1 = subst (λ q. MeanSame Same (Some y.1) q) (value_inside t z xs (omega (arith, touches)) (omega (arith, touches, ordered))) there in
        m.0 (touches, transitive x.1 y.1 z.1 s same)

    same_rest : (x y : Span × T) (xs ys : List (Span × T)) → Ascends (x ∷ xs) → Ascends (y ∷ ys) → SameValues Same (x ∷ xs) (y ∷ ys) → x.0.last ≡ y.0.last → SameValues Same xs ys
    same_rest x y xs ys a b h e = λ t. elim (cases_lt x.0.last t) as (λ _. MeanSame Same (value_at t xs) (value_at t ys)) [
      | inl l ↦ moved (value_at t (x ∷ xs)) (value_at t (y ∷ ys)) (value_at t xs) (value_at t ys) (h t) (value_behind t x xs l) (value_behind t y ys (omega (arith, e, l)))
      | inr l ↦ moved None None (value_at t xs) (value_at t ys) tt (sym (value_before t xs a.1 (starts_later t x xs l a.0))) (sym (value_before t ys b.1 (starts_later t y ys (omega (arith, e, l)) b.0)))
    ]

    pub same_runs : (xs ys : List (Span × T)) → Ascends xs → IsMaximal Same xs → Ascends ys → IsMaximal Same ys → SameValues Same xs ys → AreSameRuns Same xs ys
    same_runs [] [] a m b n h = tt
    same_runs [] (y ∷ ys) a m b n h = let t = y.0.first in not_alone (value_at t (y ∷ ys)) None y.1 (flipped [] (y ∷ ys) h t) (value_inside t y ys (omega arith) y.0.ordered) refl
    same_runs (x ∷ xs) [] a m b n h = let t = x.0.first in not_alone (value_at t (x ∷ xs)) None x.1 (h t) (value_inside t x xs (omega arith) x.0.ordered) refl
    same_runs (x ∷ xs) (y ∷ ys) a m b n h =
        let back : SameValues Same (y ∷ ys) (x ∷ xs) = flipped (x ∷ xs) (y ∷ ys) h in
        let y_first : x.0.first < y.0.first → ⊥ = not_earlier x y xs ys b h in
        let x_first : y.0.first < x.0.first → ⊥ = not_earlier y x ys xs a back in
        let first : x.0.first ≡ y.0.first = omega (arith, y_first, x_first) in
        let t = x.0.first in
        let y_ordered : y.0.first ≤ y.0.last = y.0.ordered in
        let same : Same x.1 y.1 = both_there (value_at t (x ∷ xs)) (value_at t (y ∷ ys)) x.1 y.1 (h t) (value_inside t x xs (omega arith) x.0.ordered) (value_inside t y ys (omega (arith, first)) (omega (arith, first, y_ordered))) in
        let y_last : x.0.last < y.0.last → ⊥ = not_shorter x y xs ys a m h first same in
        let x_last : y.0.last < x.0.last → ⊥ = not_shorter y x ys xs b n back (sym first) (symmetric x.1 y.1 same) in
        let last : x.0.last ≡ y.0.last = omega (arith, y_last, x_last) in
        ((span_equal x.0 y.0 first last, same), same_runs xs ys a.1 m.1 b.1 n.1 (same_rest x y xs ys a b h last))

    pub runs_unique : (pieces xs ys : List (Span × T)) → AreMaximalRuns Same pieces xs → AreMaximalRuns Same pieces ys → AreSameRuns Same xs ys
    runs_unique pieces xs ys h k =
        same_runs xs ys h.ascends h.maximal k.ascends k.maximal (λ t. mean_transitive Same transitive (value_at t xs) (value_at t pieces) (value_at t ys) (flipped pieces xs h.values t) (k.values t))
