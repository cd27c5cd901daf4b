-- A list that ascends, and in which those that tie stand as in another one, is that one put in order.
use Rattle.std.proofs.Common.{◌≡◌, ℕ, suc, ◌+◌, Bool, true, false, cond, not, ◌&&◌, List, [], ◌∷◌, get_or, refl, sym, ap, subst, ◌∙◌, arith, true≢false}
use Rattle.std.specs.Prelude.{filter}
use Rattle.std.specs.Cmp.{IsStrictWeakOrder}
use Rattle.std.specs.List.Sorted.{IsSortedBy, IsStableBy, ties}
use Rattle.row_ops.specs.Sorting.{placed, in_order}

pub answered : {P : Type 0} (b : Bool) → (b ≡ true → P) → (b ≡ false → P) → P
answered true y n = y refl
answered false y n = n refl

pub cond-yes : {A : Type 0} (b : Bool) (x y : A) → b ≡ true → cond b x y ≡ x
cond-yes true x y h = refl
cond-yes false x y h = absurd (true≢false (sym h))

pub cond-no : {A : Type 0} (b : Bool) (x y : A) → b ≡ false → cond b x y ≡ y
cond-no true x y h = absurd (true≢false h)
cond-no false x y h = refl

both_no : (a b : Bool) → a ≡ false → b ≡ false → not a && not b ≡ true
both_no false false h k = refl
both_no true b h k = absurd (true≢false h)
both_no false true h k = absurd (true≢false k)

first_no : (a b : Bool) → not a && not b ≡ true → a ≡ false
first_no false b h = refl
first_no true b h = absurd (true≢false (sym h))

second_no : (a b : Bool) → not a && not b ≡ true → b ≡ false
second_no false false h = refl
second_no false true h = absurd (true≢false (sym h))
second_no true false h = absurd (true≢false (sym h))
second_no true true h = absurd (true≢false (sym h))

no_cons : {X : Type 0} (x : X) (xs : List X) → [] ≡ x ∷ xs → ⊥
no_cons x xs e = cc

first_of : {X : Type 0} (x y : X) (xs ys : List X) → x ∷ xs ≡ y ∷ ys → x ≡ y
first_of x y xs ys e = cc

rest_of : {X : Type 0} (x y : X) (xs ys : List X) → x ∷ xs ≡ y ∷ ys → xs ≡ ys
rest_of x y xs ys e = cc

module _ {X : Type 0} (lt : X → X → Bool) (o : IsStrictWeakOrder lt) where
  abbrev Least : X → List X → Type 0
  Least x [] = Unit {0}
  Least x (y ∷ ys) = (lt y x ≡ false) × Least x ys

  abbrev Ascends : List X → Type 0
  Ascends [] = Unit {0}
  Ascends (x ∷ xs) = Least x xs × Ascends xs

  abbrev Rises : X → List X → Type 0
  Rises x [] = Unit {0}
  Rises x (y ∷ ys) = (lt y x ≡ false) × Rises y ys

  rises : (x : X) (xs : List X) → IsSortedBy lt (x ∷ xs) → Rises x xs
  rises x [] s = tt
  rises x (y ∷ ys) s = (
    s 0 x (omega arith) (omega arith),
    rises y ys (λ k d low high.
        let next : suc k + 1 ≡ suc (k + 1) = omega arith in
        subst (λ (n : ℕ). lt (get_or (x ∷ y ∷ ys) n d) (get_or (y ∷ ys) k d) ≡ false) next (s (suc k) d (omega arith) (omega arith))),
  )

  further : (x y : X) (ys : List X) → lt y x ≡ false → Least y ys → Least x ys
  further x y [] h l = tt
  further x y (z ∷ zs) h l = (o.chain z y x l.0 h, further x y zs h l.1)

  least : (x : X) (xs : List X) → Rises x xs → Least x xs
  least x [] r = tt
  least x (y ∷ ys) r = (r.0, further x y ys r.0 (least y ys r.1))

  ascends_on : (x : X) (xs : List X) → Rises x xs → Ascends (x ∷ xs)
  ascends_on x [] r = (tt, tt)
  ascends_on x (y ∷ ys) r = (least x (y ∷ ys) r, ascends_on y ys r.1)

  ascends : (xs : List X) → IsSortedBy lt xs → Ascends xs
  ascends [] s = tt
  ascends (x ∷ xs) s = ascends_on x xs (rises x xs s)

  -- what insertion keeps
  least_placed : (z x : X) (ys : List X) → lt x z ≡ false → Least z ys → Least z (placed lt x ys)
  least_placed z x [] h l = (h, tt)
  least_placed z x (y ∷ ys) h l = answered (lt y x)
      (λ b. subst (Least z) (sym (cond-yes (lt y x) (y ∷ placed lt x ys) (x ∷ y ∷ ys) b)) (l.0, least_placed z x ys h l.1))
      (λ b. subst (Least z) (sym (cond-no (lt y x) (y ∷ placed lt x ys) (x ∷ y ∷ ys) b)) (h, l))

  ascends_placed : (x : X) (ys : List X) → Ascends ys → Ascends (placed lt x ys)
  ascends_placed x [] a = (tt, tt)
  ascends_placed x (y ∷ ys) a = answered (lt y x)
      (λ b. subst Ascends (sym (cond-yes (lt y x) (y ∷ placed lt x ys) (x ∷ y ∷ ys) b)) (least_placed y x ys (o.one_way y x b) a.0, ascends_placed x ys a.1))
      (λ b. subst Ascends (sym (cond-no (lt y x) (y ∷ placed lt x ys) (x ∷ y ∷ ys) b)) ((b, further x y ys b a.0), a))

  ascends_in_order : (xs : List X) → Ascends (in_order lt xs)
  ascends_in_order [] = tt
  ascends_in_order (x ∷ xs) = ascends_placed x (in_order lt xs) (ascends_in_order xs)

  not_both : (z x y : X) → lt y x ≡ true → ties lt z y ≡ true → ties lt z x ≡ true → ⊥
  not_both z x y b t u = true≢false (sym b ∙ o.chain y z x (second_no (lt z y) (lt y z) t) (first_no (lt z x) (lt x z) u))

  swapped : {A : Type 0} (s t : Bool) (f g : A → A) (a : A) → (s ≡ true → t ≡ true → ⊥) → cond s (f (cond t (g a) a)) (cond t (g a) a) ≡ cond t (g (cond s (f a) a)) (cond s (f a) a)
  swapped true true f g a never = absurd (never refl refl)
  swapped true false f g a never = refl
  swapped false true f g a never = refl
  swapped false false f g a never = refl

  kept_placed : (z x : X) (ys : List X) → filter (ties lt z) (placed lt x ys) ≡ filter (ties lt z) (x ∷ ys)
  kept_placed z x [] = refl
  kept_placed z x (y ∷ ys) = answered (lt y x)
      (λ b. ap (filter (ties lt z)) (cond-yes (lt y x) (y ∷ placed lt x ys) (x ∷ y ∷ ys) b)
      ∙ ap (λ l. cond (ties lt z y) (y ∷ l) l) (kept_placed z x ys)
      ∙ swapped (ties lt z y) (ties lt z x) (λ l. y ∷ l) (λ l. x ∷ l) (filter (ties lt z) ys) (not_both z x y b))
      (λ b. ap (filter (ties lt z)) (cond-no (lt y x) (y ∷ placed lt x ys) (x ∷ y ∷ ys) b))

  kept_in_order : (z : X) (xs : List X) → filter (ties lt z) (in_order lt xs) ≡ filter (ties lt z) xs
  kept_in_order z [] = refl
  kept_in_order z (x ∷ xs) = kept_placed z x (in_order lt xs) ∙ ap (λ l. cond (ties lt z x) (x ∷ l) l) (kept_in_order z xs)

  -- two lists that ascend, with the same elements that tie with each
  not_itself : (x : X) → lt x x ≡ false
  not_itself x = answered (lt x x) (λ b. absurd (true≢false (sym b ∙ o.one_way x x b))) (λ b. b)

  itself : (x : X) → ties lt x x ≡ true
  itself x = both_no (lt x x) (lt x x) (not_itself x) (not_itself x)

  below : (z y w : X) → lt z y ≡ true → lt w y ≡ false → ties lt z w ≡ false
  below z y w b h = answered (ties lt z w) (λ t. absurd (true≢false (sym b ∙ o.chain z w y (first_no (lt z w) (lt w z) t) h))) (λ t. t)

  none_on : (z y : X) (ys : List X) → lt z y ≡ true → Least y ys → filter (ties lt z) ys ≡ []
  none_on z y [] b l = refl
  none_on z y (w ∷ ws) b l = cond-no (ties lt z w) _ _ (below z y w b l.0) ∙ none_on z y ws b l.1

  none : (z y : X) (ys : List X) → lt z y ≡ true → Least y ys → filter (ties lt z) (y ∷ ys) ≡ []
  none z y ys b l = none_on z y (y ∷ ys) b (not_itself y, l)

  starts : (x : X) (xs : List X) → filter (ties lt x) (x ∷ xs) ≡ x ∷ filter (ties lt x) xs
  starts x xs = cond-yes (ties lt x x) _ _ (itself x)

  not_below : (y z : X) (ys zs : List X) → Least z zs → filter (ties lt y) (y ∷ ys) ≡ filter (ties lt y) (z ∷ zs) → lt y z ≡ false
  not_below y z ys zs l e = answered (lt y z) (λ b. absurd (no_cons y (filter (ties lt y) ys) (sym (none y z zs b l) ∙ sym e ∙ starts y ys))) (λ b. b)

  behind : (x y : X) (ys zs : List X) → filter (ties lt x) (y ∷ ys) ≡ filter (ties lt x) (y ∷ zs) → filter (ties lt x) ys ≡ filter (ties lt x) zs
  behind x y ys zs e = answered (ties lt x y)
      (λ t. rest_of y y _ _ (sym (cond-yes (ties lt x y) (y ∷ filter (ties lt x) ys) _ t) ∙ e ∙ cond-yes (ties lt x y) (y ∷ filter (ties lt x) zs) _ t))
      (λ t. sym (cond-no (ties lt x y) (y ∷ filter (ties lt x) ys) _ t) ∙ e ∙ cond-no (ties lt x y) (y ∷ filter (ties lt x) zs) _ t)

  same : (ys zs : List X) → Ascends ys → Ascends zs → ((x : X) → filter (ties lt x) ys ≡ filter (ties lt x) zs) → ys ≡ zs
  same [] [] a b e = refl
  same [] (z ∷ zs) a b e = absurd (no_cons z (filter (ties lt z) zs) (e z ∙ starts z zs))
  same (y ∷ ys) [] a b e = absurd (no_cons y (filter (ties lt y) ys) (sym (e y) ∙ starts y ys))
  same (y ∷ ys) (z ∷ zs) a b e =
      let forth : lt y z ≡ false = not_below y z ys zs b.0 (e y) in
      let back : lt z y ≡ false = not_below z y zs ys a.0 (sym (e z)) in
      let tie : ties lt y z ≡ true = both_no (lt y z) (lt z y) forth back in
      let heads : y ≡ z = first_of y z (filter (ties lt y) ys) (filter (ties lt y) zs) (sym (starts y ys) ∙ e y ∙ cond-yes (ties lt y z) (z ∷ filter (ties lt y) zs) _ tie) in
      let alike : (x : X) → filter (ties lt x) (y ∷ ys) ≡ filter (ties lt x) (y ∷ zs) = λ x. e x ∙ ap (λ w. filter (ties lt x) (w ∷ zs)) (sym heads) in
      ap (λ l. y ∷ l) (same ys zs a.1 b.1 (λ x. behind x y ys zs (alike x))) ∙ ap (λ w. w ∷ zs) heads

  pub sorts : (xs ys : List X) → IsSortedBy lt ys → IsStableBy lt xs ys → ys ≡ in_order lt xs
  sorts xs ys up stable = same ys (in_order lt xs) (ascends ys up) (ascends_in_order xs) (λ x. stable x ∙ sym (kept_in_order x xs))
