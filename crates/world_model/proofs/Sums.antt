-- Sums over the objects that were given out.
use Rattle.std.proofs.Common.{◌≡◌, ◌≢◌, ℕ, zero, suc, ◌+◌, ◌<◌, ◌≤◌, List, [], ◌∷◌, Bool, true, false, length, refl, sym, ap, subst, ◌∙◌, arith, map}
use Rattle.std.specs.Prelude.{nat_eq, nat_lt, get_or}
use Rattle.std.specs.List.{range_with_len, sum_by}
use Rattle.std.proofs.lemmas.Bool.{false≢true}
use Rattle.std.proofs.lemmas.Bool.Decides.{nat_tests}
use Rattle.std.proofs.lemmas.List.Sums.{sum_by-cons, sum_by-append}
use Rattle.graph_value.specs.declared.id.Oid.{Oid}
use Rattle.graph_value.specs.declared.id.Oid.TheVariants.{Vertex, Edge}
use Rattle.undo_delta.specs.Touch.{same_oid}
use Rattle.world_model.specs.declared.event.Kind.TheVariants as kind
use Rattle.world_model.specs.Op.{is_given}
use Rattle.world_model.specs.Placement.{sum_over}
use Rattle.world_model.specs.Views.{oid_of}
use Rattle.world_model.specs.World.{World}

-- ---- sums over numbers that follow one another

none_first : (p : ℕ) → 0 + p ≡ p
none_first p = omega arith

-- n numbers are asked, from a on
unfoldable span : (ℕ → ℕ) → ℕ → ℕ → ℕ
span f a zero = 0
span f a (suc n) = f a + span f (a + 1) n

map_span : {A : Type 0} (f : A → ℕ) (h : ℕ → A) (a n : ℕ) → sum_by f (map h (range_with_len a n)) ≡ span (λ i. f (h i)) a n
unfolding span
map_span f h a zero = refl
map_span f h a (suc n) = sum_by-cons f (h a) (map h (range_with_len (a + 1) n)) ∙ ap (λ s. f (h a) + s) (map_span f h (a + 1) n)

span_same : (f g : ℕ → ℕ) (a n : ℕ) → ((i : ℕ) → a ≤ i → i < a + n → g i ≡ f i) → span g a n ≡ span f a n
unfolding span
span_same f g a zero same = refl
span_same f g a (suc n) same =
    ap (λ k. k + span g (a + 1) n) (same a (omega arith) (omega arith))
    ∙ ap (λ s. f a + s) (span_same f g (a + 1) n (λ i low high. same i (omega (arith, low)) (omega (arith, high))))

span_plus : (f g : ℕ → ℕ) (a n : ℕ) → span (λ i. f i + g i) a n ≡ span f a n + span g a n
unfolding span
span_plus f g a zero = refl
span_plus f g a (suc n) =
    ap (λ s. (f a + g a) + s) (span_plus f g (a + 1) n) ∙ sorted (f a) (g a) (span f (a + 1) n) (span g (a + 1) n)
  where
    sorted : (p q r s : ℕ) → (p + q) + (r + s) ≡ (p + r) + (q + s)
    sorted p q r s = omega arith

span_zero : (f : ℕ → ℕ) (a n : ℕ) → ((i : ℕ) → a ≤ i → i < a + n → f i ≡ 0) → span f a n ≡ 0
unfolding span
span_zero f a zero none = refl
span_zero f a (suc n) none =
    let first : f a ≡ 0 = none a (omega arith) (omega arith) in
    let rest : span f (a + 1) n ≡ 0 = span_zero f (a + 1) n (λ i low high. none i (omega (arith, low)) (omega (arith, high))) in
    ap (λ k. k + span f (a + 1) n) first ∙ ap (λ s. 0 + s) rest

data Place (a k : ℕ) : Type 0 where
  here : k ≡ a → Place a k
  apart : a ≢ k → Place a k

place : (a k : ℕ) → Place a k
place a k = by_test (nat_eq a k) refl
  where
    by_test : (b : Bool) → nat_eq a k ≡ b → Place a k
    by_test true e = here (grind (arith, nat_tests))
    by_test false e = apart (λ same. let e2 : nat_eq a k ≡ true = grind (arith, nat_tests, same) in false≢true (sym e ∙ e2))

-- the number at one place is greater, and all others are the same
span_grows : (f g : ℕ → ℕ) (a n k m : ℕ) → a ≤ k → k < a + n → g k ≡ f k + m → ((i : ℕ) → a ≤ i → i < a + n → i ≢ k → g i ≡ f i) → span g a n ≡ span f a n + m
unfolding span
span_grows f g a zero k m low high more same = absurd (omega (arith, low, high))
span_grows f g a (suc n) k m low high more same =
    by_place (λ higher. span_grows f g (a + 1) n k m higher (omega (arith, high)) more (λ i lo hi. same i (omega (arith, lo)) (omega (arith, hi)))) (place a k)
  where
    sorted : (p q r : ℕ) → (p + q) + r ≡ (p + r) + q
    sorted p q r = omega arith

    joined : (p q r : ℕ) → p + (q + r) ≡ (p + q) + r
    joined p q r = omega arith

    above : (a k : ℕ) → a ≤ k → a ≢ k → a + 1 ≤ k
    above a k le ne = omega (arith, le, ne)

    by_place : (a + 1 ≤ k → span g (a + 1) n ≡ span f (a + 1) n + m) → Place a k → g a + span g (a + 1) n ≡ (f a + span f (a + 1) n) + m
    by_place rest (here e) =
        let grown : g a ≡ f a + m = subst (λ j. g j ≡ f j + m) e more in
        ap (λ s. s + span g (a + 1) n) grown
        ∙ ap (λ s. (f a + m) + s) (span_same f g (a + 1) n (λ i lo hi. same i (omega (arith, lo)) (omega (arith, hi)) (λ at. absurd (omega (arith, lo, at, e)))))
        ∙ sorted (f a) m (span f (a + 1) n)
    by_place rest (apart ne) =
        ap (λ s. s + span g (a + 1) n) (same a (omega arith) (omega arith) ne)
        ∙ ap (λ s. f a + s) (rest (above a k low ne))
        ∙ joined (f a) (span f (a + 1) n) m

span_more : (f : ℕ → ℕ) (a n : ℕ) → span f a (n + 1) ≡ span f a n + f (a + n)
unfolding span
span_more f a zero = last (f a) ∙ ap (λ i. 0 + f i) (nothing a)
  where
    last : (p : ℕ) → p + 0 ≡ 0 + p
    last p = omega arith

    nothing : (p : ℕ) → p ≡ p + 0
    nothing p = omega arith
span_more f a (suc n) =
    ap (span f a) (counted n)
    ∙ ap (λ s. f a + s) (span_more f (a + 1) n)
    ∙ joined (f a) (span f (a + 1) n) (f ((a + 1) + n))
    ∙ ap (λ i. (f a + span f (a + 1) n) + f i) (moved a n)
  where
    counted : (p : ℕ) → suc p + 1 ≡ suc (p + 1)
    counted p = omega arith

    joined : (p q r : ℕ) → p + (q + r) ≡ (p + q) + r
    joined p q r = omega arith

    moved : (p q : ℕ) → (p + 1) + q ≡ p + suc q
    moved p q = omega arith

-- the first ones are 0
span_behind : (f : ℕ → ℕ) (a k n : ℕ) → ((i : ℕ) → a ≤ i → i < a + k → f i ≡ 0) → span f a (k + n) ≡ span f (a + k) n
unfolding span
span_behind f a zero n none = ap (span f a) (none_first n) ∙ ap (λ (b : ℕ). span f b n) (nothing a)
  where
    nothing : (p : ℕ) → p ≡ p + 0
    nothing p = omega arith
span_behind f a (suc k) n none =
    let first : f a ≡ 0 = none a (omega arith) (omega arith) in
    ap (span f a) (counted k n)
    ∙ ap (λ s. s + span f (a + 1) (k + n)) first
    ∙ none_first (span f (a + 1) (k + n))
    ∙ span_behind f (a + 1) k n (λ i low high. none i (omega (arith, low)) (omega (arith, high)))
    ∙ ap (λ (b : ℕ). span f b n) (moved a k)
  where
    counted : (p q : ℕ) → suc p + q ≡ suc (p + q)
    counted p q = omega arith

    moved : (p q : ℕ) → (p + 1) + q ≡ p + suc q
    moved p q = omega arith

-- and the others stand in a list
span_listed : {A : Type 0} (m : A → ℕ) (f : ℕ → ℕ) (a : ℕ) (rows : List A) (d : A) → ((i : ℕ) → i < length rows → f (a + i) ≡ m (get_or rows i d)) → span f a (length rows) ≡ sum_by m rows
unfolding span
span_listed m f a [] d are = refl
span_listed m f a (row ∷ rows) d are =
    let first : f a ≡ m row = ap f (nothing a) ∙ are 0 (omega arith) in
    ap (λ s. s + span f (a + 1) (length rows)) first
    ∙ ap (λ s. m row + s) (span_listed m f (a + 1) rows d (λ i low. ap f (moved a i) ∙ are (suc i) (omega (arith, low))))
    ∙ sym (sum_by-cons m row rows)
  where
    nothing : (p : ℕ) → p ≡ p + 0
    nothing p = omega arith

    moved : (p q : ℕ) → (p + 1) + q ≡ p + suc q
    moved p q = omega arith

-- ---- sums over objects

abbrev of_vertex : (Oid → ℕ) → ℕ → ℕ
of_vertex f i = f (Vertex (record { 0 = i }))

abbrev of_edge : (Oid → ℕ) → ℕ → ℕ
of_edge f i = f (Edge (record { 0 = i }))

in_spans : (w : World) (f : Oid → ℕ) → sum_over w f ≡ span (of_vertex f) 0 w.vertices + span (of_edge f) 0 w.edges
in_spans w f =
    sum_by-append f (map (oid_of kind.Vertex) (range_with_len 0 w.vertices)) (map (oid_of kind.Edge) (range_with_len 0 w.edges))
    ∙ ap (λ s. s + sum_by f (map (oid_of kind.Edge) (range_with_len 0 w.edges))) (map_span f (oid_of kind.Vertex) 0 w.vertices)
    ∙ ap (λ s. span (of_vertex f) 0 w.vertices + s) (map_span f (oid_of kind.Edge) 0 w.edges)

below_given : (i n : ℕ) → i < 0 + n → nat_lt i n ≡ true
below_given i n low = grind (arith, nat_tests)

given_below : (i n : ℕ) → nat_lt i n ≡ true → i < 0 + n
given_below i n low = grind (arith, nat_tests)

differs : (i k : ℕ) → i ≢ k → nat_eq i k ≡ false
differs i k ne = grind (arith, nat_tests, ne)

-- The sum is the same where the numbers of all given objects are.
pub sum_same : (w : World) (f g : Oid → ℕ) → ((x : Oid) → is_given w.vertices w.edges x ≡ true → g x ≡ f x) → sum_over w g ≡ sum_over w f
sum_same w f g same =
    in_spans w g
    ∙ ap (λ s. s + span (of_edge g) 0 w.edges) (span_same (of_vertex f) (of_vertex g) 0 w.vertices (λ i low high. same (Vertex (record { 0 = i })) (below_given i w.vertices high)))
    ∙ ap (λ s. span (of_vertex f) 0 w.vertices + s) (span_same (of_edge f) (of_edge g) 0 w.edges (λ i low high. same (Edge (record { 0 = i })) (below_given i w.edges high)))
    ∙ sym (in_spans w f)

-- It grows by n where the number of one given object does, and those of all others stay.
pub sum_grows : (w : World) (f g : Oid → ℕ) (x : Oid) (n : ℕ) → is_given w.vertices w.edges x ≡ true → g x ≡ f x + n →
    ((y : Oid) → is_given w.vertices w.edges y ≡ true → same_oid y x ≡ false → g y ≡ f y) → sum_over w g ≡ sum_over w f + n
sum_grows w f g (Vertex v) n given more same =
    in_spans w g
    ∙ ap (λ s. s + span (of_edge g) 0 w.edges) (span_grows (of_vertex f) (of_vertex g) 0 w.vertices v.0 n (omega arith) (given_below v.0 w.vertices given) more
    (λ i low high ne. same (Vertex (record { 0 = i })) (below_given i w.vertices high) (differs i v.0 ne)))
    ∙ ap (λ s. (span (of_vertex f) 0 w.vertices + n) + s) (span_same (of_edge f) (of_edge g) 0 w.edges (λ i low high. same (Edge (record { 0 = i })) (below_given i w.edges high) refl))
    ∙ sorted (span (of_vertex f) 0 w.vertices) n (span (of_edge f) 0 w.edges)
    ∙ ap (λ s. s + n) (sym (in_spans w f))
  where
    sorted : (p q r : ℕ) → (p + q) + r ≡ (p + r) + q
    sorted p q r = omega arith
sum_grows w f g (Edge e) n given more same =
    in_spans w g
    ∙ ap (λ s. s + span (of_edge g) 0 w.edges) (span_same (of_vertex f) (of_vertex g) 0 w.vertices (λ i low high. same (Vertex (record { 0 = i })) (below_given i w.vertices high) refl))
    ∙ ap (λ s. span (of_vertex f) 0 w.vertices + s) (span_grows (of_edge f) (of_edge g) 0 w.edges e.0 n (omega arith) (given_below e.0 w.edges given) more
    (λ i low high ne. same (Edge (record { 0 = i })) (below_given i w.edges high) (differs i e.0 ne)))
    ∙ joined (span (of_vertex f) 0 w.vertices) (span (of_edge f) 0 w.edges) n
    ∙ ap (λ s. s + n) (sym (in_spans w f))
  where
    joined : (p q r : ℕ) → p + (q + r) ≡ (p + q) + r
    joined p q r = omega arith

-- The sum of two numbers of each object is that of their two sums.
pub sum_of_both : (w : World) (f g : Oid → ℕ) → sum_over w (λ x. f x + g x) ≡ sum_over w f + sum_over w g
sum_of_both w f g =
    in_spans w (λ x. f x + g x)
    ∙ ap (λ s. s + span (of_edge (λ x. f x + g x)) 0 w.edges) (span_plus (of_vertex f) (of_vertex g) 0 w.vertices)
    ∙ ap (λ s. (span (of_vertex f) 0 w.vertices + span (of_vertex g) 0 w.vertices) + s) (span_plus (of_edge f) (of_edge g) 0 w.edges)
    ∙ sorted (span (of_vertex f) 0 w.vertices) (span (of_vertex g) 0 w.vertices) (span (of_edge f) 0 w.edges) (span (of_edge g) 0 w.edges)
    ∙ ap (λ s. s + (span (of_vertex g) 0 w.vertices + span (of_edge g) 0 w.edges)) (sym (in_spans w f))
    ∙ ap (λ s. sum_over w f + s) (sym (in_spans w g))
  where
    sorted : (p q r s : ℕ) → (p + q) + (r + s) ≡ (p + r) + (q + s)
    sorted p q r s = omega arith

-- It is 0 where each number is.
pub sum_of_none : (w : World) → sum_over w (λ x. 0) ≡ 0
sum_of_none w =
    in_spans w (λ x. 0)
    ∙ ap (λ s. s + span (λ i. 0) 0 w.edges) (span_zero (λ i. 0) 0 w.vertices (λ i low high. refl))
    ∙ ap (λ s. 0 + s) (span_zero (λ i. 0) 0 w.edges (λ i low high. refl))

-- It asks the counters of the world alone.
pub sum_kept : (w v : World) (f : Oid → ℕ) → v.vertices ≡ w.vertices → v.edges ≡ w.edges → sum_over v f ≡ sum_over w f
sum_kept w v f vertices edges =
    in_spans v f
    ∙ ap (λ n. span (of_vertex f) 0 n + span (of_edge f) 0 v.edges) vertices
    ∙ ap (λ n. span (of_vertex f) 0 w.vertices + span (of_edge f) 0 n) edges
    ∙ sym (in_spans w f)

-- It is the same where one vertex more is given out that has 0.
pub sum_with_vertex : (w v : World) (f : Oid → ℕ) → v.vertices ≡ w.vertices + 1 → v.edges ≡ w.edges → f (Vertex (record { 0 = w.vertices })) ≡ 0 → sum_over v f ≡ sum_over w f
sum_with_vertex w v f vertices edges none =
    in_spans v f
    ∙ ap (λ n. span (of_vertex f) 0 n + span (of_edge f) 0 v.edges) vertices
    ∙ ap (λ n. span (of_vertex f) 0 (w.vertices + 1) + span (of_edge f) 0 n) edges
    ∙ ap (λ s. s + span (of_edge f) 0 w.edges) (span_more (of_vertex f) 0 w.vertices ∙ ap (λ k. span (of_vertex f) 0 w.vertices + k) (ap (of_vertex f) (none_first w.vertices) ∙ none) ∙ nothing (span (of_vertex f) 0 w.vertices))
    ∙ sym (in_spans w f)
  where
    nothing : (p : ℕ) → p + 0 ≡ p
    nothing p = omega arith

-- And so with an edge.
pub sum_with_edge : (w v : World) (f : Oid → ℕ) → v.vertices ≡ w.vertices → v.edges ≡ w.edges + 1 → f (Edge (record { 0 = w.edges })) ≡ 0 → sum_over v f ≡ sum_over w f
sum_with_edge w v f vertices edges none =
    in_spans v f
    ∙ ap (λ n. span (of_vertex f) 0 n + span (of_edge f) 0 v.edges) vertices
    ∙ ap (λ n. span (of_vertex f) 0 w.vertices + span (of_edge f) 0 n) edges
    ∙ ap (λ s. span (of_vertex f) 0 w.vertices + s) (span_more (of_edge f) 0 w.edges ∙ ap (λ k. span (of_edge f) 0 w.edges + k) (ap (of_edge f) (none_first w.edges) ∙ none) ∙ nothing (span (of_edge f) 0 w.edges))
    ∙ sym (in_spans w f)
  where
    nothing : (p : ℕ) → p + 0 ≡ p
    nothing p = omega arith

span_split : (f : ℕ → ℕ) (a n k : ℕ) → span f a (n + k) ≡ span f a n + span f (a + n) k
unfolding span
span_split f a zero k = ap (span f a) (none_first k) ∙ ap (λ (b : ℕ). span f b k) (nothing a) ∙ sym (none_first (span f (a + 0) k))
  where
    nothing : (p : ℕ) → p ≡ p + 0
    nothing p = omega arith
span_split f a (suc n) k =
    ap (span f a) (counted n k)
    ∙ ap (λ s. f a + s) (span_split f (a + 1) n k)
    ∙ joined (f a) (span f (a + 1) n) (span f ((a + 1) + n) k)
    ∙ ap (λ (b : ℕ). (f a + span f (a + 1) n) + span f b k) (moved a n)
  where
    counted : (p q : ℕ) → suc p + q ≡ suc (p + q)
    counted p q = omega arith

    joined : (p q r : ℕ) → p + (q + r) ≡ (p + q) + r
    joined p q r = omega arith

    moved : (p q : ℕ) → (p + 1) + q ≡ p + suc q
    moved p q = omega arith

-- Objects of one kind that stand in rows, from a first number on. Those without a row have 0, and so have those that
-- weren't given out.
pub record InRows {A : Type 0} (m : A → ℕ) (none : A) (first : ℕ) (rows : List A) (next : ℕ) (f : ℕ → ℕ) : Type 0 where
  pub below : (i : ℕ) → i < first → f i ≡ 0
  pub listed : (i : ℕ) → i < length rows → f (first + i) ≡ m (get_or rows i none)
  pub past : (i : ℕ) → first + length rows ≤ i → f i ≡ 0
  pub unknown : (i : ℕ) → next ≤ i → f i ≡ 0

rows_sum : {A : Type 0} (m : A → ℕ) (none : A) (first : ℕ) (rows : List A) (next : ℕ) (f : ℕ → ℕ) → InRows m none first rows next f → span f 0 next ≡ sum_by m rows
rows_sum m none first rows next f r =
    sym (whole next (first + length rows) r.unknown)
    ∙ ap (span f 0) (swap next (first + length rows))
    ∙ whole (first + length rows) next r.past
    ∙ span_behind f 0 first (length rows) (λ i low high. r.below i (omega (arith, high)))
    ∙ ap (λ (b : ℕ). span f b (length rows)) (none_first first)
    ∙ span_listed m f first rows none r.listed
  where
    swap : (p q : ℕ) → p + q ≡ q + p
    swap p q = omega arith

    whole : (n k : ℕ) → ((i : ℕ) → n ≤ i → f i ≡ 0) → span f 0 (n + k) ≡ span f 0 n
    whole n k gone =
        span_split f 0 n k
        ∙ ap (λ s. span f 0 n + s) (span_zero f (0 + n) k (λ i low high. gone i (omega (arith, low))))
        ∙ nothing (span f 0 n)
      where
        nothing : (p : ℕ) → p + 0 ≡ p
        nothing p = omega arith

-- The sum is that of the rows of both kinds.
pub sum_in_rows : {A B : Type 0} (w : World) (f : Oid → ℕ) (m : A → ℕ) (none : A) (firstv : ℕ) (vertices : List A) (n : B → ℕ) (nothing : B) (firste : ℕ) (edges : List B) →
    InRows m none firstv vertices w.vertices (λ i. f (Vertex (record { 0 = i }))) → InRows n nothing firste edges w.edges (λ i. f (Edge (record { 0 = i }))) →
    sum_over w f ≡ sum_by m vertices + sum_by n edges
sum_in_rows w f m none firstv vertices n nothing firste edges v e =
    in_spans w f
    ∙ ap (λ s. s + span (of_edge f) 0 w.edges) (rows_sum m none firstv vertices w.vertices (of_vertex f) v)
    ∙ ap (λ s. sum_by m vertices + s) (rows_sum n nothing firste edges w.edges (of_edge f) e)
