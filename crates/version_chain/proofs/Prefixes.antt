-- In a chain, the entries that pass a test which newer ones pass too are its first ones: filtering is taking a front.
use Rattle.std.proofs.Common.{◌≡◌, ℕ, ◌+◌, ◌-◌, ◌<◌, ◌≤◌, zero, suc, Bool, true, false, not, ltb, Option, Some, None, is_none, List, [], ◌∷◌, length, get_or, take, drop, filter, refl, sym, ap, ◌∙◌, arith}
use Rattle.std.specs.List.{prefix_len, AllWithin}
use Rattle.std.proofs.lemmas.Bool.{false≢true, ltb-true, ltb-false, lt-ltb, le-ltb, not-true, not_from_false}
use Rattle.std.proofs.lemmas.List.Sums.{prefix_len_is}
use Rattle.version_chain.specs.declared.entry.Entry.{Entry}
use Rattle.version_chain.specs.Entry.{is_stamp_after, is_stamp_before}
use Rattle.version_chain.specs.Order.{MayFollow, AllMayFollow, IsInOrder}

-- a newer entry passes where an older one does
abbrev pub PassesNewer : (Option ℕ → Bool) → Type 0
PassesNewer p = (newer older : Option ℕ) → MayFollow newer older → p older ≡ true → p newer ≡ true

pub passes_newer-after : (t : ℕ) → PassesNewer (is_stamp_after t)
passes_newer-after t None older h q = refl
passes_newer-after t (Some n) None h q = absurd h
passes_newer-after t (Some n) (Some o) h q = let later : t < o = ltb-true t o q in lt-ltb t n (omega arith)

abbrev pub not_before : ℕ → Option ℕ → Bool
not_before mark s = not (is_stamp_before mark s)

pub passes_newer-not_before : (mark : ℕ) → PassesNewer (not_before mark)
passes_newer-not_before mark None older h q = refl
passes_newer-not_before mark (Some n) None h q = absurd h
passes_newer-not_before mark (Some n) (Some o) h q =
    let later : mark ≤ o = ltb-false o mark (not-true (ltb o mark) q) in
    not_from_false (ltb n mark) (le-ltb n mark (omega arith))

pub passes_newer-open : PassesNewer (λ s. is_none s)
passes_newer-open None older h q = refl
passes_newer-open (Some n) None h q = absurd h
passes_newer-open (Some n) (Some o) h q = q

false_below : (a b : Bool) → (b ≡ true → a ≡ true) → a ≡ false → b ≡ false
false_below a true h f = absurd (false≢true (sym f ∙ h refl))
false_below a false h f = refl

one_more : {A : Type 0} (n : ℕ) (x : A) (xs : List A) → take (1 + n) (x ∷ xs) ≡ x ∷ take n xs
one_more n x xs = let e : 1 + n ≡ suc n = omega arith in ap (λ m. take m (x ∷ xs)) e

one_less : {A : Type 0} (n : ℕ) (x : A) (xs : List A) → drop (1 + n) (x ∷ xs) ≡ drop n xs
one_less n x xs = let e : 1 + n ≡ suc n = omega arith in ap (λ m. drop m (x ∷ xs)) e

-- behind an entry that doesn't pass, none passes
pub none_follow : {D : Type 0} (p : Option ℕ → Bool) → PassesNewer p → (newer : Option ℕ) (es : List (Entry D)) → AllMayFollow newer es → p newer ≡ false → filter (λ e. p e.stamp) es ≡ []
none_follow p c newer [] h f = refl
none_follow p c newer (e ∷ es) h f =
    let g : p e.stamp ≡ false = false_below (p newer) (p e.stamp) (c newer e.stamp h.0) f in
    rw g (none_follow p c newer es h.1 f)

pub all_follow : {D : Type 0} (p q : Option ℕ → Bool) → ((s : Option ℕ) → q s ≡ not (p s)) → PassesNewer p → (newer : Option ℕ) (es : List (Entry D)) → AllMayFollow newer es → p newer ≡ false → filter (λ e. q e.stamp) es ≡ es
all_follow p q o c newer [] h f = refl
all_follow p q o c newer (e ∷ es) h f =
    let g : p e.stamp ≡ false = false_below (p newer) (p e.stamp) (c newer e.stamp h.0) f in
    let k : q e.stamp ≡ true = o e.stamp ∙ not_from_false (p e.stamp) g in
    rw k (ap (λ rest. e ∷ rest) (all_follow p q o c newer es h.1 f))

filter-take_by : {D : Type 0} (p : Option ℕ → Bool) → PassesNewer p → (e : Entry D) (es : List (Entry D)) → IsInOrder (e ∷ es) → filter (λ e. p e.stamp) es ≡ take (prefix_len (λ e. p e.stamp) es) es → (b : Bool) → p e.stamp ≡ b → filter (λ e. p e.stamp) (e ∷ es) ≡ take (prefix_len (λ e. p e.stamp) (e ∷ es)) (e ∷ es)
filter-take_by p c e es h rest true f = rw f (ap (λ r. e ∷ r) rest ∙ sym (one_more (prefix_len (λ e. p e.stamp) es) e es))
filter-take_by p c e es h rest false f = rw f (none_follow p c e.stamp es h.0 f)

pub filter-take : {D : Type 0} (p : Option ℕ → Bool) → PassesNewer p → (es : List (Entry D)) → IsInOrder es → filter (λ e. p e.stamp) es ≡ take (prefix_len (λ e. p e.stamp) es) es
filter-take p c [] h = refl
filter-take p c (e ∷ es) h = filter-take_by p c e es h (filter-take p c es h.1) (p e.stamp) refl

filter-drop_by : {D : Type 0} (p q : Option ℕ → Bool) → ((s : Option ℕ) → q s ≡ not (p s)) → PassesNewer p → (e : Entry D) (es : List (Entry D)) → IsInOrder (e ∷ es) → filter (λ e. q e.stamp) es ≡ drop (prefix_len (λ e. p e.stamp) es) es → (b : Bool) → p e.stamp ≡ b → filter (λ e. q e.stamp) (e ∷ es) ≡ drop (prefix_len (λ e. p e.stamp) (e ∷ es)) (e ∷ es)
filter-drop_by p q o c e es h rest true f =
    let k : q e.stamp ≡ false = o e.stamp ∙ ap not f in
    rw (f, k) (rest ∙ sym (one_less (prefix_len (λ e. p e.stamp) es) e es))
filter-drop_by p q o c e es h rest false f =
    let k : q e.stamp ≡ true = o e.stamp ∙ ap not f in
    rw (f, k) (ap (λ r. e ∷ r) (all_follow p q o c e.stamp es h.0 f))

pub filter-drop : {D : Type 0} (p q : Option ℕ → Bool) → ((s : Option ℕ) → q s ≡ not (p s)) → PassesNewer p → (es : List (Entry D)) → IsInOrder es → filter (λ e. q e.stamp) es ≡ drop (prefix_len (λ e. p e.stamp) es) es
filter-drop p q o c [] h = refl
filter-drop p q o c (e ∷ es) h = filter-drop_by p q o c e es h (filter-drop p q o c es h.1) (p e.stamp) refl

prefix_len-drop_prefix_by : {X : Type 0} (p : X → Bool) (x : X) (xs : List X) → prefix_len p (drop (prefix_len p xs) xs) ≡ 0 → (b : Bool) → p x ≡ b → prefix_len p (drop (prefix_len p (x ∷ xs)) (x ∷ xs)) ≡ 0
prefix_len-drop_prefix_by p x xs rest true f = rw f (ap (prefix_len p) (one_less (prefix_len p xs) x xs) ∙ rest)
prefix_len-drop_prefix_by p x xs rest false f = rw f (rw f refl)

-- behind the first entries that pass, the next doesn't
pub prefix_len-drop_prefix : {X : Type 0} (p : X → Bool) (xs : List X) → prefix_len p (drop (prefix_len p xs) xs) ≡ 0
prefix_len-drop_prefix p [] = refl
prefix_len-drop_prefix p (x ∷ xs) = prefix_len-drop_prefix_by p x xs (prefix_len-drop_prefix p xs) (p x) refl

prefix_len-take_prefix_by : {X : Type 0} (p q : X → Bool) → ((x : X) → p x ≡ true → q x ≡ true) → (x : X) (xs : List X) → prefix_len p (take (prefix_len q xs) xs) ≡ prefix_len p xs → (b a : Bool) → q x ≡ b → p x ≡ a → prefix_len p (take (prefix_len q (x ∷ xs)) (x ∷ xs)) ≡ prefix_len p (x ∷ xs)
prefix_len-take_prefix_by p q w x xs rest true true f g = rw f (ap (prefix_len p) (one_more (prefix_len q xs) x xs) ∙ rw g (ap (λ n. 1 + n) rest))
prefix_len-take_prefix_by p q w x xs rest true false f g = rw f (ap (prefix_len p) (one_more (prefix_len q xs) x xs) ∙ rw g refl)
prefix_len-take_prefix_by p q w x xs rest false true f g = absurd (false≢true (sym f ∙ w x g))
prefix_len-take_prefix_by p q w x xs rest false false f g = rw (f, g) refl

-- a front cut where a weaker test ends has the same first entries for the stronger one
pub prefix_len-take_prefix : {X : Type 0} (p q : X → Bool) → ((x : X) → p x ≡ true → q x ≡ true) → (xs : List X) → prefix_len p (take (prefix_len q xs) xs) ≡ prefix_len p xs
prefix_len-take_prefix p q w [] = refl
prefix_len-take_prefix p q w (x ∷ xs) = prefix_len-take_prefix_by p q w x xs (prefix_len-take_prefix p q w xs) (q x) (p x) refl refl

pub prefix_len_at : {X : Type 0} (p : X → Bool) (xs : List X) (n : ℕ) → n ≤ length xs → AllWithin (λ x. p x ≡ true) xs 0 n → ((d : X) → n < length xs → p (get_or xs n d) ≡ false) → prefix_len p xs ≡ n
prefix_len_at p [] n l h f = omega arith
prefix_len_at p (x ∷ xs) n l h f = prefix_len_is p (x ∷ xs) n x l (λ k below. h k x (omega arith) below) (f x)

follow_at : {D : Type 0} (newer : Option ℕ) (es : List (Entry D)) (i : ℕ) (d : Entry D) → AllMayFollow newer es → i < length es → MayFollow newer (get_or es i d).stamp
follow_at newer [] i d h l = absurd (omega arith)
follow_at newer (e ∷ es) zero d h l = h.0
follow_at newer (e ∷ es) (suc i) d h l = follow_at newer es i d h.1 (omega arith)

-- what passes at a place passes before it
pub earlier_passes : {D : Type 0} (p : Option ℕ → Bool) → PassesNewer p → (es : List (Entry D)) → IsInOrder es → (j i : ℕ) (d : Entry D) → j ≤ i → i < length es → p (get_or es i d).stamp ≡ true → p (get_or es j d).stamp ≡ true
earlier_passes p c [] h j i d le l f = absurd (omega arith)
earlier_passes p c (e ∷ es) h zero zero d le l f = f
earlier_passes p c (e ∷ es) h zero (suc i) d le l f = c e.stamp (get_or es i d).stamp (follow_at e.stamp es i d h.0 (omega arith)) f
earlier_passes p c (e ∷ es) h (suc j) zero d le l f = absurd (omega arith)
earlier_passes p c (e ∷ es) h (suc j) (suc i) d le l f = earlier_passes p c es h.1 j i d (omega arith) (omega arith) f

-- the first entries that pass end at n, where the one before n passes and the one at n doesn't
pub prefix_len_from_back : {D : Type 0} (p : Option ℕ → Bool) → PassesNewer p → (es : List (Entry D)) → IsInOrder es → (n : ℕ) → n ≤ length es → ((d : Entry D) → 0 < n → p (get_or es (n - 1) d).stamp ≡ true) → ((d : Entry D) → n < length es → p (get_or es n d).stamp ≡ false) → prefix_len (λ e. p e.stamp) es ≡ n
prefix_len_from_back p c es h n l before here = prefix_len_at (λ e. p e.stamp) es n l (λ k d low below. earlier_passes p c es h k (n - 1) d (omega arith) (omega arith) (before d (omega arith))) here

all_may_follow-take : {D : Type 0} (newer : Option ℕ) (n : ℕ) (es : List (Entry D)) → AllMayFollow newer es → AllMayFollow newer (take n es)
all_may_follow-take newer zero es h = tt
all_may_follow-take newer (suc n) [] h = tt
all_may_follow-take newer (suc n) (e ∷ es) h = (h.0, all_may_follow-take newer n es h.1)

pub in_order-take : {D : Type 0} (n : ℕ) (es : List (Entry D)) → IsInOrder es → IsInOrder (take n es)
in_order-take zero es h = tt
in_order-take (suc n) [] h = tt
in_order-take (suc n) (e ∷ es) h = (all_may_follow-take e.stamp n es h.0, in_order-take n es h.1)

pub in_order-drop : {D : Type 0} (n : ℕ) (es : List (Entry D)) → IsInOrder es → IsInOrder (drop n es)
in_order-drop zero es h = h
in_order-drop (suc n) [] h = tt
in_order-drop (suc n) (e ∷ es) h = in_order-drop n es h.1

pub all_follow_open : {D : Type 0} (es : List (Entry D)) → AllMayFollow None es
all_follow_open [] = tt
all_follow_open (e ∷ es) = (tt, all_follow_open es)
