-- Groups of deltas: what they keep of the deltas, and that there is one way to group them.
use Rattle.std.proofs.Common.{◌≡◌, ℕ, ◌<◌, ◌≤◌, Bool, true, false, nat_lt, List, [], ◌∷◌, ◌++◌, length, if◌then◌else◌, refl, sym, ap, ◌∙◌, arith}
use Rattle.std.specs.List.{flat_map}
use Rattle.std.proofs.lemmas.Bool.{ltb-true, ltb-false, lt-ltb, le-ltb}
use Rattle.undo_law.specs.declared.dated.Dated.{Dated}
use Rattle.anchor_store.specs.Groups.{AreFull, AreSized, AreGroupsOf, joined, joined_all, groups}

-- groups grow by the deltas that are newer, one after the other
pub joined_all-append : {D : Type 0} (k : ℕ) (newer older : List (Dated D)) (gs : List (List (Dated D))) → joined_all k (newer ++ older) gs ≡ joined_all k newer (joined_all k older gs)
joined_all-append k [] older gs = refl
joined_all-append k (d ∷ newer) older gs = ap (joined k d) (joined_all-append k newer older gs)

-- the oldest of the deltas that are still to come joins first
pub joined_all-pop : {D : Type 0} (k : ℕ) (rest all : List (Dated D)) (d : Dated D) (before behind : List (List (Dated D))) → all ≡ rest ++ d ∷ [] → behind ≡ joined k d before → joined_all k rest behind ≡ joined_all k all before
joined_all-pop k rest all d before behind popped joins =
    ap (joined_all k rest) joins ∙ sym (joined_all-append k rest (d ∷ []) before) ∙ ap (λ ds. joined_all k ds before) (sym popped)

joined_parts_by : {D : Type 0} (b : Bool) (d : Dated D) (g : List (Dated D)) (gs : List (List (Dated D))) → flat_map (λ g. g) (if b then (d ∷ g) ∷ gs else (d ∷ []) ∷ g ∷ gs) ≡ d ∷ flat_map (λ g. g) (g ∷ gs)
joined_parts_by true d g gs = refl
joined_parts_by false d g gs = refl

joined_parts : {D : Type 0} (k : ℕ) (d : Dated D) (gs : List (List (Dated D))) → flat_map (λ g. g) (joined k d gs) ≡ d ∷ flat_map (λ g. g) gs
joined_parts k d [] = refl
joined_parts k d (g ∷ gs) = joined_parts_by (nat_lt (length g) k) d g gs

-- groups joined again are the deltas
pub groups_parts : {D : Type 0} (k : ℕ) (ds : List (Dated D)) → flat_map (λ g. g) (groups k ds) ≡ ds
groups_parts k [] = refl
groups_parts k (d ∷ ds) = joined_parts k d (groups k ds) ∙ ap (λ rest. d ∷ rest) (groups_parts k ds)

joined_sized_by : {D : Type 0} (k : ℕ) (b : Bool) (d : Dated D) (g : List (Dated D)) (gs : List (List (Dated D))) → 0 < k → AreSized k (g ∷ gs) → nat_lt (length g) k ≡ b → AreSized k (if b then (d ∷ g) ∷ gs else (d ∷ []) ∷ g ∷ gs)
joined_sized_by k true d g gs some h smaller =
    let below : length g < k = ltb-true (length g) k smaller in
    (omega arith, omega arith, h.2)
joined_sized_by k false d g gs some h full =
    let above : k ≤ length g = ltb-false (length g) k full in
    let within : length g ≤ k = h.1 in
    (omega arith, omega arith, (omega arith, h.2))

joined_sized : {D : Type 0} (k : ℕ) (d : Dated D) (gs : List (List (Dated D))) → 0 < k → AreSized k gs → AreSized k (joined k d gs)
joined_sized k d [] some h = (omega arith, omega arith, tt)
joined_sized k d (g ∷ gs) some h = joined_sized_by k (nat_lt (length g) k) d g gs some h refl

groups_sized : {D : Type 0} (k : ℕ) (ds : List (Dated D)) → 0 < k → AreSized k (groups k ds)
groups_sized k [] some = tt
groups_sized k (d ∷ ds) some = joined_sized k d (groups k ds) some (groups_sized k ds some)

-- the groups part the deltas from the oldest on
pub groups_so : {D : Type 0} (k : ℕ) (ds : List (Dated D)) → 0 < k → AreGroupsOf k ds (groups k ds)
groups_so k ds some = record { parts = groups_parts k ds; sized = groups_sized k ds some }

full_sized : {D : Type 0} (k : ℕ) (gs : List (List (Dated D))) → 0 < k → AreFull k gs → AreSized k gs
full_sized k [] some h = tt
full_sized k (g ∷ gs) some h = let same : length g ≡ k = h.0 in (omega arith, omega arith, h.1)

-- in front of full groups a delta stands alone
joined_full : {D : Type 0} (k : ℕ) (d : Dated D) (gs : List (List (Dated D))) → AreFull k gs → joined k d gs ≡ (d ∷ []) ∷ gs
joined_full k d [] h = refl
joined_full k d (g ∷ gs) h =
    let same : length g ≡ k = h.0 in
    let full : nat_lt (length g) k ≡ false = le-ltb (length g) k (omega arith) in
    rw full refl

head_same : {D : Type 0} (d e : Dated D) (xs ys : List (Dated D)) → d ∷ xs ≡ e ∷ ys → d ≡ e
head_same d e xs ys h = cc

rest_same : {D : Type 0} (d e : Dated D) (xs ys : List (Dated D)) → d ∷ xs ≡ e ∷ ys → xs ≡ ys
rest_same d e xs ys h = cc

-- no other groups part the deltas so
pub groups_alone : {D : Type 0} (k : ℕ) (ds : List (Dated D)) (gs : List (List (Dated D))) → flat_map (λ g. g) gs ≡ ds → AreSized k gs → gs ≡ groups k ds
groups_alone k [] [] parts h = refl
groups_alone k [] ([] ∷ gs) parts h = absurd (omega (arith, h.0))
groups_alone k [] ((e ∷ g) ∷ gs) parts h = absurd (cc)
groups_alone k (d ∷ ds) [] parts h = absurd (cc)
groups_alone k (d ∷ ds) ([] ∷ gs) parts h = absurd (omega (arith, h.0))
groups_alone k (d ∷ ds) ((e ∷ []) ∷ gs) parts h =
    let some : 0 < k = omega (arith, h.1) in
    let older : gs ≡ groups k ds = groups_alone k ds gs (rest_same e d (flat_map (λ g. g) gs) ds parts) (full_sized k gs some h.2) in
    ap (λ x. (x ∷ []) ∷ gs) (head_same e d (flat_map (λ g. g) gs) ds parts) ∙ sym (joined_full k d gs h.2) ∙ ap (joined k d) older
groups_alone k (d ∷ ds) ((e ∷ (f ∷ g)) ∷ gs) parts h =
    let within : length (e ∷ (f ∷ g)) ≤ k = h.1 in
    let rest = flat_map (λ g. g) ((f ∷ g) ∷ gs) in
    let older : (f ∷ g) ∷ gs ≡ groups k ds = groups_alone k ds ((f ∷ g) ∷ gs) (rest_same e d rest ds parts) (omega arith, omega arith, h.2) in
    let smaller : nat_lt (length (f ∷ g)) k ≡ true = lt-ltb (length (f ∷ g)) k (omega arith) in
    let joins : joined k d ((f ∷ g) ∷ gs) ≡ (d ∷ (f ∷ g)) ∷ gs = rw smaller refl in
    ap (λ x. (x ∷ (f ∷ g)) ∷ gs) (head_same e d rest ds parts) ∙ sym joins ∙ ap (joined k d) older
