-- Deltas whose timestamps descend, parted by numbers.
use Rattle.std.proofs.Common.{◌≡◌, ℕ, ◌<◌, ◌≤◌, List, [], ◌∷◌, ◌++◌, Bool, true, false, cond, refl, sym, ap, subst, ◌∙◌, arith}
use Rattle.std.specs.Prelude.{nat_lt, nat_le, reverse}
use Rattle.std.specs.List.{list_all}
use Rattle.std.proofs.lemmas.Bool.Decides.{nat_tests}
use Rattle.std.proofs.lemmas.List.{reverse-append}
use Rattle.graph_value.specs.declared.id.Oid.{Oid}
use Rattle.graph_record.specs.Graph.{Graph, empty_graph}
use Rattle.undo_law.specs.declared.dated.Dated.{Dated}
use Rattle.undo_delta.specs.declared.delta.Delta.{Delta}
use Rattle.anchor_store.specs.Groups.{AreAtMost, AreDescending}
use Rattle.world_model.specs.Op.{apply_all}
use Rattle.world_model.specs.World.{World, Commit, InOrder, stamps_ascend}
use Rattle.world_model.specs.Undo.{dated, left_by_all, left_since, undo_list}
use Rattle.world_model.specs.Placement.{below, since}
use Rattle.world_model.proofs.Folds.{and_left_true, and_right_true}

abbrev Deltas : Type 0
Deltas = List (Dated Delta)

-- none has a timestamp below n
abbrev AreAtLeast : ℕ → Deltas → Type 0
AreAtLeast n [] = Unit {0}
AreAtLeast n (d ∷ ds) = (n ≤ d.ts) × AreAtLeast n ds

-- ---- below and since

below_first : (n : ℕ) (d : Dated Delta) (ds : Deltas) → d.ts < n → below n (d ∷ ds) ≡ d ∷ below n ds
below_first n d ds h = let keeps : nat_lt d.ts n ≡ true = grind (arith, nat_tests) in ap (λ b. cond b (d ∷ below n ds) (below n ds)) keeps

below_not : (n : ℕ) (d : Dated Delta) (ds : Deltas) → n ≤ d.ts → below n (d ∷ ds) ≡ below n ds
below_not n d ds h = let drops : nat_lt d.ts n ≡ false = grind (arith, nat_tests) in ap (λ b. cond b (d ∷ below n ds) (below n ds)) drops

since_first : (n : ℕ) (d : Dated Delta) (ds : Deltas) → n ≤ d.ts → since n (d ∷ ds) ≡ d ∷ since n ds
since_first n d ds h = let keeps : nat_le n d.ts ≡ true = grind (arith, nat_tests) in ap (λ b. cond b (d ∷ since n ds) (since n ds)) keeps

since_not : (n : ℕ) (d : Dated Delta) (ds : Deltas) → d.ts < n → since n (d ∷ ds) ≡ since n ds
since_not n d ds h = let drops : nat_le n d.ts ≡ false = grind (arith, nat_tests) in ap (λ b. cond b (d ∷ since n ds) (since n ds)) drops

data Side (n m : ℕ) : Type 0 where
  lower : m < n → Side n m
  upper : n ≤ m → Side n m

side : (n m : ℕ) → Side n m
side n m = by_test (nat_lt m n) refl
  where
    by_test : (b : Bool) → nat_lt m n ≡ b → Side n m
    by_test true e = lower (grind (arith, nat_tests))
    by_test false e = upper (grind (arith, nat_tests))

none_since : (n b : ℕ) (ds : Deltas) → b < n → AreAtMost b ds → since n ds ≡ []
none_since n b [] h all = refl
none_since n b (d ∷ ds) h all = let less : d.ts ≤ b = all.0 in since_not n d ds (omega arith) ∙ none_since n b ds h all.1

all_below : (n b : ℕ) (ds : Deltas) → b < n → AreAtMost b ds → below n ds ≡ ds
all_below n b [] h all = refl
all_below n b (d ∷ ds) h all = let less : d.ts ≤ b = all.0 in below_first n d ds (omega arith) ∙ ap (λ es. d ∷ es) (all_below n b ds h all.1)

-- the deltas from a number on stand in front of those below it
pub split : (n : ℕ) (ds : Deltas) → AreDescending ds → since n ds ++ below n ds ≡ ds
split n [] h = refl
split n (d ∷ ds) h = by_side (split n ds h.1) (side n d.ts)
  where
    by_side : since n ds ++ below n ds ≡ ds → Side n d.ts → since n (d ∷ ds) ++ below n (d ∷ ds) ≡ d ∷ ds
    by_side rest (lower l) =
        ap (λ es. es ++ below n (d ∷ ds)) (since_not n d ds l ∙ none_since n d.ts ds l h.0)
        ∙ below_first n d ds l ∙ ap (λ es. d ∷ es) (all_below n d.ts ds l h.0)
    by_side rest (upper g) =
        ap (λ es. es ++ below n (d ∷ ds)) (since_first n d ds g) ∙ ap (λ es. d ∷ (since n ds ++ es)) (below_not n d ds g) ∙ ap (λ es. d ∷ es) rest

at_most_since : (n b : ℕ) (ds : Deltas) → AreAtMost b ds → AreAtMost b (since n ds)
at_most_since n b [] h = tt
at_most_since n b (d ∷ ds) h = by_side (at_most_since n b ds h.1) (side n d.ts)
  where
    by_side : AreAtMost b (since n ds) → Side n d.ts → AreAtMost b (since n (d ∷ ds))
    by_side rest (lower l) = subst (AreAtMost b) (sym (since_not n d ds l)) rest
    by_side rest (upper g) = subst (AreAtMost b) (sym (since_first n d ds g)) (h.0, rest)

at_most_below : (n b : ℕ) (ds : Deltas) → AreAtMost b ds → AreAtMost b (below n ds)
at_most_below n b [] h = tt
at_most_below n b (d ∷ ds) h = by_side (at_most_below n b ds h.1) (side n d.ts)
  where
    by_side : AreAtMost b (below n ds) → Side n d.ts → AreAtMost b (below n (d ∷ ds))
    by_side rest (lower l) = subst (AreAtMost b) (sym (below_first n d ds l)) (h.0, rest)
    by_side rest (upper g) = subst (AreAtMost b) (sym (below_not n d ds g)) rest

pub since_descends : (n : ℕ) (ds : Deltas) → AreDescending ds → AreDescending (since n ds)
since_descends n [] h = tt
since_descends n (d ∷ ds) h = by_side (since_descends n ds h.1) (side n d.ts)
  where
    by_side : AreDescending (since n ds) → Side n d.ts → AreDescending (since n (d ∷ ds))
    by_side rest (lower l) = subst AreDescending (sym (since_not n d ds l)) rest
    by_side rest (upper g) = subst AreDescending (sym (since_first n d ds g)) (at_most_since n d.ts ds h.0, rest)

pub below_descends : (n : ℕ) (ds : Deltas) → AreDescending ds → AreDescending (below n ds)
below_descends n [] h = tt
below_descends n (d ∷ ds) h = by_side (below_descends n ds h.1) (side n d.ts)
  where
    by_side : AreDescending (below n ds) → Side n d.ts → AreDescending (below n (d ∷ ds))
    by_side rest (lower l) = subst AreDescending (sym (below_first n d ds l)) (at_most_below n d.ts ds h.0, rest)
    by_side rest (upper g) = subst AreDescending (sym (below_not n d ds g)) rest

-- ---- two numbers, the one at most the other

pub since_since : (c m : ℕ) (ds : Deltas) → c ≤ m → since m (since c ds) ≡ since m ds
since_since c m [] h = refl
since_since c m (d ∷ ds) h = by_side (since_since c m ds h) (side c d.ts)
  where
    by_side : since m (since c ds) ≡ since m ds → Side c d.ts → since m (since c (d ∷ ds)) ≡ since m (d ∷ ds)
    by_side rest (lower l) = ap (since m) (since_not c d ds l) ∙ rest ∙ sym (since_not m d ds (omega (arith, l)))
    by_side rest (upper g) = ap (since m) (since_first c d ds g) ∙ by_second (side m d.ts)
      where
        by_second : Side m d.ts → since m (d ∷ since c ds) ≡ since m (d ∷ ds)
        by_second (lower l) = since_not m d (since c ds) l ∙ rest ∙ sym (since_not m d ds l)
        by_second (upper h) = since_first m d (since c ds) h ∙ ap (λ es. d ∷ es) rest ∙ sym (since_first m d ds h)

pub below_below : (c m : ℕ) (ds : Deltas) → c ≤ m → below c (below m ds) ≡ below c ds
below_below c m [] h = refl
below_below c m (d ∷ ds) h = by_side (below_below c m ds h) (side m d.ts)
  where
    by_side : below c (below m ds) ≡ below c ds → Side m d.ts → below c (below m (d ∷ ds)) ≡ below c (d ∷ ds)
    by_side rest (upper g) = ap (below c) (below_not m d ds g) ∙ rest ∙ sym (below_not c d ds (omega (arith, g)))
    by_side rest (lower l) = ap (below c) (below_first m d ds l) ∙ by_second (side c d.ts)
      where
        by_second : Side c d.ts → below c (d ∷ below m ds) ≡ below c (d ∷ ds)
        by_second (lower l) = below_first c d (below m ds) l ∙ ap (λ es. d ∷ es) rest ∙ sym (below_first c d ds l)
        by_second (upper h) = below_not c d (below m ds) h ∙ rest ∙ sym (below_not c d ds h)

pub between : (c m : ℕ) (ds : Deltas) → below m (since c ds) ≡ since c (below m ds)
between c m [] = refl
between c m (d ∷ ds) = by_sides (between c m ds) (side c d.ts) (side m d.ts)
  where
    by_sides : below m (since c ds) ≡ since c (below m ds) → Side c d.ts → Side m d.ts → below m (since c (d ∷ ds)) ≡ since c (below m (d ∷ ds))
    by_sides rest (lower l) (lower k) = ap (below m) (since_not c d ds l) ∙ rest ∙ sym (ap (since c) (below_first m d ds k) ∙ since_not c d (below m ds) l)
    by_sides rest (lower l) (upper k) = ap (below m) (since_not c d ds l) ∙ rest ∙ sym (ap (since c) (below_not m d ds k))
    by_sides rest (upper g) (lower k) = ap (below m) (since_first c d ds g) ∙ below_first m d (since c ds) k ∙ ap (λ es. d ∷ es) rest ∙ sym (ap (since c) (below_first m d ds k) ∙ since_first c d (below m ds) g)
    by_sides rest (upper g) (upper k) = ap (below m) (since_first c d ds g) ∙ below_not m d (since c ds) k ∙ rest ∙ sym (ap (since c) (below_not m d ds k))

-- what lies between stands in front of what lies below both
pub front_of_below : (c m : ℕ) (ds : Deltas) → AreDescending ds → c ≤ m → below m (since c ds) ++ below c ds ≡ below m ds
front_of_below c m ds h low =
    ap (λ es. es ++ below c ds) (between c m ds)
    ∙ ap (λ es. since c (below m ds) ++ es) (sym (below_below c m ds low))
    ∙ split c (below m ds) (below_descends m ds h)

-- and behind what lies above both
pub behind_since : (c m : ℕ) (ds : Deltas) → AreDescending ds → c ≤ m → since m ds ++ below m (since c ds) ≡ since c ds
behind_since c m ds h low =
    ap (λ es. es ++ below m (since c ds)) (sym (since_since c m ds low))
    ∙ split m (since c ds) (since_descends c ds h)

-- ---- the deltas of commits in order descend

at_most_append : (b : ℕ) (xs ys : Deltas) → AreAtMost b xs → AreAtMost b ys → AreAtMost b (xs ++ ys)
at_most_append b [] ys h k = k
at_most_append b (x ∷ xs) ys h k = (h.0, at_most_append b xs ys h.1 k)

at_least_append : (b : ℕ) (xs ys : Deltas) → AreAtLeast b xs → AreAtLeast b ys → AreAtLeast b (xs ++ ys)
at_least_append b [] ys h k = k
at_least_append b (x ∷ xs) ys h k = (h.0, at_least_append b xs ys h.1 k)

at_most_raised : (a b : ℕ) (xs : Deltas) → a ≤ b → AreAtMost a xs → AreAtMost b xs
at_most_raised a b [] h all = tt
at_most_raised a b (x ∷ xs) h all = let less : x.ts ≤ a = all.0 in (omega arith, at_most_raised a b xs h all.1)

descending_append : (n : ℕ) (xs ys : Deltas) → AreDescending xs → AreAtLeast n xs → AreDescending ys → AreAtMost n ys → AreDescending (xs ++ ys)
descending_append n [] ys dx lx dy my = dy
descending_append n (x ∷ xs) ys dx lx dy my =
    (at_most_append x.ts xs ys dx.0 (at_most_raised n x.ts ys lx.0 my), descending_append n xs ys dx.1 lx.1 dy my)

dated_most : (ts : ℕ) (ds : List Delta) → AreAtMost ts (dated ts ds)
dated_most ts [] = tt
dated_most ts (d ∷ ds) = (omega arith, dated_most ts ds)

dated_least : (n ts : ℕ) (ds : List Delta) → n ≤ ts → AreAtLeast n (dated ts ds)
dated_least n ts [] h = tt
dated_least n ts (d ∷ ds) h = (h, dated_least n ts ds h)

dated_descend : (ts : ℕ) (ds : List Delta) → AreDescending (dated ts ds)
dated_descend ts [] = tt
dated_descend ts (d ∷ ds) = (dated_most ts ds, dated_descend ts ds)

dated_reverse : (ts : ℕ) (ds : List Delta) → reverse (dated ts ds) ≡ dated ts (reverse ds)
dated_reverse ts ds = sym (Rattle.world_model.proofs.Undo.map-reverse (λ d. record { ts = ts; delta = d }) ds)

left_least : (n : ℕ) (cs : List Commit) (g : Graph) (x : Oid) → list_all (λ c. nat_lt n c.ts) cs ≡ true → AreAtLeast n (reverse (left_since g cs x))
unfolding left_since
left_least n [] g x h = tt
left_least n (c ∷ cs) g x h =
    let first : nat_lt n c.ts ≡ true = and_left_true _ _ h in
    subst (AreAtLeast n) (sym (reverse-append (dated c.ts (left_by_all c.ops x g)) (left_since (apply_all c.ops g) cs x)))
    (at_least_append n (reverse (left_since (apply_all c.ops g) cs x)) (reverse (dated c.ts (left_by_all c.ops x g)))
    (left_least n cs (apply_all c.ops g) x (and_right_true _ _ h))
    (subst (AreAtLeast n) (sym (dated_reverse c.ts (left_by_all c.ops x g))) (dated_least n c.ts (reverse (left_by_all c.ops x g)) (grind (arith, nat_tests)))))

left_descends : (cs : List Commit) (g : Graph) (x : Oid) → stamps_ascend cs ≡ true → AreDescending (reverse (left_since g cs x))
unfolding left_since stamps_ascend
left_descends [] g x h = tt
left_descends (c ∷ cs) g x h =
    let own = reverse (left_by_all c.ops x g) in
    subst AreDescending (sym (reverse-append (dated c.ts (left_by_all c.ops x g)) (left_since (apply_all c.ops g) cs x)))
    (descending_append c.ts (reverse (left_since (apply_all c.ops g) cs x)) (reverse (dated c.ts (left_by_all c.ops x g)))
    (left_descends cs (apply_all c.ops g) x (and_right_true _ _ h))
    (left_least c.ts cs (apply_all c.ops g) x (and_left_true _ _ h))
    (subst AreDescending (sym (dated_reverse c.ts (left_by_all c.ops x g))) (dated_descend c.ts own))
    (subst (AreAtMost c.ts) (sym (dated_reverse c.ts (left_by_all c.ops x g))) (dated_most c.ts own)))

-- the deltas of an object descend
pub undo_descends : (w : World) (x : Oid) → InOrder w → AreDescending (undo_list w x)
undo_descends w x o = left_descends w.commits empty_graph x o.ascending
