-- Deltas with timestamps, the newest first: their order, those that are later than an instant, and their groups.
use Rattle.std.specs.Prelude.{◌≡◌, ℕ, ◌<◌, ◌≤◌, nat_lt, if◌then◌else◌, List, [], ◌∷◌, length, filter, map, reverse, Vec}
use Rattle.std.specs.List.{flat_map}
use Rattle.undo_law.specs.declared.dated.Dated.{Dated}

-- none has a timestamp above this one
abbrev pub AreAtMost : {D : Type 0} → ℕ → List (Dated D) → Type 0
AreAtMost ts [] = Unit
AreAtMost ts (d ∷ ds) = (d.ts ≤ ts) × AreAtMost ts ds

-- no timestamp is above one that stands before it
abbrev pub AreDescending : {D : Type 0} → List (Dated D) → Type 0
AreDescending [] = Unit
AreDescending (d ∷ ds) = AreAtMost d.ts ds × AreDescending ds

-- the deltas that were committed after the instant t
abbrev pub later : {D : Type 0} → ℕ → List (Dated D) → List (Dated D)
later t ds = filter (λ d. nat_lt t d.ts) ds

-- The groups, the newest first, once a newer delta has come: it joins the newest group where that is smaller than the
-- interval k, and begins a group of its own where not.
abbrev pub joined : {D : Type 0} → ℕ → Dated D → List (List (Dated D)) → List (List (Dated D))
joined k d [] = (d ∷ []) ∷ []
joined k d (g ∷ gs) = if nat_lt (length g) k then (d ∷ g) ∷ gs else (d ∷ []) ∷ g ∷ gs

-- The groups once deltas have come that are newer than all in them, one by one from the oldest on.
abbrev pub joined_all : {D : Type 0} → ℕ → List (Dated D) → List (List (Dated D)) → List (List (Dated D))
joined_all k [] gs = gs
joined_all k (d ∷ ds) gs = joined k d (joined_all k ds gs)

-- the deltas in groups of k from the oldest on, the newest group first
abbrev pub groups : {D : Type 0} → ℕ → List (Dated D) → List (List (Dated D))
groups k ds = joined_all k ds []

-- each group has k deltas
abbrev pub AreFull : {D : Type 0} → ℕ → List (List (Dated D)) → Type 0
AreFull k [] = Unit
AreFull k (g ∷ gs) = (length g ≡ k) × AreFull k gs

-- the newest group has 1 to k deltas, and each other one has k
abbrev pub AreSized : {D : Type 0} → ℕ → List (List (Dated D)) → Type 0
AreSized k [] = Unit
AreSized k (g ∷ gs) = (0 < length g) × (length g ≤ k) × AreFull k gs

-- The groups, the newest first, part the deltas from the oldest on: joined again they are the deltas, and no group but
-- the newest is smaller than k.
pub record AreGroupsOf {D : Type 0} (k : ℕ) (ds : List (Dated D)) (gs : List (List (Dated D))) : Type 0 where
  pub parts : flat_map (λ g. g) gs ≡ ds
  pub sized : AreSized k gs

-- groups as they are made: the oldest first, and in each the oldest delta first
abbrev pub turned : {D A : Type 0} → List (Vec (Dated D) A) → List (List (Dated D))
turned gs = reverse (map (λ g. reverse g.items) gs)
