-- That the groups of deltas in order make blocks.
use Rattle.std.proofs.Common.{ℕ, Bool, true, false, nat_lt, if◌then◌else◌, List, [], ◌∷◌, ◌++◌, length, sym, subst, arith}
use Rattle.std.specs.List.{flat_map}
use Rattle.undo_law.specs.declared.dated.Dated.{Dated}
use Rattle.anchor_store.specs.Blocks.{IsBlock}
use Rattle.anchor_store.specs.Groups.{AreAtMost, AreDescending, joined, groups}
use Rattle.anchor_store.proofs.Grouped.{groups_parts}

-- each group makes a block
abbrev pub AreBlocks : {D : Type 0} → List (List (Dated D)) → Type 0
AreBlocks [] = Unit
AreBlocks (g ∷ gs) = IsBlock g × AreBlocks gs

at_most_front : {D : Type 0} (ts : ℕ) (front rest : List (Dated D)) → AreAtMost ts (front ++ rest) → AreAtMost ts front
at_most_front ts [] rest h = tt
at_most_front ts (d ∷ front) rest h = (h.0, at_most_front ts front rest h.1)

one_block : {D : Type 0} (d : Dated D) → IsBlock (d ∷ [])
one_block d = record { some = omega arith; descending = (tt, tt) }

joined_blocks_by : {D : Type 0} (b : Bool) (d : Dated D) (g : List (Dated D)) (gs : List (List (Dated D))) → AreAtMost d.ts (flat_map (λ g. g) (g ∷ gs)) → AreBlocks (g ∷ gs) → AreBlocks (if b then (d ∷ g) ∷ gs else (d ∷ []) ∷ g ∷ gs)
joined_blocks_by true d g gs above h =
    (record { some = omega arith; descending = (at_most_front d.ts g (flat_map (λ g. g) gs) above, h.0.descending) }, h.1)
joined_blocks_by false d g gs above h = (one_block d, h)

joined_blocks : {D : Type 0} (k : ℕ) (d : Dated D) (gs : List (List (Dated D))) → AreAtMost d.ts (flat_map (λ g. g) gs) → AreBlocks gs → AreBlocks (joined k d gs)
joined_blocks k d [] above h = (one_block d, tt)
joined_blocks k d (g ∷ gs) above h = joined_blocks_by (nat_lt (length g) k) d g gs above h

-- groups of deltas in order make blocks
pub groups_blocks : {D : Type 0} (k : ℕ) (ds : List (Dated D)) → AreDescending ds → AreBlocks (groups k ds)
groups_blocks k [] h = tt
groups_blocks {D} k (d ∷ ds) h =
    let P : List (Dated D) → Type 0 = λ xs. AreAtMost d.ts xs in
    joined_blocks k d (groups k ds) (subst P (sym (groups_parts k ds)) h.0) (groups_blocks k ds h.1)
