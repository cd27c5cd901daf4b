-- What stays of blocks without the newest, and what that one had.
use Rattle.std.proofs.Common.{◌≡◌, ◌+◌, ◌-◌, ◌<◌, true, Option, Some, None, List, [], ◌∷◌, ◌++◌, length, take, refl, sym, ap, ◌∙◌, arith}
use Rattle.std.proofs.lemmas.List.{length-append, take_more}
use Rattle.std.proofs.lemmas.List.Sums.{sum_by-append}
use Rattle.std.proofs.lemmas.Option.{get_or_from_slice_get, slice_get-get_or, slice_get_within}
use Rattle.std.proofs.Math.Seq.{take-length}
use Rattle.anchor_store.specs.Blocks.{BlockParts, newest_of, staying}
use Rattle.history_keeper.specs.Counted.{delta_count}

-- the newest stands behind those that stay
pub stays_before : {O D : Type 0} (blocks : List (BlockParts O D)) (b : BlockParts O D) → Some b ≡ newest_of blocks → blocks ≡ staying true blocks ++ b ∷ []
stays_before blocks b newest =
    let n = length blocks - 1 in
    let within : n < length blocks = slice_get_within blocks n b (sym newest) in
    let whole : n + 1 ≡ length blocks = omega arith in
    sym (take-length blocks) ∙ ap (λ m. take m blocks) (sym whole) ∙ take_more blocks n b within ∙ ap (λ x. take n blocks ++ x ∷ []) (get_or_from_slice_get blocks n b b (sym newest))

pub newest-deltas : {O D : Type 0} (blocks : List (BlockParts O D)) (b : BlockParts O D) → Some b ≡ newest_of blocks → length b.deltas + delta_count (staying true blocks) ≡ delta_count blocks
newest-deltas blocks b newest =
    let whole = ap (λ bs. delta_count bs) (stays_before blocks b newest) in
    let parts = sum_by-append (λ (block : BlockParts _ _). length block.deltas) (staying true blocks) (b ∷ []) in
    omega (arith, whole, parts)

pub newest-blocks : {O D : Type 0} (blocks : List (BlockParts O D)) (b : BlockParts O D) → Some b ≡ newest_of blocks → 1 + length (staying true blocks) ≡ length blocks
newest-blocks blocks b newest = omega (arith, ap length (stays_before blocks b newest), length-append (staying true blocks) (b ∷ []))

some_none : {X : Type 0} (x : X) (o : Option X) → o ≡ Some x → None ≡ o → ⊥
some_none x o some none = cc

-- where there is no newest, there is none
pub none_stays : {O D : Type 0} (blocks : List (BlockParts O D)) → None ≡ newest_of blocks → staying true blocks ≡ blocks
none_stays [] none = refl
none_stays (b ∷ blocks) none =
    absurd (some_none _ (newest_of (b ∷ blocks)) (slice_get-get_or (b ∷ blocks) (length (b ∷ blocks) - 1) b (omega arith)) none)
