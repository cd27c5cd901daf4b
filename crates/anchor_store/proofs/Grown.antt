-- What newer deltas change of the blocks that are there: no more than the newest, where that is smaller than the interval.
use Rattle.std.proofs.Common.{◌≡◌, ℕ, ◌-◌, ◌<◌, ◌≤◌, Bool, true, false, nat_lt, Option, Some, None, is_some, List, [], ◌∷◌, ◌++◌, length, take, reverse, if◌then◌else◌, slice_get, refl, sym, ap, ◌∙◌, subst, arith}
use Rattle.std.specs.List.{flat_map}
use Rattle.std.proofs.lemmas.Bool.{ltb-true, le-ltb}
use Rattle.std.proofs.lemmas.List.{append_assoc, append-nil, reverse-append, reverse-reverse, length-append}
use Rattle.std.proofs.lemmas.Grind.{flat_map-append}
use Rattle.std.proofs.lemmas.Option.{slice_get-get_or}
use Rattle.std.proofs.Math.Seq.{get_or-append_seam, take-append_seam}
use Rattle.undo_law.specs.declared.dated.Dated.{Dated}
use Rattle.undo_law.specs.Undone.{undone, deltas_of}
use Rattle.anchor_store.specs.Blocks.{AreAnchored, BlockParts, anchored, blocks, history_of, newest_of, older_deltas, smaller_than, staying}
use Rattle.anchor_store.specs.Groups.{AreFull, AreSized, joined, joined_all, groups}
use Rattle.anchor_store.proofs.Grouped.{joined_all-append, groups_parts, groups_alone, groups_so}

-- the newer deltas are undone first
pub undone-append : {O D : Type 0} (after : O → D → O) (x : O) (newer older : List (Dated D)) → undone after x (deltas_of (newer ++ older)) ≡ undone after (undone after x (deltas_of newer)) (deltas_of older)
undone-append after x [] older = refl
undone-append after x (d ∷ newer) older = undone-append after (after x d.delta) newer older

anchored-append : {O D : Type 0} (after : O → D → O) (x : O) (newer older : List (List (Dated D))) → anchored after x (newer ++ older) ≡ anchored after x newer ++ anchored after (undone after x (deltas_of (flat_map (λ g. g) newer))) older
anchored-append after x [] older = refl
anchored-append {O} {D} after x (g ∷ newer) older =
    let first : BlockParts O D = record { anchor = x; deltas = g } in
    let rest = flat_map (λ g. g) newer in
    ap (λ l. first ∷ l) (anchored-append after (undone after x (deltas_of g)) newer older) ∙ ap (λ y. first ∷ anchored after (undone after x (deltas_of g)) newer ++ anchored after y older) (sym (undone-append after x g rest))

anchored_deltas : {O D : Type 0} (after : O → D → O) (x : O) (gs : List (List (Dated D))) → flat_map (λ block. block.deltas) (anchored after x gs) ≡ flat_map (λ g. g) gs
anchored_deltas after x [] = refl
anchored_deltas after x (g ∷ gs) = ap (λ l. g ++ l) (anchored_deltas after (undone after x (deltas_of g)) gs)

-- the deltas of newer blocks stand before those of older ones
pub history-append : {O D : Type 0} (older newer : List (BlockParts O D)) → history_of (older ++ newer) ≡ history_of newer ++ history_of older
history-append older newer =
    ap (λ bs. flat_map (λ block. block.deltas) bs) (reverse-append older newer) ∙ flat_map-append (λ block. block.deltas) (reverse newer) (reverse older)

-- the deltas of the blocks are the deltas again
pub blocks_deltas : {O D : Type 0} (after : O → D → O) (k : ℕ) (x : O) (ds : List (Dated D)) → history_of (blocks after k x ds) ≡ ds
blocks_deltas after k x ds =
    ap (λ l. flat_map (λ block. block.deltas) l) (reverse-reverse (anchored after x (groups k ds))) ∙ anchored_deltas after x (groups k ds) ∙ groups_parts k ds

-- the newest group takes no more deltas
abbrev pub IsClosed : {D : Type 0} → ℕ → List (List (Dated D)) → Type 0
IsClosed k [] = Unit
IsClosed k (g ∷ gs) = nat_lt (length g) k ≡ false

joined_in_front_by : {D : Type 0} (b : Bool) (d : Dated D) (g : List (Dated D)) (gs hs : List (List (Dated D))) → (if b then (d ∷ g) ∷ (gs ++ hs) else (d ∷ []) ∷ g ∷ (gs ++ hs)) ≡ (if b then (d ∷ g) ∷ gs else (d ∷ []) ∷ g ∷ gs) ++ hs
joined_in_front_by true d g gs hs = refl
joined_in_front_by false d g gs hs = refl

joined_in_front : {D : Type 0} (k : ℕ) (d : Dated D) (gs hs : List (List (Dated D))) → IsClosed k hs → joined k d (gs ++ hs) ≡ joined k d gs ++ hs
joined_in_front k d [] [] closed = refl
joined_in_front k d [] (h ∷ hs) closed = rw closed refl
joined_in_front k d (g ∷ gs) hs closed = joined_in_front_by (nat_lt (length g) k) d g gs hs

joined_all_in_front : {D : Type 0} (k : ℕ) (ds : List (Dated D)) (gs hs : List (List (Dated D))) → IsClosed k hs → joined_all k ds (gs ++ hs) ≡ joined_all k ds gs ++ hs
joined_all_in_front k [] gs hs closed = refl
joined_all_in_front k (d ∷ ds) gs hs closed =
    ap (joined k d) (joined_all_in_front k ds gs hs closed) ∙ joined_in_front k d (joined_all k ds gs) hs closed

full_closed : {D : Type 0} (k : ℕ) (gs : List (List (Dated D))) → AreFull k gs → IsClosed k gs
full_closed k [] h = tt
full_closed k (g ∷ gs) h = let same : length g ≡ k = h.0 in le-ltb (length g) k (omega arith)

-- one group by itself
alone : {D : Type 0} (k : ℕ) (g : List (Dated D)) → 0 < length g → length g ≤ k → groups k g ≡ g ∷ []
alone k g some within = sym (groups_alone k g (g ∷ []) (append-nil g) (some, within, tt))

reverse-cons : {X : Type 0} (x : X) (xs : List X) → reverse (x ∷ xs) ≡ reverse xs ++ x ∷ []
reverse-cons x xs = reverse-append (x ∷ []) xs

one_less : {X : Type 0} (xs : List X) (x : X) → length (xs ++ x ∷ []) - 1 ≡ length xs
one_less xs x = omega (arith, length-append xs (x ∷ []))

newest-push : {O D : Type 0} (older : List (BlockParts O D)) (b : BlockParts O D) → newest_of (older ++ b ∷ []) ≡ Some b
newest-push older b =
    ap (λ n. slice_get (older ++ b ∷ []) n) (one_less older b) ∙ slice_get-get_or (older ++ b ∷ []) (length older) b (omega (arith, length-append older (b ∷ []))) ∙ ap (λ y. Some y) (get_or-append_seam older b [] b)

staying-push : {O D : Type 0} (older : List (BlockParts O D)) (b : BlockParts O D) → staying true (older ++ b ∷ []) ≡ older
staying-push older b = ap (λ n. take n (older ++ b ∷ [])) (one_less older b) ∙ take-append_seam older (b ∷ [])

-- groups in front of closed ones make blocks of their own
blocks_in_front : {O D : Type 0} (after : O → D → O) (k : ℕ) (x : O) (ds front : List (Dated D)) (hs : List (List (Dated D))) → groups k ds ≡ groups k front ++ hs → blocks after k x ds ≡ reverse (anchored after (undone after x (deltas_of front)) hs) ++ blocks after k x front
blocks_in_front after k x ds front hs same =
    let newer = anchored after x (groups k front) in
    let base = undone after x (deltas_of (flat_map (λ g. g) (groups k front))) in
    ap (λ gs. reverse (anchored after x gs)) same ∙ ap reverse (anchored-append after x (groups k front) hs) ∙ reverse-append newer (anchored after base hs) ∙ ap (λ ds. reverse (anchored after (undone after x (deltas_of ds)) hs) ++ reverse newer) (groups_parts k front)

-- the newest group of several, where it is smaller than the interval and where it isn't
grown_by : {O D : Type 0} (after : O → D → O) (k : ℕ) (x base : O) (newer history g : List (Dated D)) (gs : List (List (Dated D))) → base ≡ undone after x (deltas_of newer) → groups k history ≡ g ∷ gs → (b : Bool) → nat_lt (length g) k ≡ b → let block : BlockParts O D = record { anchor = base; deltas = g } in let filled : Option (BlockParts O D) = (if b then Some block else None) in blocks after k x (newer ++ history) ≡ staying (is_some filled) (reverse (anchored after base (g ∷ gs))) ++ blocks after k x (newer ++ older_deltas filled)
grown_by {O} {D} after k x base newer history g gs is whole true smaller =
    let below : length g < k = ltb-true (length g) k smaller in
    let P : List (List (Dated D)) → Type 0 = λ hs. AreSized k hs in
    let sized : AreSized k (g ∷ gs) = subst P whole (groups_so k history (omega arith)).sized in
    let joins : groups k (newer ++ history) ≡ groups k (newer ++ g) ++ gs = joined_all-append k newer history [] ∙ ap (joined_all k newer) whole ∙ joined_all_in_front k newer (g ∷ []) gs (full_closed k gs sized.2) ∙ ap (λ hs. joined_all k newer hs ++ gs) (sym (alone k g sized.0 sized.1)) ∙ ap (λ hs. hs ++ gs) (sym (joined_all-append k newer g [])) in
    let block : BlockParts O D = record { anchor = base; deltas = g } in
    let rest = anchored after (undone after base (deltas_of g)) gs in
    let stays : staying true (reverse (block ∷ rest)) ≡ reverse rest = ap (λ bs. staying true bs) (reverse-cons block rest) ∙ staying-push (reverse rest) block in
    let there : undone after x (deltas_of (newer ++ g)) ≡ undone after base (deltas_of g) = undone-append after x newer g ∙ ap (λ y. undone after y (deltas_of g)) (sym is) in
    blocks_in_front after k x (newer ++ history) (newer ++ g) gs joins ∙ ap (λ y. reverse (anchored after y gs) ++ blocks after k x (newer ++ g)) there ∙ ap (λ bs. bs ++ blocks after k x (newer ++ g)) (sym stays)
grown_by {O} {D} after k x base newer history g gs is whole false full =
    let joins : groups k (newer ++ history) ≡ groups k (newer ++ []) ++ (g ∷ gs) = joined_all-append k newer history [] ∙ ap (joined_all k newer) whole ∙ joined_all_in_front k newer [] (g ∷ gs) full ∙ ap (λ ds. groups k ds ++ (g ∷ gs)) (sym (append-nil newer)) in
    let there : undone after x (deltas_of (newer ++ [])) ≡ base = ap (λ ds. undone after x (deltas_of ds)) (append-nil newer) ∙ sym is in
    blocks_in_front after k x (newer ++ history) (newer ++ []) (g ∷ gs) joins ∙ ap (λ y. reverse (anchored after y (g ∷ gs)) ++ blocks after k x (newer ++ [])) there

grown_from : {O D : Type 0} (after : O → D → O) (k : ℕ) (x base : O) (newer history : List (Dated D)) (gs : List (List (Dated D))) → base ≡ undone after x (deltas_of newer) → groups k history ≡ gs → let before = reverse (anchored after base gs) in let filled = smaller_than k (newest_of before) in blocks after k x (newer ++ history) ≡ staying (is_some filled) before ++ blocks after k x (newer ++ older_deltas filled)
grown_from after k x base newer history [] is whole =
    ap (λ gs. reverse (anchored after x gs)) (joined_all-append k newer history [] ∙ ap (joined_all k newer) whole) ∙ ap (λ ds. blocks after k x ds) (sym (append-nil newer))
grown_from {O} {D} after k x base newer history (g ∷ gs) is whole =
    let block : BlockParts O D = record { anchor = base; deltas = g } in
    let rest = anchored after (undone after base (deltas_of g)) gs in
    let newest : newest_of (reverse (block ∷ rest)) ≡ Some block = ap (λ bs. newest_of bs) (reverse-cons block rest) ∙ newest-push (reverse rest) block in
    let P : Option (BlockParts O D) → Type 0 = λ last. blocks after k x (newer ++ history) ≡ staying (is_some (smaller_than k last)) (reverse (block ∷ rest)) ++ blocks after k x (newer ++ older_deltas (smaller_than k last)) in
    subst P (sym newest) (grown_by after k x base newer history g gs is whole (nat_lt (length g) k) refl)

-- newer deltas change the newest block alone, where that is smaller than the interval
pub blocks_grown : {O D : Type 0} (after : O → D → O) (k : ℕ) (x : O) (newer history : List (Dated D)) → let before = blocks after k (undone after x (deltas_of newer)) history in let filled = smaller_than k (newest_of before) in blocks after k x (newer ++ history) ≡ staying (is_some filled) before ++ blocks after k x (newer ++ older_deltas filled)
blocks_grown after k x newer history =
    grown_from after k x (undone after x (deltas_of newer)) newer history (groups k history) refl refl

first_same : {X : Type 0} (x y : X) (xs ys : List X) → x ∷ xs ≡ y ∷ ys → x ≡ y
first_same x y xs ys h = cc

others_same : {X : Type 0} (x y : X) (xs ys : List X) → x ∷ xs ≡ y ∷ ys → xs ≡ ys
others_same x y xs ys h = cc

anchor_behind : {O D : Type 0} (after : O → D → O) (x : O) (gs : List (List (Dated D))) (front rest : List (BlockParts O D)) (b : BlockParts O D) → anchored after x gs ≡ front ++ b ∷ rest → b.anchor ≡ undone after x (deltas_of (flat_map (λ block. block.deltas) front))
anchor_behind after x [] [] rest b parted = absurd (cc)
anchor_behind after x [] (y ∷ front) rest b parted = absurd (cc)
anchor_behind {O} {D} after x (g ∷ gs) [] rest b parted =
    let first : BlockParts O D = record { anchor = x; deltas = g } in
    sym (ap (λ (c : BlockParts O D). c.anchor) (first_same first b (anchored after (undone after x (deltas_of g)) gs) rest parted))
anchor_behind {O} {D} after x (g ∷ gs) (y ∷ front) rest b parted =
    let first : BlockParts O D = record { anchor = x; deltas = g } in
    let behind = anchored after (undone after x (deltas_of g)) gs in
    let here : g ≡ y.deltas = ap (λ (c : BlockParts O D). c.deltas) (first_same first y behind (front ++ b ∷ rest) parted) in
    let deltas = flat_map (λ block. block.deltas) front in
    anchor_behind after (undone after x (deltas_of g)) gs front rest b (others_same first y behind (front ++ b ∷ rest) parted) ∙ sym (undone-append after x g deltas) ∙ ap (λ ds. undone after x (deltas_of (ds ++ deltas))) here

-- the anchor of a block is the object with all deltas of newer blocks undone
pub blocks_anchored : {O D : Type 0} (after : O → D → O) (k : ℕ) (x : O) (ds : List (Dated D)) → AreAnchored after x (blocks after k x ds)
blocks_anchored after k x ds older newer b parted =
    let whole = anchored after x (groups k ds) in
    let turned = sym (reverse-reverse whole) ∙ ap reverse parted ∙ reverse-append older (b ∷ newer) ∙ ap (λ bs. bs ++ reverse older) (reverse-cons b newer) ∙ append_assoc (reverse newer) (b ∷ []) (reverse older) in
    anchor_behind after x (groups k ds) (reverse newer) (reverse older) b turned
