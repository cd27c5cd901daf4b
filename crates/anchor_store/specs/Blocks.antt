-- The blocks of an object's history. Here `after x d` is the object x after the delta d.
use Rattle.std.specs.Prelude.{◌≡◌, ◌++◌, ℕ, ◌<◌, ◌-◌, Bool, nat_lt, Option, Some, None, List, [], ◌∷◌, if◌then◌else◌, length, reverse, slice_get, take}
use Rattle.std.specs.List.{flat_map}
use Rattle.undo_law.specs.Undone.{undone, deltas_of}
use Rattle.undo_law.specs.declared.dated.Dated.{Dated}
use Rattle.anchor_store.specs.Groups.{AreDescending, groups, later}

-- an object, and the deltas that lead back from it, the newest first
pub record BlockParts (O D : Type 0) : Type 0 where
  pub anchor : O
  pub deltas : List (Dated D)

-- the deltas of a block, none where there is none
abbrev pub older_deltas : {O D : Type 0} → Option (BlockParts O D) → List (Dated D)
older_deltas None = []
older_deltas (Some block) = block.deltas

-- a block has a delta, and its timestamps don't ascend
pub record IsBlock {D : Type 0} (deltas : List (Dated D)) : Type 0 where
  pub some : 0 < length deltas
  pub descending : AreDescending deltas

-- the object as it was at the instant t: the later deltas are undone
abbrev pub version : {O D : Type 0} → (O → D → O) → BlockParts O D → ℕ → O
version after block t = undone after block.anchor (deltas_of (later t block.deltas))

-- Each group with its anchor, the newest first: the object with all deltas of newer groups undone.
abbrev pub anchored : {O D : Type 0} → (O → D → O) → O → List (List (Dated D)) → List (BlockParts O D)
anchored after newest [] = []
anchored after newest (g ∷ gs) = (record { anchor = newest; deltas = g }) ∷ anchored after (undone after newest (deltas_of g)) gs

-- the blocks of deltas that lead back from an object, the oldest first
abbrev pub blocks : {O D : Type 0} → (O → D → O) → ℕ → O → List (Dated D) → List (BlockParts O D)
blocks after k newest ds = reverse (anchored after newest (groups k ds))

-- the newest of blocks, of which the oldest stands first
abbrev pub newest_of : {O D : Type 0} → List (BlockParts O D) → Option (BlockParts O D)
newest_of blocks = slice_get blocks (length blocks - 1)

-- the block, where it is smaller than the interval k
abbrev pub smaller_than : {O D : Type 0} → ℕ → Option (BlockParts O D) → Option (BlockParts O D)
smaller_than k None = None
smaller_than k (Some block) = if nat_lt (length block.deltas) k then Some block else None

-- what stays of blocks where the newest may be replaced
abbrev pub staying : {O D : Type 0} → Bool → List (BlockParts O D) → List (BlockParts O D)
staying replaces blocks = if replaces then take (length blocks - 1) blocks else blocks

-- all deltas of blocks, of which the oldest stands first; the newest delta first
abbrev pub history_of : {O D : Type 0} → List (BlockParts O D) → List (Dated D)
history_of blocks = flat_map (λ block. block.deltas) (reverse blocks)

-- the anchor of each block is the object with all deltas of newer blocks undone; the oldest block stands first
abbrev pub AreAnchored : {O D : Type 0} → (O → D → O) → O → List (BlockParts O D) → Type 0
AreAnchored {O} {D} after newest blocks = (older newer : List (BlockParts O D)) (b : BlockParts O D) → blocks ≡ older ++ b ∷ newer → b.anchor ≡ undone after newest (deltas_of (history_of newer))
