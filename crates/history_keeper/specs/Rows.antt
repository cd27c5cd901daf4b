-- The rows of a keeper: for each object its blocks, the oldest first, and its cut.
use Rattle.std.specs.Prelude.{ℕ, Bool, nat_lt, Option, unwrap_or, List, [], ◌++◌, find, slice_get}
use Rattle.std.specs.List.{list_any}
use Rattle.anchor_store.specs.Blocks.{BlockParts, history_of, staying}
use Rattle.anchor_store.specs.Groups.{AreDescending}

-- the blocks of an object, the oldest first, and the cut, before which its deltas stand in blocks
pub record RowParts (O D : Type 0) : Type 0 where
  pub cut : ℕ
  pub blocks : List (BlockParts O D)

-- a row at first
abbrev pub empty_row : {O D : Type 0} → RowParts O D
empty_row = record { cut = 0; blocks = [] }

-- the row of a number, which is empty where none was added
abbrev pub row_of : {O D : Type 0} → List (RowParts O D) → ℕ → RowParts O D
row_of rows row = unwrap_or (slice_get rows row) empty_row

-- whether a block has a delta that was committed after the instant t
abbrev pub has_later : {O D : Type 0} → ℕ → BlockParts O D → Bool
has_later t block = list_any (λ d. nat_lt t d.ts) block.deltas

-- the oldest block that has such a delta
abbrev pub located : {O D : Type 0} → ℕ → List (BlockParts O D) → Option (BlockParts O D)
located t blocks = find (λ block. has_later t block) blocks

-- from the newest delta of the newest block to the oldest of the oldest one the timestamps don't ascend
abbrev pub AreInOrder : {O D : Type 0} → List (BlockParts O D) → Type 0
AreInOrder blocks = AreDescending (history_of blocks)

-- a row with new blocks behind those that stay, and a new cut
abbrev pub extended : {O D : Type 0} → Bool → List (BlockParts O D) → ℕ → RowParts O D → RowParts O D
extended replaces added cut row = record { cut = cut; blocks = staying replaces row.blocks ++ added }
