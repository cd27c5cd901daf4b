-- How many deltas and blocks there are.
use Rattle.std.specs.Prelude.{ℕ, List, length, sum_by}
use Rattle.anchor_store.specs.Blocks.{BlockParts}
use Rattle.history_keeper.specs.Rows.{RowParts}
use Rattle.history_keeper.specs.declared.counts.Counts.{Counts}

-- the deltas of blocks
abbrev pub delta_count : {O D : Type 0} → List (BlockParts O D) → ℕ
delta_count blocks = sum_by (λ block. length block.deltas) blocks

-- the deltas and the blocks of all rows
abbrev pub counts_of : {O D : Type 0} → List (RowParts O D) → Counts
counts_of rows = record {
  deltas = sum_by (λ row. delta_count row.blocks) rows;
  blocks = sum_by (λ row. length row.blocks) rows;
}
