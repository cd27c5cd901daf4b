-- The histories of the objects of one kind, by number.
use Rattle.std.specs.Prelude.{◌≡◌, ℕ, ◌-◌, List, nat_eq, nat_lt, if◌then◌else◌}
use Rattle.graph_record.specs.declared.object.Object.{Object}
use Rattle.undo_delta.specs.declared.delta.Delta.{Delta}
use Rattle.history_keeper.specs.Rows.{RowParts, empty_row, row_of}

-- the rows of blocks, from the first number on
pub record NumberedHistories : Type 0 where
  pub first : ℕ
  pub rows : List (RowParts Object Delta)

-- an object that isn't among them has none
abbrev pub history_of : NumberedHistories → ℕ → RowParts Object Delta
history_of h n = if nat_lt n h.first then empty_row else row_of h.rows (n - h.first)

-- one history is another, and all else stays
abbrev pub IsMoved : NumberedHistories → NumberedHistories → ℕ → RowParts Object Delta → Type 0
IsMoved old new n r = (m : ℕ) → history_of new m ≡ (if nat_eq m n then r else history_of old m)
