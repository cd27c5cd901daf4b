-- The rows of all objects, found by their ids.
use Rattle.std.specs.Prelude.{◌≡◌, ℕ, ◌≤◌, ◌<◌, ◌+◌, ◌-◌, List, Bool, length, nat_lt, slice_index_or, slice_set, if◌then◌else◌}
use Rattle.front_core.specs.Rows.{ObjectRow, no_row}

-- the rows of one kind of objects, by number from the first on
pub record Numbered : Type 0 where
  pub first : ℕ
  pub rows : List ObjectRow

-- the number that the next object gets
abbrev pub next_of : Numbered → ℕ
next_of t = t.first + length t.rows

-- an object that isn't among them has none of anything
abbrev pub row_of : Numbered → ℕ → ObjectRow
row_of t n = if nat_lt n t.first then no_row else slice_index_or t.rows (n - t.first) no_row

abbrev pub HasRow : Numbered → ℕ → Type 0
HasRow t n = (t.first ≤ n) × (n < next_of t)

-- one row is another; no row is added where there is none
abbrev pub with_row : Numbered → ℕ → ObjectRow → Numbered
with_row t n r = if nat_lt n t.first then t else record t { rows = slice_set t.rows (n - t.first) r }
