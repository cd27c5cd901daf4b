-- The parts of a chain, the newest entry first, and what they say of the object's older states.
-- Here `after x d` is the object x after the delta d.
use Rattle.std.specs.Prelude.{◌≡◌, ℕ, Bool, false, Option, Some, None, List, [], ◌∷◌, map, filter}
use Rattle.std.specs.List.{filter_map, prefix_len}
use Rattle.undo_law.specs.Undone.{undone}
use Rattle.undo_law.specs.declared.dated.Dated.{Dated}
use Rattle.version_chain.specs.declared.entry.Entry.{Entry}
use Rattle.version_chain.specs.Entry.{is_open, is_after, is_before, is_not_before, dated}
use Rattle.version_chain.specs.Order.{IsInOrder}

-- the entries of a chain, and for how many more there is room
pub record Entries (D : Type 0) : Type 0 where
  pub entries : List (Entry D)
  pub room : ℕ

abbrev pub deltas_of : {D : Type 0} → List (Entry D) → List D
deltas_of entries = map (λ e. e.delta) entries

abbrev pub stamps_of : {D : Type 0} → List (Entry D) → List (Option ℕ)
stamps_of entries = map (λ e. e.stamp) entries

-- the timestamps of the committed entries
abbrev pub timestamps_of : {D : Type 0} → List (Entry D) → List ℕ
timestamps_of entries = filter_map (λ e. e.stamp) entries

abbrev pub is_newest_open : {D : Type 0} → List (Entry D) → Bool
is_newest_open [] = false
is_newest_open (e ∷ older) = is_open e

-- the first of the timestamps, if there is one
abbrev pub first_of : List ℕ → Option ℕ
first_of [] = None
first_of (ts ∷ older) = Some ts

-- the object as it was at the instant t: the open entries and the later ones are undone
abbrev pub version : {O D : Type 0} → (O → D → O) → O → List (Entry D) → ℕ → O
version after newest entries t = undone after newest (deltas_of (filter (is_after t) entries))

-- the object after the newest entry of those that were committed before the mark: all others are undone
abbrev pub object_before : {O D : Type 0} → (O → D → O) → O → List (Entry D) → ℕ → O
object_before after newest entries mark = undone after newest (deltas_of (filter (is_not_before mark) entries))

-- the entries that were committed before the mark, with their timestamps
abbrev pub dated_before : {D : Type 0} → List (Entry D) → ℕ → List (Dated D)
dated_before entries mark = filter_map dated (filter (is_before mark) entries)

-- what every chain keeps: its order, and how many open entries stand at its front
pub record IsChain {D : Type 0} (open_count : ℕ) (entries : List (Entry D)) : Type 0 where
  pub in_order : IsInOrder entries
  pub counted : open_count ≡ prefix_len is_open entries
