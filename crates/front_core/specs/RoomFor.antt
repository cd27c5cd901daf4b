-- How much room the deltas of a write take in a chain.
use Rattle.std.specs.Prelude.{ℕ, ◌+◌, Option, Some, None}
use Rattle.undo_delta.specs.declared.delta.Delta.{Delta}
use Rattle.undo_delta.specs.declared.delta.DeltaPair.{DeltaPair}

abbrev pub count_of : Option Delta → ℕ
count_of None = 0
count_of (Some d) = 1

abbrev pub delta_count : DeltaPair → ℕ
delta_count pair = count_of pair.first + count_of pair.second
