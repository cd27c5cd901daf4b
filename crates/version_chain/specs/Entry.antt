-- One entry of a chain, and what its timestamp says of it.
use Rattle.std.specs.Prelude.{ℕ, Bool, true, false, not, nat_lt, Option, Some, None, is_none, unwrap_or}
use Rattle.std.specs.Option.{option_map}
use Rattle.undo_law.specs.declared.dated.Dated.{Dated}
use Rattle.version_chain.specs.declared.entry.Entry.{Entry}

-- a delta of a transaction that hasn't ended
abbrev pub open_entry : {D : Type 0} → D → Entry D
open_entry d = record { stamp = None; delta = d }

abbrev pub is_open : {D : Type 0} → Entry D → Bool
is_open e = is_none e.stamp

abbrev pub is_committed : {D : Type 0} → Entry D → Bool
is_committed e = not (is_open e)

-- what has no timestamp counts as later than every instant
abbrev pub is_stamp_after : ℕ → Option ℕ → Bool
is_stamp_after t None = true
is_stamp_after t (Some ts) = nat_lt t ts

abbrev pub is_stamp_before : ℕ → Option ℕ → Bool
is_stamp_before mark None = false
is_stamp_before mark (Some ts) = nat_lt ts mark

-- open, or committed after the instant t
abbrev pub is_after : {D : Type 0} → ℕ → Entry D → Bool
is_after t e = is_stamp_after t e.stamp

-- committed before the mark
abbrev pub is_before : {D : Type 0} → ℕ → Entry D → Bool
is_before mark e = is_stamp_before mark e.stamp

abbrev pub is_not_before : {D : Type 0} → ℕ → Entry D → Bool
is_not_before mark e = not (is_before mark e)

-- an open entry gets the timestamp, a committed one keeps its own
abbrev pub stamped : {D : Type 0} → ℕ → Entry D → Entry D
stamped ts e = record { stamp = Some (unwrap_or e.stamp ts); delta = e.delta }

-- the delta with its timestamp, where it has one
abbrev pub dated : {D : Type 0} → Entry D → Option (Dated D)
dated e = option_map (λ ts. record { ts = ts; delta = e.delta }) e.stamp
