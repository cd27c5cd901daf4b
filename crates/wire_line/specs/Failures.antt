-- Why a call failed: a count of faults stands behind each failure.
use Rattle.std.specs.Prelude.{ℕ, ◌+◌, ◌-◌, ◌^◌, ◌≤◌, min, Result, OnErr}

-- a count went up, or has no room to go up: it stands at the largest number of 64 bits
abbrev pub Rose : ℕ → ℕ → Type 0
Rose before now = min (before + 1) (2 ^ 64 - 1) ≤ now

-- over a call the count of faults doesn't fall, and the call failed only where the count rose
pub record FailsByRise {T E : Type 0} (before now : ℕ) (result : Result T E) : Type 0 where
  pub never_falls : before ≤ now
  pub risen : OnErr result (Rose before now)
