-- Spans of instants.
use Rattle.std.specs.Prelude.{◌≡◌, ℕ, ◌+◌, ◌≤◌, Bool, ◌&&◌, nat_le}
use Rattle.tt_intervals.specs.declared.span.Span.{Span}

-- the instant t is in the span
abbrev pub IsIn : ℕ → Span → Type 0
IsIn t span = (span.first ≤ t) × (t ≤ span.last)

-- the same as a test
abbrev pub is_in : ℕ → Span → Bool
is_in t span = nat_le span.first t && nat_le t span.last

-- no instant is in both
abbrev pub AreApart : Span → Span → Type 0
AreApart a b = (t : ℕ) → IsIn t a → IsIn t b → ⊥

-- b begins at the instant behind a
abbrev pub Touches : Span → Span → Type 0
Touches a b = a.last + 1 ≡ b.first
