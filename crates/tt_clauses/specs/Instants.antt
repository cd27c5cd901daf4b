-- The instants of a span.
use Rattle.std.specs.Prelude.{ℕ, ◌+◌, ◌-◌, zero, suc, List, [], ◌∷◌}
use Rattle.std.proofs.Common.{le_refl}
use Rattle.tt_intervals.specs.declared.span.Span.{Span}

-- so many instants from one on, in the order of time
abbrev pub instants_from : ℕ → ℕ → List ℕ
instants_from t zero = []
instants_from t (suc n) = t ∷ instants_from (t + 1) n

-- the instants from the first to the last, both among them
abbrev pub instants : ℕ → ℕ → List ℕ
instants first last = instants_from first (last + 1 - first)

-- the span of one instant
abbrev pub instant : ℕ → Span
instant t = record { first = t; last = t; ordered = le_refl t }
