-- Pieces of time, each a span with the value that there is at its instants, and the maximal runs of them.
-- Here `Same a b` is that the values a and b mean the same.
use Rattle.std.specs.Prelude.{◌≡◌, ℕ, ◌<◌, ⊤, Option, Some, None, List, [], ◌∷◌, if◌then◌else◌}
use Rattle.std.specs.List.{AllZip}
use Rattle.tt_intervals.specs.declared.span.Span.{Span}
use Rattle.tt_intervals.specs.Neighbours.{AllNeighbours}
use Rattle.tt_intervals.specs.Spans.{Touches, is_in}

-- the value at the instant t, if there is one
abbrev pub value_at : {T : Type 0} → ℕ → List (Span × T) → Option T
value_at t [] = None
value_at t (piece ∷ pieces) = if is_in t piece.0 then Some piece.1 else value_at t pieces

-- nothing in both, or values that mean the same
abbrev pub MeanSame : {T : Type 0} → (T → T → Type 0) → Option T → Option T → Type 0
MeanSame Same None None = ⊤
MeanSame Same None (Some b) = ⊥
MeanSame Same (Some a) None = ⊥
MeanSame Same (Some a) (Some b) = Same a b

-- at each instant the two lists have values that mean the same, or both nothing
abbrev pub SameValues : {T : Type 0} → (T → T → Type 0) → List (Span × T) → List (Span × T) → Type 0
SameValues Same old new = (t : ℕ) → MeanSame Same (value_at t old) (value_at t new)

-- the first ends before the second begins
abbrev pub EndsBefore : {T : Type 0} → Span × T → Span × T → Type 0
EndsBefore a b = a.0.last < b.0.first

-- the pieces stand in the order of time, and no instant is in two of them
abbrev pub Ascends : {T : Type 0} → List (Span × T) → Type 0
Ascends pieces = AllNeighbours EndsBefore pieces

-- the second goes on where the first ends, and means the same
abbrev pub Continues : {T : Type 0} → (T → T → Type 0) → Span × T → Span × T → Type 0
Continues Same a b = Touches a.0 b.0 × Same a.1 b.1

-- no piece continues the one before it
abbrev pub IsMaximal : {T : Type 0} → (T → T → Type 0) → List (Span × T) → Type 0
IsMaximal Same pieces = AllNeighbours (λ a b. ¬ Continues Same a b) pieces

-- the maximal runs of pieces
pub record AreMaximalRuns {T : Type 0} (Same : T → T → Type 0) (pieces runs : List (Span × T)) : Type 0 where
  pub values : SameValues Same pieces runs
  pub ascends : Ascends runs
  pub maximal : IsMaximal Same runs

-- the same spans in the same order, with values that mean the same
abbrev pub AreSameRuns : {T : Type 0} → (T → T → Type 0) → List (Span × T) → List (Span × T) → Type 0
AreSameRuns Same xs ys = AllZip (λ x y. (x.0 ≡ y.0) × Same x.1 y.1) xs ys
