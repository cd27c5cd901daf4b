-- Pieces that are put together from the first to the last.
use Rattle.std.proofs.Common.{◌≡◌, ℕ, ◌<◌, ◌≤◌, List, [], ◌∷◌, ◌++◌, sym, subst, arith}
use Rattle.std.specs.Prelude.{⊤}
use Rattle.tt_intervals.specs.declared.span.Span.{Span}
use Rattle.tt_intervals.specs.Neighbours.{AllNeighbours}
use Rattle.tt_intervals.specs.Runs.{Ascends, EndsBefore}

-- P holds of the last element, if there is one
abbrev OnLast : {X : Type 0} → (X → Type 0) → List X → Type 0
OnLast P [] = ⊤
OnLast P (x ∷ []) = P x
OnLast P (x ∷ y ∷ xs) = OnLast P (y ∷ xs)

module _ {X : Type 0} where
  on_last-push : (P : X → Type 0) (xs : List X) (x : X) → P x → OnLast P (xs ++ x ∷ [])
  on_last-push P [] x h = h
  on_last-push P (y ∷ []) x h = h
  on_last-push P (y ∷ z ∷ xs) x h = on_last-push P (z ∷ xs) x h

  on_last_weaker : (P Q : X → Type 0) → ((x : X) → P x → Q x) → (xs : List X) → OnLast P xs → OnLast Q xs
  on_last_weaker P Q f [] h = tt
  on_last_weaker P Q f (x ∷ []) h = f x h
  on_last_weaker P Q f (x ∷ y ∷ xs) h = on_last_weaker P Q f (y ∷ xs) h

  neighbours-push : (R : X → X → Type 0) (xs : List X) (x : X) → AllNeighbours R xs → OnLast (λ y. R y x) xs → AllNeighbours R (xs ++ x ∷ [])
  neighbours-push R [] x h l = (tt, tt)
  neighbours-push R (y ∷ []) x h l = (l, (tt, tt))
  neighbours-push R (y ∷ z ∷ xs) x h l = (h.0, neighbours-push R (z ∷ xs) x h.1 l)

-- the pieces ascend, and from the instant `free` on there is none of them
pub record AscendsTo {T : Type 0} (free : ℕ) (pieces : List (Span × T)) : Type 0 where
  pub ascends : Ascends pieces
  pub ended : OnLast (λ piece. piece.0.last < free) pieces

pub ascends_to-push : {T : Type 0} (free next : ℕ) (pieces pushed : List (Span × T)) (piece : Span × T) → AscendsTo free pieces → free ≤ piece.0.first → piece.0.last < next → pushed ≡ pieces ++ piece ∷ [] → AscendsTo next pushed
ascends_to-push free next pieces pushed piece h a b e =
    subst (λ all. AscendsTo next all) (sym e) (record {
      ascends = neighbours-push EndsBefore pieces piece h.ascends (on_last_weaker (λ before. before.0.last < free) (λ before. EndsBefore before piece) (λ before l. omega (arith, a, l)) pieces h.ended);
      ended = on_last-push (λ last. last.0.last < next) pieces piece b;
    })
