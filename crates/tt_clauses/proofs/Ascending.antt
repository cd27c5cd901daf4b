-- Pieces of one instant each, in the order of time.
use Rattle.std.proofs.Common.{◌≡◌, ℕ, ◌+◌, List, [], ◌∷◌, ◌++◌, Option, Some, None, sym, subst, ◌∙◌, arith, le_refl}
use Rattle.std.proofs.lemmas.List.{append-nil}
use Rattle.tt_intervals.proofs.Pushing.{AscendsTo, ascends_to-push}
use Rattle.tt_clauses.specs.Found.{Piece, piece_at}
use Rattle.tt_clauses.specs.Instants.{instant}
use Rattle.tt_clauses.specs.Seen.{Rises}
use Rattle.tt_clauses.specs.Values.{Values}
use Rattle.tt_clauses.proofs.Times.{rises_wider}

pub no_pieces : (free : ℕ) (pieces : List Piece) → pieces ≡ [] → AscendsTo free pieces
no_pieces free pieces e = subst (λ (ps : List Piece). AscendsTo free ps) (sym e) (record { ascends = tt; ended = tt })

abbrev pub Ends : {X : Type 0} → List Piece → List (ℕ × X) → ℕ → Type 0
Ends pieces left next = (free : ℕ) × AscendsTo free pieces × Rises free left next

-- one more instant is past those of the pieces
pub ends_step : {X : Type 0} (pieces more : List Piece) (x : ℕ × X) (left : List (ℕ × X)) (next : ℕ) (values : Option Values) →
    Ends pieces (x ∷ left) next → more ≡ pieces ++ piece_at x.0 values → Ends more left next
ends_step pieces more x left next None h e = (
  h.0,
  subst (λ (ps : List Piece). AscendsTo h.0 ps) (sym (e ∙ append-nil pieces)) h.1,
  rises_wider h.0 (x.0 + 1) next next left (omega (arith, h.2.0)) (le_refl next) h.2.1,
)
ends_step pieces more x left next (Some v) h e = (
  x.0 + 1,
  ascends_to-push h.0 (x.0 + 1) pieces more (instant x.0, v) h.1 h.2.0 (omega arith) e,
  h.2.1,
)
