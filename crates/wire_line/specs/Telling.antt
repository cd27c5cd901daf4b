-- What a source or a sink tells of its bytes, from one moment to a later one. What is told once stays told.
use Rattle.std.specs.Prelude.{ℕ, ◌<◌, ◌≤◌, List, length, take, Option, Some, None, Result, MatchResult}
use Rattle.std.specs.Io.KnownBytes.{Keeps, Appends}

-- P of what was told before and is told after. Where nothing was told before, nothing is said.
abbrev pub WhereTold : (before after : Option (List ℕ)) → (List ℕ → List ℕ → Type 0) → Type 0
WhereTold None after P = Unit {0}
WhereTold (Some bytes) None P = ⊥
WhereTold (Some bytes) (Some bytes') P = P bytes bytes'

-- of a read: what came grows by the bytes that were given, and by nothing at a failure
abbrev pub ReadAdds : {E : Type 0} → (came came' : Option (List ℕ)) → Result ℕ E → (buf : List ℕ) → Type 0
ReadAdds came came' result buf = MatchResult result (λ n. Appends came came' (take n buf)) (λ _. Keeps came came')

-- of a write: at most the piece's length, and something of a piece that isn't empty
pub record IsShare (n : ℕ) (piece : List ℕ) : Type 0 where
  pub within : n ≤ length piece
  pub some : 0 < length piece → 0 < n
