-- One thing after the other.
use Rattle.std.specs.Prelude.{List, [], ◌∷◌, Ok}
use Rattle.expr_eval.specs.Outcome.{Outcome, and_then}

-- each in turn, on what those before it left
abbrev pub over : {S A : Type 0} → (S → A → Outcome S) → S → List A → Outcome S
over f s [] = Ok s
over f s (x ∷ xs) = and_then (f s x) (λ t. over f t xs)
