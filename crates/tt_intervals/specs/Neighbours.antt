-- What holds of the elements of a list that stand side by side.
use Rattle.std.specs.Prelude.{⊤, List, [], ◌∷◌}

-- P holds of the first element, if there is one
abbrev pub OnFirst : {X : Type 0} → (X → Type 0) → List X → Type 0
OnFirst P [] = ⊤
OnFirst P (x ∷ xs) = P x

-- R holds of each element and the one behind it
abbrev pub AllNeighbours : {X : Type 0} → (X → X → Type 0) → List X → Type 0
AllNeighbours R [] = ⊤
AllNeighbours R (x ∷ xs) = OnFirst (R x) xs × AllNeighbours R xs
