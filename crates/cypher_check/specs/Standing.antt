-- What holds of the names of a query against which no rule speaks.
use Rattle.std.specs.Prelude.{◌≡◌, ℕ, true, false, List, [], ◌∷◌}
use Rattle.cypher_check.specs.Names.{has}
use Rattle.cypher_check.specs.Marks.{Mark, Uses, Misplaced}

-- each name stands there once
abbrev pub AreDistinct : List (List ℕ) → Type 0
AreDistinct [] = Unit {0}
AreDistinct (name ∷ names) = (has names name ≡ false) × AreDistinct names

-- each name that is used is in scope, and no aggregate stands where none may
abbrev pub AllStand : List (List ℕ) → List Mark → Type 0
AllStand scope [] = Unit {0}
AllStand scope (Uses name ∷ marks) = (has scope name ≡ true) × AllStand scope marks
AllStand scope (Misplaced ∷ marks) = ⊥
