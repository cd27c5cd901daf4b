-- Lists of names.
use Rattle.std.specs.Prelude.{ℕ, Bool, List, [], ◌∷◌, ◌++◌, fold, if◌then◌else◌}
use Rattle.std.specs.List.{list_any}
use Rattle.std.specs.Str.{bytes_eq}

-- a name is among names
abbrev pub has : List (List ℕ) → List ℕ → Bool
has names name = list_any (λ n. bytes_eq n name) names

-- a name behind names that don't have it
abbrev pub add : List (List ℕ) → List ℕ → List (List ℕ)
add names name = if has names name then names else names ++ name ∷ []

abbrev pub add_all : List (List ℕ) → List (List ℕ) → List (List ℕ)
add_all names more = fold add names more
