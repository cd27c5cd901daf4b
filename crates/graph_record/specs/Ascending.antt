-- The forms that the lists of a record keep: in order, and nothing twice.
use Rattle.std.specs.Prelude.{ℕ, List, [], ◌∷◌, Bool, true, ◌&&◌, IsTrue}
use Rattle.std.specs.List.{list_all}
use Rattle.std.specs.FinMap.{is_sorted}
use Rattle.std.specs.Ordering.{nat_cmp, is_lt}
use Rattle.std.specs.declared.cmp.Ordering.{Ordering}
use Rattle.graph_value.specs.Name.{name_cmp}
use Rattle.graph_value.specs.declared.id.EdgeId.{EdgeId}
use Rattle.graph_value.specs.declared.value.Value.{Value}

-- each element is below all that come after it
abbrev pub is_ascending : {A : Type 0} → (A → A → Ordering) → List A → Bool
is_ascending R [] = true
is_ascending R (x ∷ xs) = list_all (λ y. is_lt (R x y)) xs && is_ascending R xs

-- edges are ordered by their numbers
abbrev pub edge_cmp : EdgeId → EdgeId → Ordering
edge_cmp a b = nat_cmp a.0 b.0

abbrev pub IsAscendingIds : List EdgeId → Type 0
IsAscendingIds ids = IsTrue (is_ascending edge_cmp ids)

abbrev pub IsAscendingNames : List (List ℕ) → Type 0
IsAscendingNames names = IsTrue (is_ascending name_cmp names)

-- the names rise, so each stands once
abbrev pub IsAscendingProperties : List (List ℕ × Value) → Type 0
IsAscendingProperties props = IsTrue (is_sorted name_cmp props)
