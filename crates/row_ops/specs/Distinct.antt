-- What is there more than once, kept at its first place.
use Rattle.std.specs.Prelude.{Bool, List, [], ◌∷◌, ◌++◌, map, if◌then◌else◌}
use Rattle.std.specs.List.{list_any}
use Rattle.graph_value.specs.Value.{same_value}
use Rattle.graph_value.specs.declared.value.Value.{Value}
use Rattle.graph_value.specs.declared.value.Value.TheVariants as value
use Rattle.row_ops.specs.declared.made.Made.{Made}
use Rattle.row_ops.specs.Making.{starred}

-- those of which the key is neither the key of one before nor among these keys
abbrev pub firsts_on : {X : Type 0} → (X → Value) → List Value → List X → List X
firsts_on key keys [] = []
firsts_on key keys (x ∷ xs) =
    if list_any (same_value (key x)) keys then firsts_on key keys xs else x ∷ firsts_on key (keys ++ key x ∷ []) xs

-- those of which the key stands there the first time; null is the same as null
abbrev pub firsts : {X : Type 0} → (X → Value) → List X → List X
firsts key xs = firsts_on key [] xs

-- the values of the row that a projection gives, in order
abbrev pub whole : Bool → Made → Value
whole star made = value.List (map (λ column. column.1) (starred star made.before) ++ made.values)

abbrev pub distinct_of : Bool → Bool → List Made → List Made
distinct_of distinct star rows = if distinct then firsts (whole star) rows else rows
