-- Small tables whose answers are known.
use Rattle.std.proofs.Common.{◌≡◌, ℕ, true, false, [], ◌∷◌, Some, refl}
use Rattle.std.specs.Prelude.{nat_lt}
use Rattle.graph_value.specs.declared.value.Value.TheVariants as value
use Rattle.row_ops.specs.Making.{starred}
use Rattle.row_ops.specs.Projecting.{skipped, limited_to}
use Rattle.row_ops.specs.Sorting.{in_order}
use Rattle.row_ops.specs.Unwinding.{has_room, with_name}

-- a table has a million rows, and no more
full : has_room 1000000 ≡ true
full = refl

too_full : has_room 1000001 ≡ false
too_full = refl

-- a new name stands behind the others
last_name : with_name ((1 ∷ [], value.Null) ∷ []) (2 ∷ []) (value.Bool true) ≡ (1 ∷ [], value.Null) ∷ (2 ∷ [], value.Bool true) ∷ []
last_name = refl

-- in order by the first of each pair; those that tie stay
in_turn : in_order (λ (p q : ℕ × ℕ). nat_lt p.0 q.0) ((2, 0) ∷ (1, 1) ∷ (2, 2) ∷ (1, 3) ∷ []) ≡ (1, 1) ∷ (1, 3) ∷ (2, 0) ∷ (2, 2) ∷ []
in_turn = refl

-- LIMIT counts behind SKIP
second : limited_to {X = ℕ} (Some 1) (skipped {X = ℕ} (Some 1) (7 ∷ 8 ∷ 9 ∷ [])) ≡ 8 ∷ []
second = refl

none_left : skipped {X = ℕ} (Some 5) (7 ∷ 8 ∷ []) ≡ []
none_left = refl

no_star : starred false ((1 ∷ [], value.Null) ∷ []) ≡ []
no_star = refl
