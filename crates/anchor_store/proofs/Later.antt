-- The deltas that are later than an instant.
use Rattle.std.proofs.Common.{ℕ, ◌≤◌, Bool, true, false, nat_lt, List, [], ◌∷◌, length, take, if◌then◌else◌, arith}
use Rattle.std.proofs.lemmas.List.{length-take}
use Rattle.undo_law.specs.declared.dated.Dated.{Dated}
use Rattle.anchor_store.specs.Groups.{later}

later-le_by : {D : Type 0} (t : ℕ) (b : Bool) (d : Dated D) (ds : List (Dated D)) → length (later t ds) ≤ length ds → length (if b then d ∷ later t ds else later t ds) ≤ length (d ∷ ds)
later-le_by t true d ds rest = omega arith
later-le_by t false d ds rest = omega arith

-- they are no more than all
pub later-le : {D : Type 0} (t : ℕ) (ds : List (Dated D)) → length (later t ds) ≤ length ds
later-le t [] = omega arith
later-le t (d ∷ ds) = later-le_by t (nat_lt t d.ts) d ds (later-le t ds)

pub later_take-le : {D : Type 0} (t n : ℕ) (ds : List (Dated D)) → length (later t (take n ds)) ≤ length ds
later_take-le t n ds = omega (arith, later-le t (take n ds), length-take n ds)
