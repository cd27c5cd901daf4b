-- The pieces of a slice that is cut, while a loop goes over them.
use Rattle.std.proofs.Common.{◌≡◌, ◌<◌, ℕ, Bool, false, List, length, map, Option, Some, None}
use Rattle.std.specs.Slice.Iter as slice
use Rattle.std.specs.Iterator.{Yields}
use Rattle.std.specs.Fn.{CalledAt}
use Rattle.std.specs.List.{slice_split}
use Rattle.std.proofs.lemmas.Iterator.Consumers.{YieldsList-turn, YieldsList-end}
use Rattle.std.proofs.lemmas.Iterator.Splits.{YieldsList-from_slice_split}
use denote.Param.Members.{Mut}
use denote.Ref.{Bor}

-- one more piece: the list of all has more than those so far
pub pieces_turn : {F : Type 0} {g : Mut F (Bor ℕ × Unit {0}) Bool} (s t u : _) (xs : List (Bor (List ℕ))) → Yields (slice.split_steps g) s xs t
    → (p : ℕ → Bool) {f : F} (line : List ℕ) → slice.split_rest s ≡ line → slice.split_done s ≡ false → slice.split_callee s ≡ f
    → ((x : ℕ) (b : Bool) (q : F) → CalledAt g f x b q → (q ≡ f) × (b ≡ p x))
    → (r : Option (Bor (List ℕ))) (x : Bor (List ℕ)) → r ≡ Some x → slice.split_steps g t r u → length xs < length (slice_split p line)
pieces_turn {F} {g} s t u xs yields p line rest done callee called r x is step =
    (YieldsList-turn (YieldsList-from_slice_split g p line rest done callee called) xs t yields r u x is step).0

-- no more piece: those so far are all
pub pieces_end : {F : Type 0} {g : Mut F (Bor ℕ × Unit {0}) Bool} (s t u : _) (xs : List (Bor (List ℕ))) → Yields (slice.split_steps g) s xs t
    → (p : ℕ → Bool) {f : F} (line : List ℕ) → slice.split_rest s ≡ line → slice.split_done s ≡ false → slice.split_callee s ≡ f
    → ((x : ℕ) (b : Bool) (q : F) → CalledAt g f x b q → (q ≡ f) × (b ≡ p x))
    → (r : Option (Bor (List ℕ))) → r ≡ None → slice.split_steps g t r u → map (λ w. w.now) xs ≡ slice_split p line
pieces_end {F} {g} s t u xs yields p line rest done callee called r is step =
    (YieldsList-end (YieldsList-from_slice_split g p line rest done callee called) xs t yields r u is step).0
