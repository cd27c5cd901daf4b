-- Entries of one caller leave the transactions of the others.
use Rattle.std.proofs.Common.{◌≡◌, ℕ, List, [], ◌∷◌, ◌++◌, Bool, true, false, cond, filter, refl, sym, ap, subst, ◌∙◌, arith}
use Rattle.std.specs.Prelude.{nat_eq, option_map}
use Rattle.std.specs.List.{list_all}
use Rattle.std.proofs.lemmas.Bool.Decides.{nat_tests}
use Rattle.collector.specs.Whole.{own_of}
use Rattle.front_core.specs.Keeps.{StandsFor, open_in}
use Rattle.front_core.specs.declared.state.State.{State}
use Rattle.front_core.proofs.Stepping.{open_is}
use Rattle.world_model.specs.History.{Entry, run}
use Rattle.world_model.specs.Sending.{are_beside, is_beside, is_reading}
use Rattle.world_model.specs.World.{Start, Txn, start_world, txn_of}
use Rattle.world_model.proofs.Folds.{and_left_true, and_right_true, both_true}
use Rattle.world_model.proofs.Marks.{run-more}
use Rattle.world_model.proofs.Staying.{all_leave}

is_own : ℕ → Entry → Bool
is_own n e = nat_eq e.caller n

kept_pass : {X : Type 0} (p : X → Bool) (xs : List X) → list_all p (filter p xs) ≡ true
kept_pass p [] = refl
kept_pass p (x ∷ xs) = by (p x) refl (kept_pass p xs)
  where
    by : (b : Bool) → p x ≡ b → list_all p (filter p xs) ≡ true → list_all p (cond b (x ∷ filter p xs) (filter p xs)) ≡ true
    by true is rest = both_true _ _ is rest
    by false is rest = rest

all_of : (n : ℕ) (es : List Entry) → own_of n es ≡ es → list_all (λ (e : Entry). nat_eq e.caller n) es ≡ true
unfolding own_of
all_of n es h = subst (λ l. list_all (λ (e : Entry). nat_eq e.caller n) l ≡ true) h (kept_pass (λ (e : Entry). nat_eq e.caller n) es)

beside : (n c : ℕ) (es : List Entry) → nat_eq n c ≡ false → list_all (λ (e : Entry). nat_eq e.caller n) es ≡ true → are_beside false c es ≡ true
unfolding are_beside
beside n c [] other h = refl
beside n c (e ∷ es) other h =
    let apart : nat_eq e.caller c ≡ false = grind (arith, nat_tests, other, and_left_true (nat_eq e.caller n) _ h) in
    both_true (is_beside false c e) _ (ap (λ b. cond b (is_reading e.event) true) apart) (beside n c es other (and_right_true (nat_eq e.caller n) _ h))

-- another caller's transaction is open with the same start before and behind
pub other_stays : (s : Start) (old new : State) (es later : List Entry) (n c : ℕ) → StandsFor s old es → StandsFor s new (es ++ later) →
    own_of n later ≡ later → nat_eq n c ≡ false → open_in new c ≡ open_in old c
other_stays s old new es later n c before behind own other =
    sym (open_is new (run (start_world s) (es ++ later)) c behind.keeps)
    ∙ ap (λ w. option_map (λ (p : Txn). p.start) (txn_of w c)) (run-more (start_world s) es later)
    ∙ ap (option_map (λ (p : Txn). p.start)) (all_leave false (run (start_world s) es) later c (beside n c later other (all_of n later own)))
    ∙ open_is old (run (start_world s) es) c before.keeps
