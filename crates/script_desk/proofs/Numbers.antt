-- One session's transaction changes, and the others' stay.
use Rattle.std.proofs.Common.{◌≡◌, ℕ, zero, suc, List, [], ◌∷◌, Option, None, Bool, true, false, cond, refl, arith}
use Rattle.std.specs.Prelude.{nat_eq}
use Rattle.std.specs.Str.{bytes_eq}
use Rattle.std.proofs.lemmas.Bool.Decides.{nat_tests}
use Rattle.script_desk.specs.Roll.{Roll, number_of, running_at, running_of, with_running}

-- no session has a number, so none has a transaction
none_at : (c : ℕ) → running_at c [] ≡ None
none_at c = refl

-- the session itself
pub its_own : (name : List ℕ) (v : Option ℕ) (r : Roll) → running_at (number_of name r) (with_running name v r) ≡ v
its_own name v [] = refl
its_own name v (e ∷ r) = by (bytes_eq name e.0) (its_own name v r)
  where
    by : (b : Bool) → running_at (number_of name r) (with_running name v r) ≡ v
        → running_at (cond b zero (suc (number_of name r))) (cond b ((e.0, v) ∷ r) (e ∷ with_running name v r)) ≡ v
    by true rest = refl
    by false rest = rest

-- any other one
pub of_another : (c : ℕ) (name : List ℕ) (v : Option ℕ) (r : Roll) → nat_eq (number_of name r) c ≡ false → running_at c (with_running name v r) ≡ running_at c r
of_another zero name v [] h = absurd cc
of_another (suc c) name v [] h = refl
of_another zero name v (e ∷ r) h = by (bytes_eq name e.0) h
  where
    by : (b : Bool) → nat_eq (cond b zero (suc (number_of name r))) zero ≡ false
        → running_at zero (cond b ((e.0, v) ∷ r) (e ∷ with_running name v r)) ≡ e.1
    by true k = absurd cc
    by false k = refl
of_another (suc c) name v (e ∷ r) h = by (bytes_eq name e.0) (of_another c name v r) h
  where
    by : (b : Bool) → (nat_eq (number_of name r) c ≡ false → running_at c (with_running name v r) ≡ running_at c r)
        → nat_eq (cond b zero (suc (number_of name r))) (suc c) ≡ false
        → running_at (suc c) (cond b ((e.0, v) ∷ r) (e ∷ with_running name v r)) ≡ running_at c r
    by true rest k = refl
    by false rest k = rest (grind (arith, nat_tests, k))

-- by its number, as by its name
pub running_here : (name : List ℕ) (r : Roll) → running_at (number_of name r) r ≡ running_of name r
running_here name [] = refl
running_here name (e ∷ r) = by (bytes_eq name e.0) (running_here name r)
  where
    by : (b : Bool) → running_at (number_of name r) r ≡ running_of name r
        → running_at (cond b zero (suc (number_of name r))) (e ∷ r) ≡ cond b e.1 (running_of name r)
    by true rest = refl
    by false rest = rest
