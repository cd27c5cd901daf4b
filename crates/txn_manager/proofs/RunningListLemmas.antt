-- Where a caller's transaction stands in the list, and what is left without it.
use Rattle.std.proofs.Common.{inl, inr, ◌≡◌, ◌≢◌, ℕ, suc, zero, ◌+◌, ◌<◌, Bool, true, false, cond, ◌==◌, Option, Some, None, List, [], ◌∷◌, length, get_or, min, refl, ap, sym, ◌∙◌, arith, IsSome}
use Rattle.std.specs.List.{position, position_from, remove, fold, AllPairs}
use Rattle.std.specs.Prelude.{slice_get}
use Rattle.std.proofs.lemmas.Bool.{eqb-true, eq-eqb}
use Rattle.std.proofs.lemmas.Bool.Decides.{eqb_tells}
use Rattle.std.proofs.lemmas.Iterator.Adapters.{position_from-zero}
use Rattle.std.proofs.lemmas.List.Quantifiers.{position-Some}
use Rattle.std.proofs.lemmas.List.Edits.{length-remove}
use Rattle.txn_manager.specs.RunningList.{start_of, without}
use Rattle.txn_manager.specs.Transactions.{least_start}
use Rattle.txn_manager.specs.declared.running.Running.{Running}

-- different numbers do not pass the test
pub differ-false : (a b : ℕ) → a ≢ b → (a == b) ≡ false
differ-false a b ne = elim (eqb_tells a b) [ inl e ↦ absurd (ne e.1) | inr e ↦ e.0 ]

no_place_step : (b : Bool) (i start : ℕ) (places starts : Option ℕ) → (places ≡ None → starts ≡ None) → cond b (Some i) places ≡ None → cond b (Some start) starts ≡ None
no_place_step true i start places starts rest e = cc
no_place_step false i start places starts rest e = rest e

no_place_from : (caller i : ℕ) (ts : List Running) → position_from (λ t. t.caller == caller) i ts ≡ None → start_of ts caller ≡ None
no_place_from caller i [] e = refl
no_place_from caller i (t ∷ ts) e =
    no_place_step (t.caller == caller) i t.start (position_from (λ u. u.caller == caller) (i + 1) ts) (start_of ts caller) (no_place_from caller (i + 1) ts) e

-- a caller that stands nowhere has no start
pub start_of-no_place : (caller : ℕ) (ts : List Running) → position (λ t. t.caller == caller) ts ≡ None → start_of ts caller ≡ None
start_of-no_place caller ts e = no_place_from caller 0 ts (sym (position_from-zero (λ t. t.caller == caller) ts) ∙ e)

some_of : (o : Option ℕ) → (o ≡ None → ⊥) → IsSome o
some_of None differs = absurd (differs refl)
some_of (Some x) differs = refl

none_not_some : (o : Option ℕ) → o ≡ None → IsSome o → ⊥
none_not_some None e some = cc
none_not_some (Some x) e some = cc

-- a caller that has a start stands somewhere
pub place_from_start : (caller : ℕ) (ts : List Running) → IsSome (start_of ts caller) → IsSome (position (λ t. t.caller == caller) ts)
place_from_start caller ts some =
    some_of (position (λ t. t.caller == caller) ts) (λ e. none_not_some (start_of ts caller) (start_of-no_place caller ts e) some)

start_of-at : (caller : ℕ) (ts : List Running) (i : ℕ) (d : Running) → i < length ts → ((get_or ts i d).caller == caller) ≡ true → ((k : ℕ) → k < i → ((get_or ts k d).caller == caller) ≡ false) → start_of ts caller ≡ Some (get_or ts i d).start
start_of-at caller [] i d lt here before = absurd (omega arith)
start_of-at caller (t ∷ ts) zero d lt here before = rw here refl
start_of-at caller (t ∷ ts) (suc i) d lt here before =
    let first : (t.caller == caller) ≡ false = before 0 (omega arith) in
    rw first (start_of-at caller ts i d (omega arith) here (λ k below. before (suc k) (omega arith)))

-- the start is that of the transaction at the caller's place
pub start_of-place : (caller : ℕ) (ts : List Running) (i : ℕ) (d : Running) → position (λ t. t.caller == caller) ts ≡ Some i → start_of ts caller ≡ Some (get_or ts i d).start
start_of-place caller ts i d e =
    let p = position-Some (λ t. t.caller == caller) ts i d e in start_of-at caller ts i d p.0 p.1 p.2

-- a caller that has no start has no transaction
pub apart_from_none : (caller : ℕ) (ts : List Running) → start_of ts caller ≡ None → (k : ℕ) (d : Running) → k < length ts → (get_or ts k d).caller ≢ caller
apart_from_none caller [] e k d lt same = absurd (omega arith)
apart_from_none caller (t ∷ ts) e zero d lt same =
    let passes : (t.caller == caller) ≡ true = eq-eqb t.caller caller same in
    let some : Some t.start ≡ None = rw passes at e in cc
apart_from_none caller (t ∷ ts) e (suc k) d lt same =
    elim (eqb_tells t.caller caller) [
      | inl own ↦ let passes = own.0 in let some : Some t.start ≡ None = rw passes at e in cc
      | inr other ↦ let fails = other.0 in let rest : start_of ts caller ≡ None = rw fails at e in apart_from_none caller ts rest k d (omega arith) same
    ]

-- a list with no transaction of the caller stays whole
pub without-same : (caller : ℕ) (ts : List Running) → ((k : ℕ) (d : Running) → k < length ts → (get_or ts k d).caller ≢ caller) → without caller ts ≡ ts
without-same caller [] apart = refl
without-same caller (t ∷ ts) apart =
    let first : (t.caller == caller) ≡ false = differ-false t.caller caller (apart 0 t (omega arith)) in
    rw first (ap (λ us. t ∷ us) (without-same caller ts (λ k d lt. apart (suc k) d (omega arith))))

-- where no two callers are the same, the caller's transaction is the only one that goes
pub remove-at : (caller : ℕ) (ts : List Running) (i : ℕ) (d : Running) → i < length ts → (get_or ts i d).caller ≡ caller → AllPairs (λ t u. t.caller ≢ u.caller) ts → remove ts i ≡ without caller ts
remove-at caller [] i d lt here apart = absurd (omega arith)
remove-at caller (t ∷ ts) zero d lt here apart =
    let passes : (t.caller == caller) ≡ true = eq-eqb t.caller caller here in
    rw passes (sym (without-same caller ts (λ k e below same. apart 0 (suc k) e (omega arith) (omega arith) (here ∙ sym same))))
remove-at caller (t ∷ ts) (suc i) d lt here apart =
    let fails : (t.caller == caller) ≡ false = differ-false t.caller caller (λ same. apart 0 (suc i) d (omega arith) (omega arith) (same ∙ sym here)) in
    rw fails (ap (λ us. t ∷ us) (remove-at caller ts i d (omega arith) here (λ j k e jk kl. apart (suc j) (suc k) e (omega arith) (omega arith))))

-- what is left once the transaction at the caller's place is gone
pub remove-place : (caller : ℕ) (ts : List Running) (i : ℕ) → position (λ t. t.caller == caller) ts ≡ Some i → AllPairs (λ t u. t.caller ≢ u.caller) ts → remove ts i ≡ without caller ts
remove-place caller ts i e apart =
    let d : Running = record { caller = 0; start = 0 } in
    let p = position-Some (λ t. t.caller == caller) ts i d e in
    remove-at caller ts i d p.0 (eqb-true _ _ p.1) apart

-- a start below all others stays the least
fold_min-first : (least : ℕ) (ts : List Running) → ((k : ℕ) (d : Running) → k < length ts → least < (get_or ts k d).start) → fold (λ m t. min m t.start) least ts ≡ least
fold_min-first least [] below = refl
fold_min-first least (t ∷ ts) below =
    let first : least < t.start = below 0 t (omega arith) in
    let same : min least t.start ≡ least = omega arith in
    rw same (fold_min-first least ts (λ k d lt. below (suc k) d (omega arith)))

-- where the starts ascend, the first is the least
pub least_start-first : (clock : ℕ) (ts : List Running) (oldest : Running) → AllPairs (λ t u. t.start < u.start) ts → Some oldest ≡ slice_get ts 0 → oldest.start ≡ least_start clock ts
least_start-first clock [] oldest ascending e = cc
least_start-first clock (t ∷ ts) oldest ascending e =
    let same : oldest ≡ t = cc in
    ap (λ u. u.start) same ∙ sym (fold_min-first t.start ts (λ k d lt. ascending 0 (suc k) d (omega arith) (omega arith)))

-- one transaction goes with the caller's place
pub length-remove_place : (caller : ℕ) (ts : List Running) (i : ℕ) → position (λ t. t.caller == caller) ts ≡ Some i → length (remove ts i) + 1 ≡ length ts
length-remove_place caller ts i e =
    length-remove ts i (position-Some (λ t. t.caller == caller) ts i (record { caller = 0; start = 0 }) e).0
