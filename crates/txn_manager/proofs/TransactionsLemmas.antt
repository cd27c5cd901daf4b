-- What holds of the clock and the list still holds after a begin and after an end.
use Rattle.std.proofs.Common.{◌≡◌, ◌≢◌, ℕ, ◌+◌, ◌^◌, ◌<◌, ◌≤◌, Bool, true, false, Option, Some, None, List, length, refl, arith, length-append}
use Rattle.std.specs.Prelude.{is_some, nat_lt, nat_le, if◌then◌else◌}
use Rattle.std.proofs.lemmas.Bool.Decides.{nat_tests}
use Rattle.std.proofs.lemmas.List.Elements.{All-push, All-weaker, All-filter, All-get_or}
use Rattle.std.proofs.lemmas.List.Kept.{AllPairs-filter}
use Rattle.std.proofs.lemmas.List.Quantifiers.{all_pairs_push}
use Rattle.txn_manager.specs.RunningList.{start_of, without}
use Rattle.txn_manager.specs.Transactions.{Transactions, IsReady, begin_refusal, begun}
use Rattle.txn_manager.specs.declared.running.Running.{Running}
use Rattle.txn_manager.specs.declared.refusals.BeginRefused.TheVariants.{AlreadyOpen, TooMany, ClockEnd}
use Rattle.txn_manager.proofs.RunningListLemmas.{apart_from_none}

-- what is known where nothing refuses a begin
pub record MayBegin (s : Transactions) (caller : ℕ) : Type 0 where
  pub absent : start_of s.running caller ≡ None
  pub few : length s.running < 1024
  pub room : s.clock + length s.running + 2 ≤ 2 ^ 62

refusal_tests : (a b c : Bool) → (if a then Some AlreadyOpen else if b then Some TooMany else if c then Some ClockEnd else None) ≡ None → (a ≡ false) × (b ≡ false) × (c ≡ false)
refusal_tests true b c e = absurd cc
refusal_tests false true c e = absurd cc
refusal_tests false false true e = absurd cc
refusal_tests false false false e = (refl, refl, refl)

none_from_test : (o : Option ℕ) → is_some o ≡ false → o ≡ None
none_from_test None e = refl
none_from_test (Some x) e = absurd cc

pub may_begin : (s : Transactions) (caller : ℕ) → begin_refusal s caller ≡ None → MayBegin s caller
may_begin s caller e =
    let tests = refusal_tests (is_some (start_of s.running caller)) (nat_le 1024 (length s.running)) (nat_lt (2 ^ 62) (s.clock + length s.running + 2)) e in
    let many = tests.1 in
    let late = tests.2 in
    record {
      absent = none_from_test _ tests.0;
      few = grind (arith, nat_tests);
      room = grind (arith, nat_tests);
    }

pub IsReady-begun : (s : Transactions) (caller : ℕ) → IsReady s → MayBegin s caller → IsReady (begun s caller)
IsReady-begun s caller ready may = record {
  begun = omega arith;
  room = omega (arith, length-append {A = Running});
  few = omega (arith, length-append {A = Running});
  started = All-push (λ t. 1 ≤ t.start) s.running _ ready.started ready.begun;
  past = All-push (λ t. t.start < s.clock + 1) s.running _ (All-weaker (λ t. t.start < s.clock) (λ t. t.start < s.clock + 1) (λ t lt. omega arith) s.running ready.past) (omega arith);
  ascending = all_pairs_push (λ t u. t.start < u.start) s.running _ ready.ascending (λ k d lt. All-get_or (λ t. t.start < s.clock) s.running k d lt ready.past);
  apart = all_pairs_push (λ t u. t.caller ≢ u.caller) s.running _ ready.apart (λ k d lt. apart_from_none caller s.running may.absent k d lt);
}

-- a transaction is gone, and the clock has risen by one at most
pub IsReady-left : (s : Transactions) (caller clock : ℕ) (rest : List Running) → IsReady s → rest ≡ without caller s.running → length rest + 1 ≡ length s.running → s.clock ≤ clock → clock ≤ s.clock + 1 → IsReady (record { clock = clock; running = rest })
IsReady-left s caller clock rest ready left fewer low high = record {
  begun = omega arith;
  room = omega arith;
  few = omega arith;
  started = rw left (All-filter _ (λ t. 1 ≤ t.start) s.running ready.started);
  past = rw left (All-weaker (λ t. t.start < s.clock) (λ t. t.start < clock) (λ t lt. omega arith) _ (All-filter _ (λ t. t.start < s.clock) s.running ready.past));
  ascending = rw left (AllPairs-filter (λ t u. t.start < u.start) _ s.running ready.ascending);
  apart = rw left (AllPairs-filter (λ t u. t.caller ≢ u.caller) _ s.running ready.apart);
}
