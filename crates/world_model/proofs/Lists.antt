-- The transactions and commits as the clock's own list sees them, and facts about every timestamp.
use Rattle.std.proofs.Common.{◌≡◌, ℕ, suc, ◌+◌, ◌<◌, ◌≤◌, List, [], ◌∷◌, ◌++◌, Option, Some, None, Bool, true, false, not, ◌&&◌, ◌||◌, ◌==◌, cond, length, refl, sym, ap, subst, ◌∙◌, arith, map}
use Rattle.std.specs.Prelude.{nat_eq, nat_lt, nat_le, is_some, IsSome, All}
use Rattle.std.specs.List.{list_any, list_all, position, remove}
use Rattle.std.proofs.lemmas.Bool.{false≢true}
use Rattle.std.proofs.lemmas.Bool.Decides.{nat_tests}
use Rattle.txn_manager.specs.declared.running.Running.{Running}
use Rattle.txn_manager.specs.RunningList as list
use Rattle.txn_manager.specs.Transactions.{IsReady}
use Rattle.txn_manager.proofs.TransactionsLemmas.{IsReady-left}
use Rattle.txn_manager.proofs.RunningListLemmas.{remove-place, length-remove_place, place_from_start}
use Rattle.undo_delta.specs.declared.op.Op.{Op}
use Rattle.world_model.specs.World.{World, Commit, Txn, find_txn, transactions_of, stamps_ascend}
use Rattle.world_model.specs.Step.{with_op, without}
use Rattle.world_model.proofs.Folds.{both_true, both_false, and_left_true, and_right_true}

-- a transaction without its writes
abbrev pub bare : Txn → Running
bare p = record { caller = p.caller; start = p.start }

pub map-one : (ps : List Txn) (p : Txn) → map bare (ps ++ p ∷ []) ≡ map bare ps ++ bare p ∷ []
map-one [] p = refl
map-one (q ∷ qs) p = ap (λ rs. bare q ∷ rs) (map-one qs p)

pub map-with_op : (ps : List Txn) (c : ℕ) (op : Op) → map bare (with_op ps c op) ≡ map bare ps
unfolding with_op
map-with_op [] c op = refl
map-with_op (q ∷ qs) c op =
    elim (nat_eq q.caller c) as (λ b. map bare (cond b (record q { ops = q.ops ++ op ∷ [] } ∷ qs) (q ∷ with_op qs c op)) ≡ bare q ∷ map bare qs) [
      | true ↦ refl
      | false ↦ ap (λ rs. bare q ∷ rs) (map-with_op qs c op)
    ]

pub map-without : (ps : List Txn) (c : ℕ) → map bare (without c ps) ≡ list.without c (map bare ps)
unfolding without
map-without [] c = refl
map-without (q ∷ qs) c =
    elim (nat_eq q.caller c) as (λ b. map bare (cond (not b) (q ∷ without c qs) (without c qs)) ≡ cond (not b) (bare q ∷ list.without c (map bare qs)) (list.without c (map bare qs))) [
      | true ↦ map-without qs c
      | false ↦ ap (λ rs. bare q ∷ rs) (map-without qs c)
    ]

-- the clock's list has the start of each transaction that is open
pub start_of-map : (ps : List Txn) (c : ℕ) (p : Txn) → find_txn ps c ≡ Some p → list.start_of (map bare ps) c ≡ Some p.start
unfolding find_txn
start_of-map [] c p h = cc
start_of-map (q ∷ qs) c p h =
    elim (nat_eq q.caller c) as (λ b. cond b (Some q) (find_txn qs c) ≡ Some p → cond b (Some q.start) (list.start_of (map bare qs) c) ≡ Some p.start) [
      | true ↦ λ s. let same : q ≡ p = cc in ap (λ (r : Txn). Some r.start) same
      | false ↦ λ s. start_of-map qs c p s
    ] h

-- and none of those that aren't
pub start_of-none : (ps : List Txn) (c : ℕ) → find_txn ps c ≡ None → list.start_of (map bare ps) c ≡ None
unfolding find_txn
start_of-none [] c h = refl
start_of-none (q ∷ qs) c h =
    elim (nat_eq q.caller c) as (λ b. cond b (Some q) (find_txn qs c) ≡ None → cond b (Some q.start) (list.start_of (map bare qs) c) ≡ None) [
      | true ↦ λ s. cc
      | false ↦ λ s. start_of-none qs c s
    ] h

-- each start is below the clock, and at least 1
pub started_below : (clock : ℕ) (ps : List Txn) (c : ℕ) (p : Txn) → All (λ t. t.start < clock) (map bare ps) → find_txn ps c ≡ Some p → p.start < clock
unfolding find_txn
started_below clock [] c p h f = cc
started_below clock (q ∷ qs) c p h f =
    elim (nat_eq q.caller c) as (λ b. cond b (Some q) (find_txn qs c) ≡ Some p → p.start < clock) [
      | true ↦ λ s. let same : q ≡ p = cc in subst (λ (r : Txn). r.start < clock) same (h 0 (bare q) (omega arith))
      | false ↦ λ s. started_below clock qs c p (λ k d lt. h (suc k) d (omega arith)) s
    ] f

some_value : {A : Type 0} (o : Option A) → IsSome o → (x : A) × (o ≡ Some x)
some_value None h = absurd (false≢true h)
some_value (Some x) h = (x, refl)

-- one open transaction fewer, and a clock that rose by one at most
pub ready_left : (w : World) (c clock : ℕ) (p : Txn) → IsReady (transactions_of w) → find_txn w.running c ≡ Some p → w.clock ≤ clock → clock ≤ w.clock + 1 →
    IsReady (record { clock = clock; running = map bare (without c w.running) })
ready_left w c clock p ready found low high =
    let rs : List Running = map bare w.running in
    let some : IsSome (list.start_of rs c) = ap is_some (start_of-map w.running c p found) in
    let place = some_value (position (λ t. t.caller == c) rs) (place_from_start c rs some) in
    let gone : remove rs place.0 ≡ list.without c rs = remove-place c rs place.0 place.1 ready.apart in
    let same : map bare (without c w.running) ≡ list.without c rs = map-without w.running c in
    let fewer : length (map bare (without c w.running)) + 1 ≡ length rs = ap (λ (l : List Running). length l + 1) (same ∙ sym gone) ∙ length-remove_place c rs place.0 place.1 in
    IsReady-left (transactions_of w) c clock (map bare (without c w.running)) ready same fewer low high

-- no commit stands at the clock
pub none_at_clock : (clock : ℕ) (cs : List Commit) → list_all (λ c. nat_le 1 c.ts && nat_lt c.ts clock) cs ≡ true → list_any (λ c. nat_eq c.ts clock) cs ≡ false
none_at_clock clock [] h = refl
none_at_clock clock (c ∷ cs) h =
    let below : nat_lt c.ts clock ≡ true = and_right_true (nat_le 1 c.ts) _ (and_left_true _ _ h) in
    let apart : nat_eq c.ts clock ≡ false = grind (arith, nat_tests) in
    both_false _ _ apart (none_at_clock clock cs (and_right_true _ _ h))

-- the clock may rise
pub stamped-more : (clock : ℕ) (cs : List Commit) → list_all (λ c. nat_le 1 c.ts && nat_lt c.ts clock) cs ≡ true → list_all (λ c. nat_le 1 c.ts && nat_lt c.ts (clock + 1)) cs ≡ true
stamped-more clock [] h = refl
stamped-more clock (c ∷ cs) h =
    let low : nat_le 1 c.ts ≡ true = and_left_true _ _ (and_left_true _ _ h) in
    let below : nat_lt c.ts clock ≡ true = and_right_true (nat_le 1 c.ts) _ (and_left_true _ _ h) in
    let more : nat_lt c.ts (clock + 1) ≡ true = grind (arith, nat_tests) in
    both_true _ _ (both_true _ _ low more) (stamped-more clock cs (and_right_true _ _ h))

pub list_all-one : {A : Type 0} (test : A → Bool) (xs : List A) (x : A) → list_all test xs ≡ true → test x ≡ true → list_all test (xs ++ x ∷ []) ≡ true
list_all-one test [] x h t = both_true _ _ t refl
list_all-one test (y ∷ ys) x h t = both_true _ _ (and_left_true _ _ h) (list_all-one test ys x (and_right_true _ _ h) t)

pub list_any-one : {A : Type 0} (test : A → Bool) (xs : List A) (x : A) → list_any test xs ≡ false → test x ≡ false → list_any test (xs ++ x ∷ []) ≡ false
list_any-one test [] x h t = both_false _ _ t refl
list_any-one test (y ∷ ys) x h t = both_false _ _ (left _ _ h) (list_any-one test ys x (right _ _ h) t)
  where
    left : (a b : Bool) → (a || b) ≡ false → a ≡ false
    left true b e = e
    left false b e = refl

    right : (a b : Bool) → (a || b) ≡ false → b ≡ false
    right true b e = absurd (false≢true (sym e))
    right false b e = e

-- a commit at the clock is above all before it
pub ascend-one : (clock : ℕ) (cs : List Commit) (k : Commit) → k.ts ≡ clock → stamps_ascend cs ≡ true → list_all (λ c. nat_le 1 c.ts && nat_lt c.ts clock) cs ≡ true → stamps_ascend (cs ++ k ∷ []) ≡ true
unfolding stamps_ascend
ascend-one clock [] k e h below = refl
ascend-one clock (c ∷ cs) k e h below =
    let first : nat_lt c.ts clock ≡ true = and_right_true (nat_le 1 c.ts) _ (and_left_true _ _ below) in
    let here : nat_lt c.ts k.ts ≡ true = ap (nat_lt c.ts) e ∙ first in
    both_true _ _ (list_all-one (λ d. nat_lt c.ts d.ts) cs k (and_left_true _ _ h) here) (ascend-one clock cs k e (and_right_true _ _ h) (and_right_true _ _ below))
