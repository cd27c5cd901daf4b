-- The deltas of the open transactions, after one of them has begun, has written or has ended.
use Rattle.std.proofs.Common.{◌≡◌, ◌≢◌, ℕ, zero, suc, ◌+◌, ◌<◌, ◌≤◌, List, [], ◌∷◌, ◌++◌, Option, Some, None, Bool, true, false, not, cond, length, map, get_or, refl, sym, ap, subst, ◌∙◌, arith}
use Rattle.std.specs.Prelude.{nat_eq}
use Rattle.std.specs.List.{sum_by, AllPairs}
use Rattle.std.proofs.lemmas.Bool.Decides.{nat_tests}
use Rattle.std.proofs.lemmas.List.{length-map, get_or-map}
use Rattle.std.proofs.lemmas.List.Sums.{sum_by-cons, sum_by-append}
use Rattle.txn_manager.specs.declared.running.Running.{Running}
use Rattle.undo_delta.specs.declared.op.Op.{Op}
use Rattle.world_model.specs.Counts.{all_left, deltas_left}
use Rattle.world_model.specs.Step.{with_op, without}
use Rattle.world_model.specs.World.{World, Txn, InOrder, find_txn, txn_of}
use Rattle.world_model.proofs.Lists.{bare}
use Rattle.front_core.specs.Keeps.{open_left}

abbrev left_of : Txn → ℕ
left_of p = all_left p.ops

some_same : {A : Type 0} {a b : A} → Some a ≡ Some b → a ≡ b
some_same is = cc

-- a write more adds what it leaves
pub one_more : (ops : List Op) (op : Op) → all_left (ops ++ op ∷ []) ≡ all_left ops + deltas_left op
one_more ops op = sum_by-append deltas_left ops (op ∷ []) ∙ ap (λ n. all_left ops + n) (sum_by-cons deltas_left op [] ∙ nothing (deltas_left op))
  where
    nothing : (p : ℕ) → p + 0 ≡ p
    nothing p = omega arith

pub begun : (ps : List Txn) (p : Txn) → p.ops ≡ [] → sum_by left_of (ps ++ p ∷ []) ≡ sum_by left_of ps
begun ps p none =
    sum_by-append left_of ps (p ∷ [])
    ∙ ap (λ n. sum_by left_of ps + n) (sum_by-cons left_of p [] ∙ ap (λ (ops : List Op). all_left ops + 0) none)
    ∙ nothing (sum_by left_of ps)
  where
    nothing : (n : ℕ) → n + 0 ≡ n
    nothing n = omega arith

pub written : (ps : List Txn) (c : ℕ) (op : Op) (p : Txn) → find_txn ps c ≡ Some p → sum_by left_of (with_op ps c op) ≡ sum_by left_of ps + deltas_left op
unfolding with_op find_txn
written [] c op p found = absurd cc
written (q ∷ ps) c op p found = by_test (nat_eq q.caller c) found (written ps c op p)
  where
    here : (a n r : ℕ) → (a + n) + r ≡ (a + r) + n
    here a n r = omega arith

    there : (a n r : ℕ) → a + (r + n) ≡ (a + r) + n
    there a n r = omega arith

    by_test : (b : Bool) → cond b (Some q) (find_txn ps c) ≡ Some p → (find_txn ps c ≡ Some p → sum_by left_of (with_op ps c op) ≡ sum_by left_of ps + deltas_left op) →
        sum_by left_of (cond b (record q { ops = q.ops ++ op ∷ [] } ∷ ps) (q ∷ with_op ps c op)) ≡ sum_by left_of (q ∷ ps) + deltas_left op
    by_test true f rest =
        sum_by-cons left_of (record q { ops = q.ops ++ op ∷ [] }) ps
        ∙ ap (λ n. n + sum_by left_of ps) (one_more q.ops op)
        ∙ here (all_left q.ops) (deltas_left op) (sum_by left_of ps)
        ∙ ap (λ n. n + deltas_left op) (sym (sum_by-cons left_of q ps))
    by_test false f rest =
        sum_by-cons left_of q (with_op ps c op)
        ∙ ap (λ n. all_left q.ops + n) (rest f)
        ∙ there (all_left q.ops) (deltas_left op) (sum_by left_of ps)
        ∙ ap (λ n. n + deltas_left op) (sym (sum_by-cons left_of q ps))

differ_test : (a b : ℕ) → a ≢ b → nat_eq a b ≡ false
differ_test a b ne = grind (arith, nat_tests, ne)

equal_test : (a b : ℕ) → nat_eq a b ≡ true → a ≡ b
equal_test a b h = grind (arith, nat_tests)

-- where nobody is the caller, all stay
none_here : (c : ℕ) (ps : List Txn) → ((k : ℕ) (e : Txn) → k < length ps → (get_or ps k e).caller ≢ c) → without c ps ≡ ps
unfolding without
none_here c [] apart = refl
none_here c (q ∷ ps) apart =
    ap (λ b. cond (not b) (q ∷ without c ps) (without c ps)) (differ_test q.caller c (apart 0 q (omega arith)))
    ∙ ap (λ xs. q ∷ xs) (none_here c ps (λ k e lt. apart (suc k) e (omega (arith, lt))))

ended_at : (ps : List Txn) (c : ℕ) (p : Txn) → AllPairs (λ t u. t.caller ≢ u.caller) ps → find_txn ps c ≡ Some p → sum_by left_of ps ≡ sum_by left_of (without c ps) + all_left p.ops
unfolding without find_txn
ended_at [] c p apart found = absurd cc
ended_at (q ∷ ps) c p apart found = by_test (nat_eq q.caller c) refl found (ended_at ps c p (λ j k e jk kl. apart (suc j) (suc k) e (omega (arith, jk)) (omega (arith, kl))))
  where
    swap : (a n : ℕ) → a + n ≡ n + a
    swap a n = omega arith

    there : (a n r : ℕ) → a + (n + r) ≡ (a + n) + r
    there a n r = omega arith

    by_test : (b : Bool) → nat_eq q.caller c ≡ b → cond b (Some q) (find_txn ps c) ≡ Some p → (find_txn ps c ≡ Some p → sum_by left_of ps ≡ sum_by left_of (without c ps) + all_left p.ops) →
        sum_by left_of (q ∷ ps) ≡ sum_by left_of (cond (not b) (q ∷ without c ps) (without c ps)) + all_left p.ops
    by_test true e f rest =
        let all : without c ps ≡ ps = none_here c ps (λ k u lt is. apart 0 (suc k) u (omega arith) (omega (arith, lt)) (equal_test q.caller c e ∙ sym is)) in
        sum_by-cons left_of q ps
        ∙ swap (all_left q.ops) (sum_by left_of ps)
        ∙ ap (λ n. sum_by left_of ps + n) (ap left_of (some_same f))
        ∙ ap (λ xs. sum_by left_of xs + all_left p.ops) (sym all)
    by_test false e f rest =
        sum_by-cons left_of q ps
        ∙ ap (λ n. all_left q.ops + n) (rest f)
        ∙ there (all_left q.ops) (sum_by left_of (without c ps)) (all_left p.ops)
        ∙ ap (λ n. n + all_left p.ops) (sym (sum_by-cons left_of q (without c ps)))

apart_bare : (ps : List Txn) → AllPairs (λ t u. t.caller ≢ u.caller) (map bare ps) → AllPairs (λ t u. t.caller ≢ u.caller) ps
apart_bare ps apart = λ j k e jk kl is.
    apart j k (bare e) jk (omega (arith, length-map ps bare))
    (ap (λ (r : Running). r.caller) (get_or-map bare ps j e (bare e) (omega arith)) ∙ is ∙ sym (ap (λ (r : Running). r.caller) (get_or-map bare ps k e (bare e) (omega arith))))

module _ (w : World) (o : InOrder w) (c : ℕ) (p : Txn) (found : txn_of w c ≡ Some p) where
  -- one that ends takes away what it left
  pub ended : open_left w ≡ sum_by left_of (without c w.running) + all_left p.ops
  ended = ended_at w.running c p (apart_bare w.running o.ready.apart) found

  pub at_most_open : all_left p.ops ≤ open_left w
  at_most_open = omega (arith, ended)
