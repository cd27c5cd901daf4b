-- A commit leaves a world in order, and so does an abort.
use Rattle.std.proofs.Common.{◌≡◌, ◌≢◌, ℕ, ◌+◌, ◌<◌, ◌≤◌, List, [], ◌∷◌, ◌++◌, Some, None, Bool, true, false, ◌&&◌, cond, refl, sym, ap, ◌∙◌, arith}
use Rattle.std.specs.Prelude.{nat_eq, nat_lt, nat_le}
use Rattle.std.proofs.lemmas.Bool.{false≢true}
use Rattle.std.proofs.lemmas.Bool.Decides.{nat_tests}
use Rattle.graph_value.specs.declared.id.Oid.{Oid}
use Rattle.graph_record.specs.Graph.{empty_graph}
use Rattle.undo_delta.specs.declared.op.Op.{Op}
use Rattle.world_model.specs.Op.{are_touching, are_below, are_sound}
use Rattle.world_model.specs.World.{World, Commit, Txn, find_txn, txn_of, touched_after, InOrder, fold_of, before, ops_of}
use Rattle.world_model.specs.Step.{without}
use Rattle.world_model.proofs.Txns.{find_txn-without}
use Rattle.world_model.proofs.Folds.{same_sound, views_agree, are_sound-append, are_below-append, ops_of-one, before-one, both_true}
use Rattle.world_model.proofs.Lists.{ready_left, stamped-more, list_all-one, list_any-one, ascend-one, started_below}

-- what is found afterwards was there, and is another caller's
pub left_found : (c : ℕ) (ps : List Txn) (d : ℕ) (q : Txn) → find_txn (without c ps) d ≡ Some q → (nat_eq c d ≡ false) × (find_txn ps d ≡ Some q)
left_found c ps d q h = pick (nat_eq c d) (sym (find_txn-without c ps d) ∙ h)
  where
    pick : (b : Bool) → cond b None (find_txn ps d) ≡ Some q → (b ≡ false) × (find_txn ps d ≡ Some q)
    pick true e = absurd cc
    pick false e = (refl, e)

-- a commit at the clock
abbrev pub commit_at : World → List Op → Commit
commit_at w ops = record { ts = w.clock; ops = ops }

different : (c d : ℕ) → nat_eq c d ≡ false → d ≢ c
different c d h same = false≢true (sym h ∙ grind (arith, nat_tests))

-- the caller's transaction is gone, and nothing else has changed: an abort, or a commit without writes
pub end_keeps_order : (w : World) (c : ℕ) (p : Txn) → InOrder w → txn_of w c ≡ Some p → InOrder (record w { running = without c w.running })
end_keeps_order w c p o open_p =
    let left : (d : ℕ) (q : Txn) → find_txn (without c w.running) d ≡ Some q → (nat_eq c d ≡ false) × (find_txn w.running d ≡ Some q) = left_found c w.running in
    record {
      ready = ready_left w c w.clock p o.ready open_p (omega arith) (omega arith);
      counters = o.counters;
      ascending = o.ascending;
      stamped = o.stamped;
      apart = λ d q f. o.apart d q (left d q f).1;
      alone = λ a b q r fq fr ne x t. o.alone a b q r (left a q fq).1 (left b r fr).1 ne x t;
      unrivalled = λ d q f x t. o.unrivalled d q (left d q f).1 x t;
      committed_below = o.committed_below;
      running_below = λ d q f. o.running_below d q (left d q f).1;
      committed_sound = o.committed_sound;
      running_sound = λ d q f. o.running_sound d q (left d q f).1;
    }

-- the writes of an open transaction are sound behind all commits
pub sound_at_commit : (w : World) (c : ℕ) (p : Txn) → InOrder w → txn_of w c ≡ Some p → are_sound p.ops (fold_of w.commits) ≡ true
sound_at_commit w c p o open_p =
    same_sound p.ops (fold_of w.commits) (fold_of (before p.start w.commits)) (views_agree p.start w.commits p.ops (o.apart c p open_p) (o.unrivalled c p open_p))
    ∙ o.running_sound c p open_p

and_false : (b : Bool) → (b && false) ≡ false
and_false true = refl
and_false false = refl

-- no commit above another caller's start touches what that caller has written, the new one included
later : (w : World) (c : ℕ) (p : Txn) → InOrder w → txn_of w c ≡ Some p → (d : ℕ) (q : Txn) → (nat_eq c d ≡ false) × (find_txn w.running d ≡ Some q) → (x : Oid) → are_touching q.ops x ≡ true →
    touched_after q.start (w.commits ++ record { ts = w.clock; ops = p.ops } ∷ []) x ≡ false
unfolding touched_after
later w c p o open_p d q f x t =
    let other : are_touching p.ops x ≡ false = o.alone d c q p f.1 open_p (different c d f.0) x t in
    list_any-one (λ m. nat_lt q.start m.ts && are_touching m.ops x) w.commits (record { ts = w.clock; ops = p.ops }) (o.unrivalled d q f.1 x t) (ap (λ b. nat_lt q.start w.clock && b) other ∙ and_false (nat_lt q.start w.clock))

pub commit_keeps_order : (w : World) (c : ℕ) (p : Txn) → InOrder w → txn_of w c ≡ Some p →
    InOrder (record w { clock = w.clock + 1; commits = w.commits ++ record { ts = w.clock; ops = p.ops } ∷ []; running = without c w.running })
commit_keeps_order w c p o open_p =
    let k : Commit = record { ts = w.clock; ops = p.ops } in
    let left : (d : ℕ) (q : Txn) → find_txn (without c w.running) d ≡ Some q → (nat_eq c d ≡ false) × (find_txn w.running d ≡ Some q) = left_found c w.running in
    let early : (d : ℕ) (q : Txn) → find_txn w.running d ≡ Some q → q.start < w.clock = λ d q f. started_below w.clock w.running d q o.ready.past f in
    let at_clock : (d : ℕ) (q : Txn) → find_txn w.running d ≡ Some q → nat_eq w.clock q.start ≡ false = λ d q f. above w.clock q.start (early d q f) in
    let unseen : (d : ℕ) (q : Txn) → find_txn w.running d ≡ Some q → nat_lt w.clock q.start ≡ false = λ d q f. not_below w.clock q.start (early d q f) in
    record {
      ready = ready_left w c (w.clock + 1) p o.ready open_p (omega arith) (omega arith);
      counters = o.counters;
      ascending = ascend-one w.clock w.commits k refl o.ascending o.stamped;
      stamped = list_all-one (λ m. nat_le 1 m.ts && nat_lt m.ts (w.clock + 1)) w.commits k (stamped-more w.clock w.commits o.stamped) (both_true _ _ (at_least w.clock o.ready.begun) (below_next w.clock));
      apart = λ d q f. list_any-one (λ m. nat_eq m.ts q.start) w.commits k (o.apart d q (left d q f).1) (at_clock d q (left d q f).1);
      alone = λ a b q r fq fr ne x t. o.alone a b q r (left a q fq).1 (left b r fr).1 ne x t;
      unrivalled = λ d q f x t. later w c p o open_p d q (left d q f) x t;
      committed_below = ap (are_below w.vertices w.edges) (ops_of-one w.commits k) ∙ are_below-append w.vertices w.edges (ops_of w.commits) p.ops ∙ both_true _ _ o.committed_below (o.running_below c p open_p);
      running_below = λ d q f. o.running_below d q (left d q f).1;
      committed_sound = ap (λ (ops : List Op). are_sound ops empty_graph) (ops_of-one w.commits k) ∙ are_sound-append (ops_of w.commits) p.ops empty_graph ∙ both_true _ _ o.committed_sound (sound_at_commit w c p o open_p);
      running_sound = λ d q f. ap (λ (cs : List Commit). are_sound q.ops (fold_of cs)) (before-one q.start w.commits k (unseen d q (left d q f).1)) ∙ o.running_sound d q (left d q f).1;
    }
  where
    above : (n s : ℕ) → s < n → nat_eq n s ≡ false
    above n s lt = grind (arith, nat_tests)

    not_below : (n s : ℕ) → s < n → nat_lt n s ≡ false
    not_below n s lt = grind (arith, nat_tests)

    at_least : (n : ℕ) → 1 ≤ n → nat_le 1 n ≡ true
    at_least n h = grind (arith, nat_tests)

    below_next : (n : ℕ) → nat_lt n (n + 1) ≡ true
    below_next n = grind (arith, nat_tests)
