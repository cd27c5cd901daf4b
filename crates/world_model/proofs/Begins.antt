-- A begin leaves a world in order.
use Rattle.std.proofs.Common.{◌≡◌, ℕ, ◌+◌, List, [], ◌∷◌, ◌++◌, Option, Some, None, Bool, true, false, cond, refl, sym, subst, ◌∙◌, ◌⊎◌, inl, inr}
use Rattle.std.specs.Prelude.{nat_eq}
use Rattle.std.specs.List.{list_any}
use Rattle.std.proofs.lemmas.Bool.{false≢true}
use Rattle.graph_value.specs.declared.id.Oid.{Oid}
use Rattle.txn_manager.specs.declared.running.Running.{Running}
use Rattle.txn_manager.specs.Transactions.{IsReady, begin_refusal}
use Rattle.txn_manager.proofs.TransactionsLemmas.{IsReady-begun, may_begin}
use Rattle.world_model.specs.Op.{are_touching, are_below, are_sound}
use Rattle.world_model.specs.World.{World, Txn, find_txn, transactions_of, InOrder, fold_of, before}
use Rattle.world_model.specs.Refusals.{or_else}
use Rattle.world_model.specs.Step.{begun_world}
use Rattle.world_model.proofs.Txns.{find_txn-append}
use Rattle.world_model.proofs.Lists.{map-one, none_at_clock, stamped-more}

-- the transaction that begins has no writes
abbrev pub fresh : World → ℕ → Txn
fresh w c = record { caller = c; start = w.clock; ops = [] }

-- what is found afterwards was there, or is the new one
pub begun_found : (ps : List Txn) (p : Txn) (d : ℕ) (q : Txn) → find_txn (ps ++ p ∷ []) d ≡ Some q → (find_txn ps d ≡ Some q) ⊎ (q ≡ p)
begun_found ps p d q h = pick (find_txn ps d) (nat_eq p.caller d) (sym (find_txn-append ps p d) ∙ h)
  where
    pick : (o : Option Txn) (b : Bool) → or_else o (cond b (Some p) None) ≡ Some q → (o ≡ Some q) ⊎ (q ≡ p)
    pick (Some r) b e = inl e
    pick None true e = inr cc
    pick None false e = absurd cc

-- no writes touch nothing
pub no_touch : (x : Oid) → are_touching [] x ≡ false
unfolding are_touching
no_touch x = refl

pub touching_none : (x : Oid) → are_touching [] x ≡ true → ⊥
touching_none x t = false≢true (sym (no_touch x) ∙ t)

below_none : (n m : ℕ) → are_below n m [] ≡ true
unfolding are_below
below_none n m = refl

pub begin_keeps_order : (w : World) (c : ℕ) → InOrder w → begin_refusal (transactions_of w) c ≡ None → InOrder (begun_world w c)
unfolding are_sound
begin_keeps_order w c o allowed =
    let p : Txn = fresh w c in
    let found : (d : ℕ) (q : Txn) → find_txn (w.running ++ p ∷ []) d ≡ Some q → (find_txn w.running d ≡ Some q) ⊎ (q ≡ p) = begun_found w.running p in
    record {
      ready = subst (λ (rs : List Running). IsReady (record { clock = w.clock + 1; running = rs })) (sym (map-one w.running p)) (IsReady-begun (transactions_of w) c o.ready (may_begin (transactions_of w) c allowed));
      counters = o.counters;
      ascending = o.ascending;
      stamped = stamped-more w.clock w.commits o.stamped;
      apart = λ d q f. elim (found d q f) [
        | inl old ↦ o.apart d q old
        | inr new ↦ subst (λ (r : Txn). list_any (λ k. nat_eq k.ts r.start) w.commits ≡ false) (sym new) (none_at_clock w.clock w.commits o.stamped)
      ];
      alone = λ a b q r fq fr ne x t. elim (found a q fq) [
        | inl oldq ↦ elim (found b r fr) [
          | inl oldr ↦ o.alone a b q r oldq oldr ne x t
          | inr newr ↦ subst (λ (s : Txn). are_touching s.ops x ≡ false) (sym newr) (no_touch x)
        ]
        | inr newq ↦ absurd (touching_none x (subst (λ (s : Txn). are_touching s.ops x ≡ true) newq t))
      ];
      unrivalled = λ d q f x t. elim (found d q f) [
        | inl old ↦ o.unrivalled d q old x t
        | inr new ↦ absurd (touching_none x (subst (λ (s : Txn). are_touching s.ops x ≡ true) new t))
      ];
      committed_below = o.committed_below;
      running_below = λ d q f. elim (found d q f) [
        | inl old ↦ o.running_below d q old
        | inr new ↦ subst (λ (s : Txn). are_below w.vertices w.edges s.ops ≡ true) (sym new) (below_none w.vertices w.edges)
      ];
      committed_sound = o.committed_sound;
      running_sound = λ d q f. elim (found d q f) [
        | inl old ↦ o.running_sound d q old
        | inr new ↦ subst (λ (s : Txn). are_sound s.ops (fold_of (before s.start w.commits)) ≡ true) (sym new) refl
      ];
    }
