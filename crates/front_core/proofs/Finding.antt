-- Who writes an object besides a transaction.
use Rattle.std.proofs.Common.{◌≡◌, ◌≢◌, ℕ, suc, List, [], ◌∷◌, Option, Some, None, Bool, true, false, not, ◌&&◌, cond, refl, sym, ap, subst, ◌∙◌, arith, map}
use Rattle.std.specs.Prelude.{nat_eq, All, AllPairs}
use Rattle.std.proofs.lemmas.Bool.{false≢true}
use Rattle.std.proofs.lemmas.Bool.Decides.{nat_tests}
use Rattle.graph_value.specs.declared.id.Oid.{Oid}
use Rattle.world_model.specs.Op.{are_touching}
use Rattle.world_model.specs.World.{World, Txn, find_txn, txn_of, InOrder, other_writer}
use Rattle.world_model.proofs.Lists.{bare}
use Rattle.world_model.proofs.Txns.{nobody_else}

pub equal_of : (a b : ℕ) → nat_eq a b ≡ true → a ≡ b
equal_of a b h = grind (arith, nat_tests)

pub test_of : (a b : ℕ) → a ≡ b → nat_eq a b ≡ true
test_of a b h = grind (arith, nat_tests)

pub some_same : {A : Type 0} {a b : A} → Some a ≡ Some b → a ≡ b
some_same e = cc

-- a caller that is different from all in a list isn't found there
not_found : (n : ℕ) (ps : List Txn) (d : ℕ) (q : Txn) → All (λ t. n ≢ t.caller) (map bare ps) → find_txn ps d ≡ Some q → n ≢ d
unfolding find_txn
not_found n [] d q h f = absurd cc
not_found n (r ∷ rs) d q h f =
    elim (nat_eq r.caller d) as (λ b. nat_eq r.caller d ≡ b → cond b (Some r) (find_txn rs d) ≡ Some q → n ≢ d) [
      | true ↦ λ e s same. h 0 (bare r) (omega arith) (same ∙ sym (equal_of r.caller d e))
      | false ↦ λ e s. not_found n rs d q (λ k t lt. h (suc k) t (omega arith)) s
    ] refl f

-- the other writer that is found is an open transaction of another caller, and has written the object
pub other_found : (ps : List Txn) (c : ℕ) (x : Oid) (q : Txn) → AllPairs (λ t u. t.caller ≢ u.caller) (map bare ps) → other_writer ps c x ≡ Some q →
    (find_txn ps q.caller ≡ Some q) × (nat_eq q.caller c ≡ false) × (are_touching q.ops x ≡ true)
unfolding other_writer find_txn
other_found [] c x q apart h = absurd cc
other_found (r ∷ rs) c x q apart h =
    elim (not (nat_eq r.caller c) && are_touching r.ops x) as (λ b. (not (nat_eq r.caller c) && are_touching r.ops x) ≡ b → cond b (Some r) (other_writer rs c x) ≡ Some q → (cond (nat_eq r.caller q.caller) (Some r) (find_txn rs q.caller) ≡ Some q) × (nat_eq q.caller c ≡ false) × (are_touching q.ops x ≡ true)) [
      | true ↦ λ e s.
          let same : r ≡ q = some_same s in
          let at : nat_eq r.caller q.caller ≡ true = test_of r.caller q.caller (ap (λ (t : Txn). t.caller) same) in
          (ap (λ b. cond b (Some r) (find_txn rs q.caller)) at ∙ s, subst (λ (t : Txn). nat_eq t.caller c ≡ false) same (other (nat_eq r.caller c) (are_touching r.ops x) e), subst (λ (t : Txn). are_touching t.ops x ≡ true) same (touched (nat_eq r.caller c) (are_touching r.ops x) e))
      | false ↦ λ e s.
          let rest = other_found rs c x q (λ j k t lt le. apart (suc j) (suc k) t (omega arith) (omega arith)) s in
          let differs : r.caller ≢ q.caller = not_found r.caller rs q.caller q (λ k t lt. apart 0 (suc k) t (omega arith) (omega arith)) rest.0 in
          (ap (λ b. cond b (Some r) (find_txn rs q.caller)) (unequal r.caller q.caller differs) ∙ rest.0, rest.1, rest.2)
    ] refl h
  where
    other : (a b : Bool) → (not a && b) ≡ true → a ≡ false
    other true b e = absurd (false≢true e)
    other false b e = refl

    touched : (a b : Bool) → (not a && b) ≡ true → b ≡ true
    touched true b e = absurd (false≢true e)
    touched false b e = e

    unequal : (a b : ℕ) → a ≢ b → nat_eq a b ≡ false
    unequal a b ne = grind (arith, nat_tests)

pub differ_of : (a b : ℕ) → nat_eq a b ≡ false → a ≢ b
differ_of a b h same = false≢true (sym h ∙ test_of a b same)

pub swapped : (a b : ℕ) → nat_eq a b ≡ false → nat_eq b a ≡ false
swapped a b h = grind (arith, nat_tests)

module _ (w : World) (o : InOrder w) (x : Oid) where
  none_if : (c : ℕ) → ((d : ℕ) (q : Txn) → txn_of w d ≡ Some q → nat_eq d c ≡ false → are_touching q.ops x ≡ false) → (r : Option Txn) → other_writer w.running c x ≡ r → r ≡ None
  none_if c quiet None e = refl
  none_if c quiet (Some q) e =
      let f = other_found w.running c x q o.ready.apart e in
      absurd (false≢true (sym (quiet q.caller q f.0 f.1) ∙ f.2))

  -- where nobody else has written it
  pub nobody : (c : ℕ) → ((d : ℕ) (q : Txn) → txn_of w d ≡ Some q → nat_eq d c ≡ false → are_touching q.ops x ≡ false) → other_writer w.running c x ≡ None
  nobody c quiet = none_if c quiet (other_writer w.running c x) refl

  -- where this one has
  pub somebody : (c d : ℕ) (p : Txn) → txn_of w d ≡ Some p → are_touching p.ops x ≡ true → nat_eq d c ≡ false → other_writer w.running c x ≡ Some p
  somebody c d p found touched ne = by_other (other_writer w.running c x) refl
    where
      one_caller : (q : Txn) → find_txn w.running q.caller ≡ Some q → are_touching q.ops x ≡ true → (b : Bool) → nat_eq q.caller d ≡ b → nat_eq q.caller d ≡ true
      one_caller q f t true h = h
      one_caller q f t false h = absurd (false≢true (sym (o.alone q.caller d q p f found (differ_of q.caller d h) x t) ∙ touched))

      by_other : (r : Option Txn) → other_writer w.running c x ≡ r → r ≡ Some p
      by_other None n = absurd (false≢true (sym (nobody_else w.running c x n d p found (swapped d c ne)) ∙ touched))
      by_other (Some q) n =
          let f = other_found w.running c x q o.ready.apart n in
          let one : nat_eq q.caller d ≡ true = one_caller q f.0 f.2 (nat_eq q.caller d) refl in
          sym f.0 ∙ ap (find_txn w.running) (equal_of q.caller d one) ∙ found

  -- whoever has written an object that this one has is this one
  pub same_writer : (c d : ℕ) (p q : Txn) → txn_of w c ≡ Some p → txn_of w d ≡ Some q → are_touching p.ops x ≡ true → are_touching q.ops x ≡ true → nat_eq c d ≡ true
  same_writer c d p q fp fq tp tq = by_test (nat_eq c d) refl
    where
      by_test : (b : Bool) → nat_eq c d ≡ b → nat_eq c d ≡ true
      by_test true h = h
      by_test false h = absurd (false≢true (sym (o.alone c d p q fp fq (differ_of c d h) x tp) ∙ tq))
