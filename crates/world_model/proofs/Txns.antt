-- The open transactions: what looking one up answers after each change of the list.
use Rattle.std.proofs.Common.{◌≡◌, ℕ, List, [], ◌∷◌, ◌++◌, Option, Some, None, Bool, true, false, not, ◌&&◌, ◌||◌, cond, max, refl, sym, ap, subst, ◌∙◌, arith, filter, map, fold}
use Rattle.std.specs.Prelude.{nat_eq, nat_lt, option_map}
use Rattle.std.specs.List.{list_any}
use Rattle.std.proofs.lemmas.Bool.Decides.{nat_tests}
use Rattle.graph_value.specs.declared.id.Oid.{Oid}
use Rattle.txn_manager.specs.Conflict.{rival_of, unseen_commit}
use Rattle.txn_manager.specs.declared.rivals.Rival.TheVariants.{Committed}
use Rattle.undo_delta.specs.declared.op.Op.{Op}
use Rattle.world_model.specs.Op.{are_touching}
use Rattle.world_model.specs.World.{Commit, Txn, find_txn, other_writer, newest_touch, touched_after, greatest}
use Rattle.world_model.specs.Step.{with_op, without}
use Rattle.world_model.specs.Refusals.{or_else}

-- a transaction that is found is the caller's
pub found_caller : (ps : List Txn) (c : ℕ) (p : Txn) → find_txn ps c ≡ Some p → nat_eq p.caller c ≡ true
unfolding find_txn
found_caller [] c p h = cc
found_caller (q ∷ qs) c p h =
    elim (nat_eq q.caller c) as (λ b. nat_eq q.caller c ≡ b → cond b (Some q) (find_txn qs c) ≡ Some p → nat_eq p.caller c ≡ true) [
      | true ↦ λ e s. let same : q ≡ p = cc in subst (λ (r : Txn). nat_eq r.caller c ≡ true) same e
      | false ↦ λ e s. found_caller qs c p s
    ] refl h

pub find_txn-append : (ps : List Txn) (p : Txn) (c : ℕ) → find_txn (ps ++ p ∷ []) c ≡ or_else (find_txn ps c) (cond (nat_eq p.caller c) (Some p) None)
unfolding find_txn
find_txn-append [] p c = refl
find_txn-append (q ∷ qs) p c =
    elim (nat_eq q.caller c) as (λ b. cond b (Some q) (find_txn (qs ++ p ∷ []) c) ≡ or_else (cond b (Some q) (find_txn qs c)) (cond (nat_eq p.caller c) (Some p) None)) [
      | true ↦ refl
      | false ↦ find_txn-append qs p c
    ]

abbrev pub with_write : Op → Txn → Txn
with_write op p = record p { ops = p.ops ++ op ∷ [] }

-- the caller's transaction has one more write, and every other is as before
pub find_txn-with_op : (ps : List Txn) (c : ℕ) (op : Op) (d : ℕ) →
    find_txn (with_op ps c op) d ≡ cond (nat_eq c d) (option_map (with_write op) (find_txn ps d)) (find_txn ps d)
unfolding find_txn with_op
find_txn-with_op [] c op d = elim (nat_eq c d) as (λ b. ◌≡◌ {A = Option Txn} None (cond b None None)) [ true ↦ refl | false ↦ refl ]
find_txn-with_op (q ∷ qs) c op d =
    elim (nat_eq q.caller c) as (λ b. nat_eq q.caller c ≡ b → find_txn (cond b (record q { ops = q.ops ++ op ∷ [] } ∷ qs) (q ∷ with_op qs c op)) d ≡ cond (nat_eq c d) (option_map (with_write op) (cond (nat_eq q.caller d) (Some q) (find_txn qs d))) (cond (nat_eq q.caller d) (Some q) (find_txn qs d))) [
      | true ↦ λ e. let same : nat_eq q.caller d ≡ nat_eq c d = alike q.caller c d e in
          ap (λ b. cond b (Some (record q { ops = q.ops ++ op ∷ [] })) (find_txn qs d)) same
          ∙ elim (nat_eq c d) as (λ b. cond b (Some (record q { ops = q.ops ++ op ∷ [] })) (find_txn qs d) ≡ cond b (option_map (with_write op) (cond b (Some q) (find_txn qs d))) (cond b (Some q) (find_txn qs d))) [ true ↦ refl | false ↦ refl ]
          ∙ ap (λ b. cond (nat_eq c d) (option_map (with_write op) (cond b (Some q) (find_txn qs d))) (cond b (Some q) (find_txn qs d))) (sym same)
      | false ↦ λ e. elim (nat_eq q.caller d) as (λ b. nat_eq q.caller d ≡ b → cond b (Some q) (find_txn (with_op qs c op) d) ≡ cond (nat_eq c d) (option_map (with_write op) (cond b (Some q) (find_txn qs d))) (cond b (Some q) (find_txn qs d))) [
        | true ↦ λ t. ap (λ b. cond b (Some (record q { ops = q.ops ++ op ∷ [] })) (Some q)) (sym (unlike q.caller c d e t))
        | false ↦ λ t. find_txn-with_op qs c op d
      ] refl
    ] refl
  where
    alike : (q c d : ℕ) → nat_eq q c ≡ true → nat_eq q d ≡ nat_eq c d
    alike q c d e = let same : q ≡ c = grind (arith, nat_tests) in ap (λ n. nat_eq n d) same

    unlike : (q c d : ℕ) → nat_eq q c ≡ false → nat_eq q d ≡ true → nat_eq c d ≡ false
    unlike q c d e t = grind (arith, nat_tests)

-- the caller's transaction is gone
pub find_txn-without : (c : ℕ) (ps : List Txn) (d : ℕ) → find_txn (without c ps) d ≡ cond (nat_eq c d) None (find_txn ps d)
unfolding find_txn without
find_txn-without c [] d = elim (nat_eq c d) as (λ b. ◌≡◌ {A = Option Txn} None (cond b None None)) [ true ↦ refl | false ↦ refl ]
find_txn-without c (q ∷ qs) d =
    elim (nat_eq q.caller c) as (λ b. nat_eq q.caller c ≡ b → find_txn (cond (not b) (q ∷ without c qs) (without c qs)) d ≡ cond (nat_eq c d) None (cond (nat_eq q.caller d) (Some q) (find_txn qs d))) [
      | true ↦ λ e. find_txn-without c qs d ∙ elim (nat_eq c d) as (λ b. nat_eq c d ≡ b → cond b None (find_txn qs d) ≡ cond b None (cond (nat_eq q.caller d) (Some q) (find_txn qs d))) [
        | true ↦ λ t. refl
        | false ↦ λ t. ap (λ b. cond b (Some q) (find_txn qs d)) (sym (other q.caller c d e t))
      ] refl
      | false ↦ λ e. elim (nat_eq q.caller d) as (λ b. nat_eq q.caller d ≡ b → cond b (Some q) (find_txn (without c qs) d) ≡ cond (nat_eq c d) None (cond b (Some q) (find_txn qs d))) [
        | true ↦ λ t. ap (λ b. cond b None (Some q)) (sym (unlike q.caller c d e t))
        | false ↦ λ t. find_txn-without c qs d
      ] refl
    ] refl
  where
    other : (q c d : ℕ) → nat_eq q c ≡ true → nat_eq c d ≡ false → nat_eq q d ≡ false
    other q c d e t = grind (arith, nat_tests)

    unlike : (q c d : ℕ) → nat_eq q c ≡ false → nat_eq q d ≡ true → nat_eq c d ≡ false
    unlike q c d e t = grind (arith, nat_tests)

-- where nobody else has written the object, no other transaction touches it
pub nobody_else : (ps : List Txn) (c : ℕ) (x : Oid) → other_writer ps c x ≡ None → (d : ℕ) (q : Txn) → find_txn ps d ≡ Some q → nat_eq c d ≡ false → are_touching q.ops x ≡ false
unfolding other_writer find_txn
nobody_else [] c x h d q found ne = cc
nobody_else (r ∷ rs) c x h d q found ne =
    elim (not (nat_eq r.caller c) && are_touching r.ops x) as (λ b. (not (nat_eq r.caller c) && are_touching r.ops x) ≡ b → cond b (Some r) (other_writer rs c x) ≡ None → are_touching q.ops x ≡ false) [
      | true ↦ λ e n. cc
      | false ↦ λ e n. elim (nat_eq r.caller d) as (λ b. nat_eq r.caller d ≡ b → cond b (Some r) (find_txn rs d) ≡ Some q → are_touching q.ops x ≡ false) [
        | true ↦ λ t f. let same : r ≡ q = cc in subst (λ (p : Txn). are_touching p.ops x ≡ false) same (quiet r.caller c d (are_touching r.ops x) t ne e)
        | false ↦ λ t f. nobody_else rs c x n d q f ne
      ] refl found
    ] refl h
  where
    quiet : (r c d : ℕ) (b : Bool) → nat_eq r d ≡ true → nat_eq c d ≡ false → (not (nat_eq r c) && b) ≡ false → b ≡ false
    quiet r c d b t ne e = let apart : nat_eq r c ≡ false = grind (arith, nat_tests) in ap (λ z. not z && b) (sym apart) ∙ e

-- without a commit above the start that touches the object, none is the newest
max_from : (n : ℕ) (ns : List ℕ) (t : ℕ) → nat_lt t (fold max n ns) ≡ false → (nat_lt t n ≡ false) × (list_any (λ m. nat_lt t m) ns ≡ false)
max_from n [] t h = (h, refl)
max_from n (m ∷ ms) t h =
    let rest = max_from (max n m) ms t h in
    let below = rest.0 in
    (grind (arith, nat_tests), (let first : nat_lt t m ≡ false = grind (arith, nat_tests) in ap (λ b. b || list_any (λ m. nat_lt t m) ms) first ∙ rest.1))

-- what is above t among the stamps of the commits that touch the object
stamps_touching : (t : ℕ) (commits : List Commit) (x : Oid) → touched_after t commits x ≡ list_any (λ n. nat_lt t n) (map (λ c. c.ts) (filter (λ c. are_touching c.ops x) commits))
unfolding touched_after
stamps_touching t [] x = refl
stamps_touching t (c ∷ cs) x =
    ap (λ b. (nat_lt t c.ts && are_touching c.ops x) || b) (stamps_touching t cs x)
    ∙ elim (are_touching c.ops x) as (λ b. ((nat_lt t c.ts && b) || list_any (λ n. nat_lt t n) (map (λ c. c.ts) (filter (λ c. are_touching c.ops x) cs))) ≡ list_any (λ n. nat_lt t n) (map (λ c. c.ts) (cond b (c ∷ filter (λ c. are_touching c.ops x) cs) (filter (λ c. are_touching c.ops x) cs)))) [
      | true ↦ ap (λ b. b || list_any (λ n. nat_lt t n) (map (λ c. c.ts) (filter (λ c. are_touching c.ops x) cs))) (and_true (nat_lt t c.ts))
      | false ↦ ap (λ b. b || list_any (λ n. nat_lt t n) (map (λ c. c.ts) (filter (λ c. are_touching c.ops x) cs))) (and_false (nat_lt t c.ts))
    ]
  where
    and_true : (b : Bool) → (b && true) ≡ b
    and_true true = refl
    and_true false = refl

    and_false : (b : Bool) → (b && false) ≡ false
    and_false true = refl
    and_false false = refl

greatest_below : (t : ℕ) (ns : List ℕ) → unseen_commit t (greatest ns) ≡ None → list_any (λ n. nat_lt t n) ns ≡ false
greatest_below t [] h = refl
greatest_below t (n ∷ ns) h =
    let low : nat_lt t (fold max n ns) ≡ false = no_commit (nat_lt t (fold max n ns)) (fold max n ns) h in
    let parts = max_from n ns t low in
    ap (λ b. b || list_any (λ m. nat_lt t m) ns) parts.0 ∙ parts.1
  where
    no_commit : (b : Bool) (ts : ℕ) → cond b (Some (Committed ts)) None ≡ None → b ≡ false
    no_commit true ts h = cc
    no_commit false ts h = refl

-- no newest commit above the start: no commit above it touches the object
pub quiet_after : (t : ℕ) (commits : List Commit) (x : Oid) → unseen_commit t (newest_touch commits x) ≡ None → touched_after t commits x ≡ false
unfolding newest_touch
quiet_after t commits x h = stamps_touching t commits x ∙ greatest_below t (map (λ c. c.ts) (filter (λ c. are_touching c.ops x) commits)) h

-- no rival: nobody else writes the object, and no commit above the start touches it
pub no_rival : (t : ℕ) (other : Option ℕ) (newest : Option ℕ) → rival_of t other newest ≡ None → (other ≡ None) × (unseen_commit t newest ≡ None)
no_rival t None newest h = (refl, h)
no_rival t (Some q) newest h = absurd cc
