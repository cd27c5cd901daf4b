-- What a set has that tuples were put into one by one.
use Rattle.std.proofs.Common.{◌≡◌, ℕ, List, [], ◌∷◌, Bool, true, false, ◌||◌, refl, ap, ◌∙◌, map}
use Rattle.std.specs.Prelude.{fold}
use Rattle.std.specs.BTreeSet.{insert_key}
use Rattle.std.specs.Cmp.{IsTotalOrder, eq_by_cmp_equiv}
use Rattle.std.specs.Cmp.Lexicographic.{lists_total}
use Rattle.std.specs.List.{list_any}
use Rattle.std.specs.Ordering.{eq_by_cmp, is_eq, match_ordering}
use Rattle.std.specs.declared.cmp.Ordering.{Ordering}
use Rattle.std.specs.declared.cmp.Ordering.TheVariants.{Less, Equal, Greater}
use Rattle.graph_value.specs.contracts.id.OidOrd.TheImpl.Laws.{total-law}
use Rattle.graph_record.specs.Edits.{has}
use Rattle.graph_record.specs.Graph.{Graph}
use Rattle.pattern_match.specs.declared.steps.Plan.{Plan}
use Rattle.pattern_match.specs.Tuples.{tuples_for}
use Rattle.tt_clauses.specs.Seen.{Tuples, all_seen, no_tuple, seen_at, with_seen, with_tuple, with_tuples}
use Rattle.tt_clauses.specs.Tuples.{Tuple, matches, tuple_cmp}

or_again : (a b r : Bool) → a ≡ b → (b || r) ≡ (a || (b || r))
or_again true true r e = refl
or_again true false r e = absurd cc
or_again false true r e = absurd cc
or_again false false r e = refl

or_past : (a b r : Bool) → (a || (b || r)) ≡ (b || (a || r))
or_past true true r = refl
or_past true false r = refl
or_past false b r = refl

or_moved : (a b r : Bool) → (a || (b || r)) ≡ ((b || a) || r)
or_moved true true r = refl
or_moved true false r = refl
or_moved false true r = refl
or_moved false false r = refl

or_none : (b : Bool) → (b || false) ≡ b
or_none true = refl
or_none false = refl

module _ {K : Type 0} {R : K → K → Ordering} (o : IsTotalOrder R) where
  tied : (q k x : K) → R k x ≡ Equal → eq_by_cmp R q k ≡ eq_by_cmp R q x
  tied q k x e =
      let laws = eq_by_cmp_equiv o in
      laws.symm q k ∙ laws.congr k x q (ap is_eq e) ∙ laws.symm x q

  pub has-insert_key : (xs : List K) (k q : K) → has R q (insert_key R xs k) ≡ (eq_by_cmp R q k || has R q xs)
  has-insert_key [] k q = refl
  has-insert_key (x ∷ xs) k q = by (R k x) refl (has-insert_key xs k q)
    where
      by : (r : Ordering) → R k x ≡ r → has R q (insert_key R xs k) ≡ (eq_by_cmp R q k || has R q xs) →
          has R q (match_ordering r (k ∷ x ∷ xs) (x ∷ xs) (x ∷ insert_key R xs k)) ≡ (eq_by_cmp R q k || has R q (x ∷ xs))
      by Less e on = refl
      by Equal e on = or_again (eq_by_cmp R q k) (eq_by_cmp R q x) (has R q xs) (tied q k x e)
      by Greater e on = ap (λ b. eq_by_cmp R q x || b) on ∙ or_past (eq_by_cmp R q x) (eq_by_cmp R q k) (has R q xs)

pub tuple_cmp_total : IsTotalOrder tuple_cmp
tuple_cmp_total = lists_total total-law

pub has-with_tuples : (bs : List Tuple) (set : Tuples) (q : Tuple) → has tuple_cmp q (with_tuples set bs).keys ≡ (has tuple_cmp q bs || has tuple_cmp q set.keys)
has-with_tuples [] set q = refl
has-with_tuples (b ∷ bs) set q =
    has-with_tuples bs (with_tuple set b) q
    ∙ ap (λ r. has tuple_cmp q bs || r) (has-insert_key tuple_cmp_total set.keys b q)
    ∙ or_moved (has tuple_cmp q bs) (eq_by_cmp tuple_cmp q b) (has tuple_cmp q set.keys)

has-fold_seen : (seen : List (ℕ × Tuples)) (set : Tuples) (q : Tuple) → has tuple_cmp q (fold with_seen set seen).keys ≡ (list_any (λ (e : ℕ × Tuples). has tuple_cmp q e.1.keys) seen || has tuple_cmp q set.keys)
has-fold_seen [] set q = refl
has-fold_seen (e ∷ seen) set q =
    has-fold_seen seen (with_seen set e) q
    ∙ ap (λ r. list_any (λ (e : ℕ × Tuples). has tuple_cmp q e.1.keys) seen || r) (has-with_tuples e.1.keys set q)
    ∙ or_moved (list_any (λ (e : ℕ × Tuples). has tuple_cmp q e.1.keys) seen) (has tuple_cmp q e.1.keys) (has tuple_cmp q set.keys)

module _ (graphs : ℕ → Graph) (plan : Plan) (q : Tuple) where
  -- the set of an instant has what matches at it
  pub has-seen_at : (t : ℕ) → has tuple_cmp q (seen_at graphs plan t).1.keys ≡ matches (graphs t) plan q
  has-seen_at t = has-with_tuples (tuples_for (graphs t) plan.steps) no_tuple q ∙ or_none (matches (graphs t) plan q)

  any_seen : (times : List ℕ) → list_any (λ (e : ℕ × Tuples). has tuple_cmp q e.1.keys) (map (seen_at graphs plan) times) ≡ list_any (λ t. matches (graphs t) plan q) times
  any_seen [] = refl
  any_seen (t ∷ times) = ap (λ b. b || list_any (λ (e : ℕ × Tuples). has tuple_cmp q e.1.keys) (map (seen_at graphs plan) times)) (has-seen_at t) ∙ ap (λ b. matches (graphs t) plan q || b) (any_seen times)

  -- the set of all has what matches at some instant
  pub has-all_seen : (times : List ℕ) → has tuple_cmp q (all_seen (map (seen_at graphs plan) times)).keys ≡ list_any (λ t. matches (graphs t) plan q) times
  has-all_seen times =
      has-fold_seen (map (seen_at graphs plan) times) no_tuple q
      ∙ or_none (list_any (λ (e : ℕ × Tuples). has tuple_cmp q e.1.keys) (map (seen_at graphs plan) times))
      ∙ any_seen times
