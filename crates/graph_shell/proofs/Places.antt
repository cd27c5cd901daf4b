-- What the places have after one of them was changed.
use Rattle.std.proofs.Common.{◌≡◌, ℕ, Option, Some, None, option_and_then, Bool, true, false, ◌&&◌, cond, refl, sym, ap, ◌∙◌, arith, rules}
use Rattle.std.specs.Prelude.{nat_eq, is_some, IsSome}
use Rattle.std.specs.BTreeMap.{BTreeMap, get, is_at, WritesThrough}
use Rattle.std.specs.Ordering.{nat_cmp, ordering_then, is_eq}
use Rattle.std.specs.declared.cmp.Ordering.{Ordering}
use Rattle.std.specs.declared.cmp.Ordering.TheVariants.{Less, Equal, Greater}
use Rattle.std.proofs.Math.Path.{fun_ext}
use Rattle.std.proofs.lemmas.Bool.Decides.{nat_tests}
use Rattle.graph_value.specs.declared.id.Oid.{Oid}
use Rattle.graph_value.specs.declared.id.Oid.TheVariants.{Vertex, Edge}
use Rattle.graph_value.specs.contracts.id.OidOrd.TheImpl as oid_order
use Rattle.undo_delta.specs.Touch.{same_oid}
use Rattle.world_model.specs.Pieces.{PieceParts}
use Rattle.world_model.proofs.Folds.{and_left_true, and_right_true, same_id}
use Rattle.graph_shell.specs.Kept.{place_cmp, pieces_in}
use Rattle.graph_shell.specs.Pieces.{Pieces, keeping}

tied : (a b : ℕ) → is_eq (nat_cmp a b) ≡ nat_eq b a
tied a b = grind (arith, rules)

both_tie : (o p : Ordering) → is_eq (ordering_then o p) ≡ (is_eq o && is_eq p)
both_tie Less p = refl
both_tie Equal p = refl
both_tie Greater p = refl

same_object : (x y : Oid) → is_eq (oid_order.ghosts.cmp x y) ≡ same_oid y x
same_object (Vertex a) (Vertex b) = tied a.0 b.0
same_object (Vertex a) (Edge b) = refl
same_object (Edge a) (Vertex b) = refl
same_object (Edge a) (Edge b) = tied a.0 b.0

-- a place is that of its caller and its object
pub at_place : (caller c : ℕ) (x y : Oid) → is_at (place_cmp (caller, x)) (c, y) ≡ (nat_eq c caller && same_oid y x)
at_place caller c x y = both_tie (nat_cmp caller c) (oid_order.ghosts.cmp x y) ∙ ap (λ b. b && is_eq (oid_order.ghosts.cmp x y)) (tied caller c) ∙ ap (λ b. nat_eq c caller && b) (same_object x y)

-- one place has another content
pub changed_place : (pieces after : ℕ × Oid → Option (Option PieceParts)) (caller : ℕ) (x : Oid) (place : Option PieceParts) →
    ((q : ℕ × Oid) → after q ≡ cond (is_at (place_cmp (caller, x)) q) (Some place) (pieces q)) →
    (λ c y. option_and_then (λ p. p) (after (c, y))) ≡ keeping caller x place (λ c y. option_and_then (λ p. p) (pieces (c, y)))
changed_place pieces after caller x place is = fun_ext (λ c. fun_ext (λ y. ap (option_and_then (λ p. p)) (is (c, y) ∙ ap (λ b. cond b (Some place) (pieces (c, y))) (at_place caller c x y)) ∙ by_test c y (nat_eq c caller && same_oid y x)))
  where
    by_test : (c : ℕ) (y : Oid) (b : Bool) → option_and_then (λ p. p) (cond b (Some place) (pieces (c, y))) ≡ cond b place (option_and_then (λ p. p) (pieces (c, y)))
    by_test c y true = refl
    by_test c y false = refl

-- a place is written through
pub written_place : (m n : BTreeMap (ℕ × Oid) (Option PieceParts)) (caller : ℕ) (x : Oid) (place : Option PieceParts) → WritesThrough place_cmp (place_cmp (caller, x)) m place n → IsSome (get place_cmp m (caller, x)) →
    pieces_in n.entries ≡ keeping caller x place (pieces_in m.entries)
written_place m n caller x place w there = changed_place (get place_cmp m) (get place_cmp n) caller x place (w.3 there).0

-- the place is there still
pub place_stays : (m n : BTreeMap (ℕ × Oid) (Option PieceParts)) (caller : ℕ) (x : Oid) (place : Option PieceParts) → WritesThrough place_cmp (place_cmp (caller, x)) m place n → IsSome (get place_cmp m (caller, x)) → IsSome (get place_cmp n (caller, x))
place_stays m n caller x place w there = ap is_some (w.3 there).1

-- where there is no place, nothing is kept
pub no_place : (pieces : ℕ × Oid → Option (Option PieceParts)) (caller : ℕ) (x : Oid) → pieces (caller, x) ≡ None → (λ c y. option_and_then (λ p. p) (pieces (c, y))) ≡ keeping caller x None (λ c y. option_and_then (λ p. p) (pieces (c, y)))
no_place pieces caller x none = fun_ext (λ c. fun_ext (λ y. by_test c y (nat_eq c caller && same_oid y x) refl))
  where
    caller_is : (c : ℕ) → nat_eq c caller ≡ true → c ≡ caller
    caller_is c h = grind (arith, nat_tests)

    by_test : (c : ℕ) (y : Oid) (b : Bool) → (nat_eq c caller && same_oid y x) ≡ b → option_and_then (λ p. p) (pieces (c, y)) ≡ cond b None (option_and_then (λ p. p) (pieces (c, y)))
    by_test c y true h = ap (option_and_then (λ p. p)) (ap (λ d. pieces (d, y)) (caller_is c (and_left_true _ _ h)) ∙ ap (λ z. pieces (caller, z)) (same_id y x (and_right_true (nat_eq c caller) _ h)) ∙ none)
    by_test c y false h = refl
