-- What lies in an object's history is nothing to those who look at no instant below its cut.
use Rattle.std.proofs.Common.{◌≡◌, ℕ, ◌+◌, ◌<◌, ◌≤◌, List, [], ◌∷◌, ◌++◌, Option, Some, None, Bool, true, false, cond, filter, map, refl, sym, ap, subst, ◌∙◌, arith}
use Rattle.std.specs.Prelude.{nat_lt, nat_le}
use Rattle.std.proofs.lemmas.Bool.Decides.{nat_tests}
use Rattle.graph_value.specs.declared.id.Oid.{Oid}
use Rattle.txn_manager.specs.Conflict.{rival_of, unseen_commit}
use Rattle.txn_manager.specs.declared.rivals.Rival.{Rival}
use Rattle.txn_manager.specs.declared.rivals.Rival.TheVariants.{Committed}
use Rattle.undo_law.specs.declared.dated.Dated.{Dated}
use Rattle.undo_delta.specs.declared.delta.Delta.{Delta}
use Rattle.version_chain.specs.Parts.{first_of}
use Rattle.world_model.specs.Placement.{below, since, chain}
use Rattle.world_model.specs.Undo.{undo_list}
use Rattle.world_model.specs.World.{World, InOrder, cut_of}
use Rattle.world_model.proofs.Parted.{since_since, split, undo_descends}

later_is_since : (t : ℕ) (ds : List (Dated Delta)) → filter (λ d. nat_lt t d.ts) ds ≡ since (t + 1) ds
later_is_since t [] = refl
later_is_since t (d ∷ ds) =
    ap (λ es. cond (nat_lt t d.ts) (d ∷ es) es) (later_is_since t ds)
    ∙ ap (λ b. cond b (d ∷ since (t + 1) ds) (since (t + 1) ds)) (same t d.ts)
  where
    same : (a b : ℕ) → nat_lt a b ≡ nat_le (a + 1) b
    same a b = grind (arith, nat_tests)

-- of the deltas above an instant the chain has all, where the cut isn't past it
pub chain_later : (w : World) (x : Oid) (t : ℕ) → cut_of w x ≤ t + 1 → filter (λ d. nat_lt t d.ts) (chain w x) ≡ filter (λ d. nat_lt t d.ts) (undo_list w x)
chain_later w x t low = later_is_since t (chain w x) ∙ since_since (cut_of w x) (t + 1) (undo_list w x) low ∙ sym (later_is_since t (undo_list w x))

abbrev stamps : List (Dated Delta) → List ℕ
stamps ds = map (λ d. d.ts) ds

-- a timestamp below the cut is no rival of one who began at the cut or later
none_seen : (start c : ℕ) (ds : List (Dated Delta)) → c ≤ start → unseen_commit start (first_of (stamps (below c ds))) ≡ None
none_seen start c [] low = refl
none_seen start c (d ∷ ds) low = by_test (nat_lt d.ts c) refl (none_seen start c ds low)
  where
    by_test : (b : Bool) → nat_lt d.ts c ≡ b → unseen_commit start (first_of (stamps (below c ds))) ≡ None → unseen_commit start (first_of (stamps (cond b (d ∷ below c ds) (below c ds)))) ≡ None
    by_test true e rest = ap (λ b. cond b (Some (Committed d.ts)) None) (unseen start d.ts c low e)
      where
        unseen : (a b c : ℕ) → c ≤ a → nat_lt b c ≡ true → nat_lt a b ≡ false
        unseen a b c le lt = grind (arith, nat_tests)
    by_test false e rest = rest

first_front : (start c : ℕ) (front ds : List (Dated Delta)) → c ≤ start → unseen_commit start (first_of (stamps front)) ≡ unseen_commit start (first_of (stamps (front ++ below c ds)))
first_front start c [] ds low = sym (none_seen start c ds low)
first_front start c (d ∷ front) ds low = refl

pub same_rival : (w : World) (x : Oid) (start : ℕ) (other : Option ℕ) → InOrder w → cut_of w x ≤ start →
    rival_of start other (first_of (stamps (chain w x))) ≡ rival_of start other (first_of (stamps (undo_list w x)))
same_rival w x start (Some s) o low = refl
same_rival w x start None o low =
    first_front start (cut_of w x) (chain w x) (undo_list w x) low
    ∙ ap (λ ds. unseen_commit start (first_of (stamps ds))) (split (cut_of w x) (undo_list w x) (undo_descends w x o))
