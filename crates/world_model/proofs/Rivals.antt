-- What it means that nothing stands in the way of a write.
use Rattle.std.proofs.Common.{◌≡◌, ℕ, List, [], ◌∷◌, Option, Some, None, true, false, ◌||◌, refl, sym, ap, ◌∙◌}
use Rattle.std.specs.Prelude.{nat_eq, option_map}
use Rattle.std.specs.List.{list_any}
use Rattle.std.proofs.lemmas.Bool.{false≢true}
use Rattle.graph_value.specs.declared.id.Oid.{Oid}
use Rattle.txn_manager.specs.declared.rivals.Rival.{Rival}
use Rattle.undo_delta.specs.Touch.{same_oid}
use Rattle.world_model.specs.Op.{are_touching}
use Rattle.world_model.specs.World.{World, Txn, find_txn, touched_after, rival_at, other_writer, newest_touch}
use Rattle.world_model.specs.Refusals.{or_else, conflict, conflict_at}
use Rattle.world_model.proofs.Txns.{nobody_else, quiet_after, no_rival}
use Rattle.world_model.proofs.Folds.{same_id}

pub none_first : {A : Type 0} (a b : Option A) → or_else a b ≡ None → a ≡ None
none_first None b h = refl
none_first (Some x) b h = absurd cc

pub none_second : {A : Type 0} (a b : Option A) → or_else a b ≡ None → b ≡ None
none_second None b h = h
none_second (Some x) b h = absurd cc

no_conflict_at : (x : Oid) (r : Option Rival) → conflict_at x r ≡ None → r ≡ None
no_conflict_at x None h = refl
no_conflict_at x (Some rival) h = absurd cc

-- no rival stands at an object of the list
pub free_at : (w : World) (p : Txn) (xs : List Oid) (x : Oid) → conflict w p xs ≡ None → list_any (same_oid x) xs ≡ true → rival_at w p x ≡ None
free_at w p [] x h t = absurd (false≢true t)
free_at w p (y ∷ ys) x h t =
    elim (same_oid x y) as (λ b. same_oid x y ≡ b → rival_at w p x ≡ None) [
      | true ↦ λ is. ap (rival_at w p) (same_id x y is) ∙ no_conflict_at y (rival_at w p y) (none_first _ _ h)
      | false ↦ λ is. free_at w p ys x (none_second (conflict_at y (rival_at w p y)) _ h) (sym (ap (λ b. b || list_any (same_oid x) ys) is) ∙ t)
    ] refl

no_start : (o : Option Txn) → option_map (λ q. q.start) o ≡ None → o ≡ None
no_start None h = refl
no_start (Some q) h = absurd cc

-- nobody else has written the object
pub free_of_others : (w : World) (p : Txn) (x : Oid) → rival_at w p x ≡ None → (d : ℕ) (q : Txn) → find_txn w.running d ≡ Some q → nat_eq p.caller d ≡ false → are_touching q.ops x ≡ false
free_of_others w p x h d q f ne =
    let none = no_rival p.start (option_map (λ r. r.start) (other_writer w.running p.caller x)) (newest_touch w.commits x) h in
    nobody_else w.running p.caller x (no_start (other_writer w.running p.caller x) none.0) d q f ne

-- no commit above the start touches it
pub free_of_commits : (w : World) (p : Txn) (x : Oid) → rival_at w p x ≡ None → touched_after p.start w.commits x ≡ false
free_of_commits w p x h =
    let none = no_rival p.start (option_map (λ r. r.start) (other_writer w.running p.caller x)) (newest_touch w.commits x) h in
    quiet_after p.start w.commits x none.1
