-- What a row has below a mark is what has expired of its object.
use Rattle.std.proofs.Common.{◌≡◌, ℕ, ◌<◌, ◌≤◌, List, [], ◌∷◌, ◌++◌, Option, Some, None, Bool, true, false, not, cond, filter, map, refl, sym, ap, subst, ◌∙◌, arith}
use Rattle.std.specs.Prelude.{nat_lt, nat_le}
use Rattle.std.specs.List.{filter_map}
use Rattle.std.proofs.lemmas.Bool.Decides.{nat_tests}
use Rattle.graph_value.specs.declared.id.Oid.{Oid}
use Rattle.graph_record.specs.declared.object.Object.{Object}
use Rattle.graph_record.specs.Graph.{object_at}
use Rattle.undo_law.specs.Undone as law
use Rattle.undo_law.specs.declared.dated.Dated.{Dated}
use Rattle.undo_delta.specs.Apply.{after}
use Rattle.undo_delta.specs.declared.delta.Delta.{Delta}
use Rattle.version_chain.specs.Entry.{dated, is_before, is_not_before, open_entry}
use Rattle.version_chain.specs.Parts.{dated_before, deltas_of, object_before}
use Rattle.version_chain.specs.declared.entry.Entry.{Entry}
use Rattle.world_model.specs.Placement.{below, chain, expired, object_below, since}
use Rattle.world_model.specs.Undo.{undo_list, open_list}
use Rattle.world_model.specs.World.{World, Txn, view_of, fold_of, InOrder, cut_of}
use Rattle.world_model.proofs.OpenUndo.{own_undone}
use Rattle.world_model.proofs.Parted.{since_since}
use Rattle.front_core.specs.Keeps.{FitsRow, FitsBy, committed_entry}
use Rattle.front_core.specs.Rows.{ObjectRow}
use Rattle.front_core.specs.declared.row.Writing.{Writing}
use Rattle.front_core.proofs.Whole.{all_deltas, committed_deltas, undone-append}

not_below : (a b : ℕ) → not (nat_lt a b) ≡ nat_le b a
not_below a b = grind (arith, nat_tests)

pub committed_since : (m : ℕ) (ds : List (Dated Delta)) → filter (is_not_before m) (map committed_entry ds) ≡ map committed_entry (since m ds)
committed_since m [] = refl
committed_since m (d ∷ ds) =
    ap (λ es. cond (not (nat_lt d.ts m)) (committed_entry d ∷ es) es) (committed_since m ds)
    ∙ ap (λ b. cond b (committed_entry d ∷ map committed_entry (since m ds)) (map committed_entry (since m ds))) (not_below d.ts m)
    ∙ by_test (nat_le m d.ts)
  where
    by_test : (b : Bool) → cond b (committed_entry d ∷ map committed_entry (since m ds)) (map committed_entry (since m ds)) ≡ map committed_entry (cond b (d ∷ since m ds) (since m ds))
    by_test true = refl
    by_test false = refl

-- what stays of a chain that is cut
pub all_since : (m : ℕ) (os : List Delta) (ds : List (Dated Delta)) → filter (is_not_before m) (map open_entry os ++ map committed_entry ds) ≡ map open_entry os ++ map committed_entry (since m ds)
all_since m [] ds = committed_since m ds
all_since m (o ∷ os) ds = ap (λ es. open_entry o ∷ es) (all_since m os ds)

committed_below : (m : ℕ) (ds : List (Dated Delta)) → filter_map dated (filter (is_before m) (map committed_entry ds)) ≡ below m ds
committed_below m [] = refl
committed_below m (d ∷ ds) = by_test (nat_lt d.ts m) (committed_below m ds)
  where
    by_test : (b : Bool) → filter_map dated (filter (is_before m) (map committed_entry ds)) ≡ below m ds → filter_map dated (cond b (committed_entry d ∷ filter (is_before m) (map committed_entry ds)) (filter (is_before m) (map committed_entry ds))) ≡ cond b (d ∷ below m ds) (below m ds)
    by_test true rest = ap (λ es. d ∷ es) rest
    by_test false rest = rest

all_below : (m : ℕ) (os : List Delta) (ds : List (Dated Delta)) → dated_before (map open_entry os ++ map committed_entry ds) m ≡ below m ds
all_below m [] ds = committed_below m ds
all_below m (o ∷ os) ds = all_below m os ds

module _ (w : World) (o : InOrder w) (x : Oid) where
  expired_by : (m : ℕ) (r : ObjectRow) (b : Option Writing) → FitsBy w x r b → dated_before r.chain m ≡ below m (chain w x)
  expired_by m r None fits = ap (λ (es : List (Entry Delta)). dated_before es m) fits.chain ∙ committed_below m (chain w x)
  expired_by m r (Some by) (p, fits) = ap (λ (es : List (Entry Delta)). dated_before es m) fits.chain ∙ all_below m (open_list w p x) (chain w x)

  -- the deltas below a mark
  pub deltas_below : (m : ℕ) (r : ObjectRow) → FitsRow w x r → dated_before r.chain m ≡ below m (chain w x)
  deltas_below m r fits = expired_by m r r.writing fits

  later_all : (m : ℕ) → cut_of w x ≤ m → law.undone after (object_at (fold_of w.commits) x) (law.deltas_of (since m (chain w x))) ≡ object_below w x m
  later_all m low = ap (λ ds. law.undone after (object_at (fold_of w.commits) x) (law.deltas_of ds)) (since_since (cut_of w x) m (undo_list w x) low)

  object_by : (m : ℕ) → cut_of w x ≤ m → (r : ObjectRow) (b : Option Writing) → FitsBy w x r b → object_before after r.newest r.chain m ≡ object_below w x m
  object_by m low r None fits =
      ap (λ (n : Object). object_before after n r.chain m) fits.newest
      ∙ ap (λ (es : List (Entry Delta)). object_before after (object_at (fold_of w.commits) x) es m) fits.chain
      ∙ ap (λ (es : List (Entry Delta)). law.undone after (object_at (fold_of w.commits) x) (deltas_of es)) (committed_since m (chain w x))
      ∙ ap (law.undone after (object_at (fold_of w.commits) x)) (committed_deltas (since m (chain w x)))
      ∙ later_all m low
  object_by m low r (Some by) (p, fits) =
      ap (λ (n : Object). object_before after n r.chain m) fits.newest
      ∙ ap (λ (es : List (Entry Delta)). object_before after (object_at (view_of w p) x) es m) fits.chain
      ∙ ap (λ (es : List (Entry Delta)). law.undone after (object_at (view_of w p) x) (deltas_of es)) (all_since m (open_list w p x) (chain w x))
      ∙ ap (law.undone after (object_at (view_of w p) x)) (all_deltas (open_list w p x) (since m (chain w x)))
      ∙ undone-append (object_at (view_of w p) x) (open_list w p x) (law.deltas_of (since m (chain w x)))
      ∙ ap (λ (n : Object). law.undone after n (law.deltas_of (since m (chain w x)))) (own_undone w by.caller p x o fits.opened fits.touching)
      ∙ later_all m low

  -- and the object after the newest of them
  pub object_is : (m : ℕ) → cut_of w x ≤ m → (r : ObjectRow) → FitsRow w x r → object_before after r.newest r.chain m ≡ object_below w x m
  object_is m low r fits = object_by m low r r.writing fits
