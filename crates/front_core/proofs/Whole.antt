-- The chain and the history of an object together tell it at every instant.
use Rattle.std.proofs.Common.{◌≡◌, ℕ, ◌+◌, ◌<◌, ◌≤◌, List, [], ◌∷◌, ◌++◌, Option, Some, None, Bool, true, false, cond, fold, map, filter, refl, sym, ap, subst, ◌∙◌, arith}
use Rattle.std.specs.Prelude.{nat_lt, nat_le}
use Rattle.std.proofs.lemmas.Bool.Decides.{nat_tests}
use Rattle.std.proofs.lemmas.List.{append_assoc, map-append}
use Rattle.std.proofs.lemmas.List.Elements.{filter-append}
use Rattle.std.proofs.lemmas.List.Sums.{fold-append}
use Rattle.graph_value.specs.declared.id.Oid.{Oid}
use Rattle.graph_record.specs.declared.object.Object.{Object}
use Rattle.graph_record.specs.Graph.{object_at}
use Rattle.undo_law.specs.Undone as law
use Rattle.undo_law.specs.declared.dated.Dated.{Dated}
use Rattle.undo_delta.specs.Apply.{after}
use Rattle.undo_delta.specs.declared.delta.Delta.{Delta}
use Rattle.version_chain.specs.Entry.{is_after, open_entry}
use Rattle.version_chain.specs.Parts.{deltas_of}
use Rattle.version_chain.specs.declared.entry.Entry.{Entry}
use Rattle.anchor_store.specs.Blocks.{AreAnchored, history_of}
use Rattle.anchor_store.specs.Groups.{AreAtMost, later}
use Rattle.anchor_store.proofs.Grown.{blocks_deltas, blocks_anchored}
use Rattle.rebuild.specs.Line.{AreNewer, LeadsOn, version_of}
use Rattle.world_model.specs.Op.{are_touching}
use Rattle.world_model.specs.Placement.{below, since, chain, history, blocks_of, object_below}
use Rattle.world_model.specs.Undo.{undo_list, open_list}
use Rattle.world_model.specs.World.{World, Txn, txn_of, view_of, fold_of, graph_at, InOrder, cut_of}
use Rattle.world_model.proofs.Undo.{instant_undone}
use Rattle.world_model.proofs.OpenUndo.{own_undone}
use Rattle.world_model.proofs.Parted.{split, undo_descends}
use Rattle.front_core.specs.Keeps.{FitsRow, FitsBy, Unwritten, WrittenBy, committed_entry}
use Rattle.front_core.specs.Rows.{ObjectRow}
use Rattle.front_core.specs.declared.row.Writing.{Writing}
use Rattle.front_core.proofs.Sight.{committed_after, all_after}

-- the deltas of a row's entries
pub committed_deltas : (ds : List (Dated Delta)) → deltas_of (map committed_entry ds) ≡ law.deltas_of ds
committed_deltas [] = refl
committed_deltas (d ∷ ds) = ap (λ es. d.delta ∷ es) (committed_deltas ds)

pub all_deltas : (os : List Delta) (ds : List (Dated Delta)) → deltas_of (map open_entry os ++ map committed_entry ds) ≡ os ++ law.deltas_of ds
all_deltas [] ds = committed_deltas ds
all_deltas (o ∷ os) ds = ap (λ es. o ∷ es) (all_deltas os ds)

pub undone-append : (o : Object) (xs ys : List Delta) → law.undone after o (xs ++ ys) ≡ law.undone after (law.undone after o xs) ys
undone-append o xs ys = fold-append after o xs ys

-- ---- no delta of the history is above one of the chain

below_at_most : (c n : ℕ) (ds : List (Dated Delta)) → c ≤ n → AreAtMost n (below c ds)
below_at_most c n [] h = tt
below_at_most c n (d ∷ ds) h = by_test (nat_lt d.ts c) refl (below_at_most c n ds h)
  where
    by_test : (b : Bool) → nat_lt d.ts c ≡ b → AreAtMost n (below c ds) → AreAtMost n (cond b (d ∷ below c ds) (below c ds))
    by_test true e rest = let less : d.ts < c = grind (arith, nat_tests, e) in (omega (arith, less, h), rest)
    by_test false e rest = rest

committed_newer : (c : ℕ) (all ds : List (Dated Delta)) → AreNewer (map committed_entry (since c ds)) (below c all)
committed_newer c all [] = tt
committed_newer c all (d ∷ ds) = by_test (nat_le c d.ts) refl (committed_newer c all ds)
  where
    by_test : (b : Bool) → nat_le c d.ts ≡ b → AreNewer (map committed_entry (since c ds)) (below c all) → AreNewer (map committed_entry (cond b (d ∷ since c ds) (since c ds))) (below c all)
    by_test true e rest = let from : c ≤ d.ts = grind (arith, nat_tests, e) in (below_at_most c d.ts all from, rest)
    by_test false e rest = rest

open_newer : (os : List Delta) (es : List (Entry Delta)) (ds : List (Dated Delta)) → AreNewer es ds → AreNewer (map open_entry os ++ es) ds
open_newer [] es ds h = h
open_newer (o ∷ os) es ds h = (tt, open_newer os es ds h)

module _ (w : World) (o : InOrder w) (x : Oid) where
  have_history : history_of (blocks_of w x) ≡ history w x
  have_history = blocks_deltas after w.interval (object_below w x (cut_of w x)) (history w x)

  newer_than : (es : List (Entry Delta)) → AreNewer es (history w x) → AreNewer es (history_of (blocks_of w x))
  newer_than es h = subst (AreNewer es) (sym have_history) h

  anchored : AreAnchored after (object_below w x (cut_of w x)) (blocks_of w x)
  anchored = blocks_anchored after w.interval (object_below w x (cut_of w x)) (history w x)

  leads_by : (r : ObjectRow) (b : Option Writing) → FitsBy w x r b → LeadsOn after r.newest r.chain (blocks_of w x)
  leads_by r None fits = record {
    anchored = subst (λ (n : Object). AreAnchored after n (blocks_of w x))
        (sym (ap (λ (n : Object). law.undone after n (deltas_of r.chain)) fits.newest
        ∙ ap (λ (es : List (Entry Delta)). law.undone after (object_at (fold_of w.commits) x) (deltas_of es)) fits.chain
        ∙ ap (law.undone after (object_at (fold_of w.commits) x)) (committed_deltas (chain w x)))) anchored;
    newer = subst (λ (es : List (Entry Delta)). AreNewer es (history_of (blocks_of w x))) (sym fits.chain)
        (newer_than (map committed_entry (chain w x)) (committed_newer (cut_of w x) (undo_list w x) (undo_list w x)));
  }
  leads_by r (Some by) (p, fits) = record {
    anchored = subst (λ (n : Object). AreAnchored after n (blocks_of w x))
        (sym (ap (λ (n : Object). law.undone after n (deltas_of r.chain)) fits.newest
        ∙ ap (λ (es : List (Entry Delta)). law.undone after (object_at (view_of w p) x) (deltas_of es)) fits.chain
        ∙ ap (law.undone after (object_at (view_of w p) x)) (all_deltas (open_list w p x) (chain w x))
        ∙ undone-append (object_at (view_of w p) x) (open_list w p x) (law.deltas_of (chain w x))
        ∙ ap (λ (n : Object). law.undone after n (law.deltas_of (chain w x))) (own_undone w by.caller p x o fits.opened fits.touching))) anchored;
    newer = subst (λ (es : List (Entry Delta)). AreNewer es (history_of (blocks_of w x))) (sym fits.chain)
        (newer_than (map open_entry (open_list w p x) ++ map committed_entry (chain w x))
        (open_newer (open_list w p x) (map committed_entry (chain w x)) (history w x) (committed_newer (cut_of w x) (undo_list w x) (undo_list w x))));
  }

  -- where the chain ends, the history leads on
  pub leads_on : (r : ObjectRow) → FitsRow w x r → LeadsOn after r.newest r.chain (blocks_of w x)
  leads_on r fits = leads_by r r.writing fits

  -- the later deltas of the chain, and behind them those of the history, are all later ones
  parted : (t : ℕ) → law.deltas_of (later t (chain w x)) ++ law.deltas_of (later t (history w x)) ≡ law.deltas_of (later t (undo_list w x))
  parted t =
      sym (map-append (λ (d : Dated Delta). d.delta) (later t (chain w x)) (later t (history w x)))
      ∙ ap law.deltas_of (sym (filter-append (λ d. nat_lt t d.ts) (chain w x) (history w x)) ∙ ap (later t) (split (cut_of w x) (undo_list w x) (undo_descends w x o)))

  then_history : (t : ℕ) (n : Object) → law.undone after (law.undone after n (law.deltas_of (later t (chain w x)))) (law.deltas_of (later t (history_of (blocks_of w x)))) ≡ law.undone after n (law.deltas_of (later t (undo_list w x)))
  then_history t n =
      ap (λ ds. law.undone after (law.undone after n (law.deltas_of (later t (chain w x)))) (law.deltas_of (later t ds))) have_history
      ∙ sym (undone-append n (law.deltas_of (later t (chain w x))) (law.deltas_of (later t (history w x))))
      ∙ ap (law.undone after n) (parted t)

  whole_by : (t : ℕ) (r : ObjectRow) (b : Option Writing) → FitsBy w x r b → version_of after r.newest r.chain (blocks_of w x) t ≡ object_at (graph_at w.commits t) x
  whole_by t r None fits =
      ap (λ (n : Object). version_of after n r.chain (blocks_of w x) t) fits.newest
      ∙ ap (λ (es : List (Entry Delta)). version_of after (object_at (fold_of w.commits) x) es (blocks_of w x) t) fits.chain
      ∙ ap (λ ds. law.undone after (law.undone after (object_at (fold_of w.commits) x) ds) (law.deltas_of (later t (history_of (blocks_of w x))))) (committed_after t (chain w x))
      ∙ then_history t (object_at (fold_of w.commits) x)
      ∙ sym (instant_undone w t x o)
  whole_by t r (Some by) (p, fits) =
      ap (λ (n : Object). version_of after n r.chain (blocks_of w x) t) fits.newest
      ∙ ap (λ (es : List (Entry Delta)). version_of after (object_at (view_of w p) x) es (blocks_of w x) t) fits.chain
      ∙ ap (λ ds. law.undone after (law.undone after (object_at (view_of w p) x) ds) (law.deltas_of (later t (history_of (blocks_of w x))))) (all_after t (open_list w p x) (chain w x))
      ∙ ap (λ (n : Object). law.undone after n (law.deltas_of (later t (history_of (blocks_of w x))))) (undone-append (object_at (view_of w p) x) (open_list w p x) (law.deltas_of (later t (chain w x)))
      ∙ ap (λ (n : Object). law.undone after n (law.deltas_of (later t (chain w x)))) (own_undone w by.caller p x o fits.opened fits.touching))
      ∙ then_history t (object_at (fold_of w.commits) x)
      ∙ sym (instant_undone w t x o)

  -- a row and the blocks of its history tell the object at every instant
  pub whole_is : (t : ℕ) (r : ObjectRow) → FitsRow w x r → version_of after r.newest r.chain (blocks_of w x) t ≡ object_at (graph_at w.commits t) x
  whole_is t r fits = whole_by t r r.writing fits
