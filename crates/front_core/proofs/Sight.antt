-- What a row tells a reader and a writer is what the world says.
use Rattle.std.proofs.Common.{◌≡◌, ℕ, ◌+◌, ◌≤◌, List, [], ◌∷◌, ◌++◌, Option, Some, None, Bool, true, false, cond, fold, map, filter, refl, sym, ap, subst, ◌∙◌, arith}
use Rattle.std.specs.Prelude.{nat_eq, nat_lt, option_map}
use Rattle.std.specs.List.{filter_map}
use Rattle.std.proofs.lemmas.Bool.{false≢true}
use Rattle.std.proofs.lemmas.List.Sums.{fold-append}
use Rattle.graph_value.specs.declared.id.Oid.{Oid}
use Rattle.graph_record.specs.declared.object.Object.{Object}
use Rattle.graph_record.specs.Graph.{object_at}
use Rattle.txn_manager.specs.Conflict.{rival_of}
use Rattle.undo_law.specs.Undone as law
use Rattle.undo_law.specs.declared.dated.Dated.{Dated}
use Rattle.undo_delta.specs.Apply.{after}
use Rattle.undo_delta.specs.declared.delta.Delta.{Delta}
use Rattle.version_chain.specs.Entry.{is_after, open_entry}
use Rattle.version_chain.specs.Parts.{deltas_of, first_of, timestamps_of, version}
use Rattle.version_chain.specs.declared.entry.Entry.{Entry}
use Rattle.world_model.specs.Op.{are_touching}
use Rattle.world_model.specs.Undo.{undo_list, undone_above, open_list}
use Rattle.world_model.specs.Placement.{chain}
use Rattle.world_model.specs.World.{World, Txn, find_txn, txn_of, view_of, fold_of, graph_at, InOrder, other_writer, newest_touch, rival_at, cut_of, mark}
use Rattle.world_model.proofs.Undo.{instant_undone}
use Rattle.world_model.proofs.OpenUndo.{written_undone}
use Rattle.world_model.proofs.ObjectViews.{unwritten_view, unrivalled_view}
use Rattle.world_model.proofs.Rivals.{free_of_others}
use Rattle.world_model.proofs.Txns.{found_caller, no_rival}
use Rattle.front_core.specs.Keeps.{FitsRow, FitsBy, Unwritten, WrittenBy, committed_entry}
use Rattle.front_core.specs.Rows.{ObjectRow, is_writer, other_start, row_at_instant, row_rival, seen}
use Rattle.front_core.specs.declared.row.Writing.{Writing}
use Rattle.front_core.proofs.Finding.{differ_of, equal_of, nobody, same_writer, some_same, somebody, swapped}
use Rattle.front_core.proofs.Newest.{newest_is_touch}
use Rattle.front_core.proofs.Recent.{chain_later, same_rival}
use Rattle.world_model.proofs.Marks.{mark_of_open}

-- THE DELTAS THAT ARE UNDONE

-- of the commits' deltas those above the instant
pub committed_after : (t : ℕ) (ds : List (Dated Delta)) → deltas_of (filter (is_after t) (map committed_entry ds)) ≡ law.deltas_of (filter (λ d. nat_lt t d.ts) ds)
committed_after t [] = refl
committed_after t (d ∷ ds) = by_test (committed_after t ds) (nat_lt t d.ts)
  where
    by_test : deltas_of (filter (is_after t) (map committed_entry ds)) ≡ law.deltas_of (filter (λ d. nat_lt t d.ts) ds) → (b : Bool) → deltas_of (cond b (committed_entry d ∷ filter (is_after t) (map committed_entry ds)) (filter (is_after t) (map committed_entry ds))) ≡ law.deltas_of (cond b (d ∷ filter (λ d. nat_lt t d.ts) ds) (filter (λ d. nat_lt t d.ts) ds))
    by_test rest true = ap (λ es. d.delta ∷ es) rest
    by_test rest false = rest

-- and all open ones before them
pub all_after : (t : ℕ) (os : List Delta) (ds : List (Dated Delta)) → deltas_of (filter (is_after t) (map open_entry os ++ map committed_entry ds)) ≡ os ++ law.deltas_of (filter (λ d. nat_lt t d.ts) ds)
all_after t [] ds = committed_after t ds
all_after t (o ∷ os) ds = ap (λ es. o ∷ es) (all_after t os ds)

committed_stamps : (ds : List (Dated Delta)) → timestamps_of (map committed_entry ds) ≡ map (λ d. d.ts) ds
committed_stamps [] = refl
committed_stamps (d ∷ ds) = ap (λ ts. d.ts ∷ ts) (committed_stamps ds)

pub all_stamps : (os : List Delta) (ds : List (Dated Delta)) → timestamps_of (map open_entry os ++ map committed_entry ds) ≡ map (λ d. d.ts) ds
all_stamps [] ds = committed_stamps ds
all_stamps (o ∷ os) ds = all_stamps os ds

module _ (w : World) (o : InOrder w) (x : Oid) where
  -- AN INSTANT

  instant_unwritten : (t : ℕ) (r : ObjectRow) → cut_of w x ≤ t + 1 → Unwritten w x r → row_at_instant t r ≡ object_at (graph_at w.commits t) x
  instant_unwritten t r recent fits =
      ap (λ (n : Object). version after n r.chain t) fits.newest
      ∙ ap (λ (es : List (Entry Delta)). version after (object_at (fold_of w.commits) x) es t) fits.chain
      ∙ ap (fold after (object_at (fold_of w.commits) x)) (committed_after t (chain w x) ∙ ap law.deltas_of (chain_later w x t recent))
      ∙ sym (instant_undone w t x o)

  instant_written : (t : ℕ) (r : ObjectRow) (by : Writing) (p : Txn) → cut_of w x ≤ t + 1 → WrittenBy w x r by p → row_at_instant t r ≡ object_at (graph_at w.commits t) x
  instant_written t r by p recent fits =
      ap (λ (n : Object). version after n r.chain t) fits.newest
      ∙ ap (λ (es : List (Entry Delta)). version after (object_at (view_of w p) x) es t) fits.chain
      ∙ ap (fold after (object_at (view_of w p) x)) (all_after t (open_list w p x) (chain w x) ∙ ap (λ ds. open_list w p x ++ law.deltas_of ds) (chain_later w x t recent))
      ∙ fold-append after (object_at (view_of w p) x) (open_list w p x) (law.deltas_of (filter (λ d. nat_lt t d.ts) (undo_list w x)))
      ∙ written_undone w t by.caller p x o fits.opened fits.touching

  instant_by : (t : ℕ) (r : ObjectRow) (b : Option Writing) → cut_of w x ≤ t + 1 → FitsBy w x r b → row_at_instant t r ≡ object_at (graph_at w.commits t) x
  instant_by t r None recent fits = instant_unwritten t r recent fits
  instant_by t r (Some by) recent fits = instant_written t r by fits.0 recent fits.1

  -- the chain tells each instant that isn't below the cut
  pub instant_is : (t : ℕ) (r : ObjectRow) → cut_of w x ≤ t + 1 → FitsRow w x r → row_at_instant t r ≡ object_at (graph_at w.commits t) x
  instant_is t r recent fits = instant_by t r r.writing recent fits

  -- A VIEW

  module _ (low : cut_of w x ≤ mark w) (c : ℕ) (p : Txn) (found : txn_of w c ≡ Some p) (r : ObjectRow) where
    -- no cut is past the transaction's start
    below_start : cut_of w x ≤ p.start
    below_start = let first : mark w ≤ p.start = mark_of_open w c p found in omega (arith, low, first)

    -- whether the caller has written the object
    pub own_touch : (b : Option Writing) → FitsBy w x r b → is_writer c b ≡ are_touching p.ops x
    own_touch None fits = sym (fits.untouched c p found)
    own_touch (Some by) fits = by_test (nat_eq by.caller c) refl
      where
        by_test : (b : Bool) → nat_eq by.caller c ≡ b → nat_eq by.caller c ≡ are_touching p.ops x
        by_test true e = e ∙ sym (ap (λ (t : Txn). are_touching t.ops x) (some_same (sym found ∙ ap (find_txn w.running) (sym (equal_of by.caller c e)) ∙ fits.1.opened)) ∙ fits.1.touching)
        by_test false e = e ∙ sym (o.alone by.caller c fits.0 p fits.1.opened found (differ_of by.caller c e) x fits.1.touching)

    own_newest : (b : Option Writing) → FitsBy w x r b → is_writer c b ≡ true → r.newest ≡ object_at (view_of w p) x
    own_newest None fits h = absurd (false≢true h)
    own_newest (Some by) fits h =
        fits.1.newest ∙ ap (λ (t : Txn). object_at (view_of w t) x) (some_same (sym fits.1.opened ∙ ap (find_txn w.running) (equal_of by.caller c h) ∙ found))

    pub seen_is : FitsRow w x r → seen c p.start r ≡ object_at (view_of w p) x
    seen_is fits = by_writer (is_writer c r.writing) refl
      where
        by_writer : (b : Bool) → is_writer c r.writing ≡ b → cond b r.newest (row_at_instant p.start r) ≡ object_at (view_of w p) x
        by_writer true e = own_newest r.writing fits e
        by_writer false e = instant_is p.start r (omega (arith, below_start)) fits ∙ sym (unwritten_view w c p x o found (sym (own_touch r.writing fits) ∙ e))

    -- WHO STANDS IN THE WAY

    caller_is : p.caller ≡ c
    caller_is = equal_of p.caller c (found_caller w.running c p found)

    other_is : (b : Option Writing) → FitsBy w x r b → other_start c b ≡ option_map (λ q. q.start) (other_writer w.running c x)
    other_is None fits = sym (ap (option_map (λ (q : Txn). q.start)) (nobody w o x c (λ d q f ne. fits.untouched d q f)))
    other_is (Some by) fits = by_test (nat_eq by.caller c) refl
      where
        by_test : (b : Bool) → nat_eq by.caller c ≡ b → cond b None (Some by.start) ≡ option_map (λ q. q.start) (other_writer w.running c x)
        by_test true e =
            sym (ap (option_map (λ (q : Txn). q.start)) (nobody w o x c (λ d q f ne. o.alone by.caller d fits.0 q fits.1.opened f (λ s. differ_of d c ne (sym s ∙ equal_of by.caller c e)) x fits.1.touching)))
        by_test false e =
            ap Some fits.1.start ∙ sym (ap (option_map (λ (q : Txn). q.start)) (somebody w o x c by.caller fits.0 fits.1.opened fits.1.touching e))

    newest_stamp : (b : Option Writing) → FitsBy w x r b → first_of (timestamps_of r.chain) ≡ first_of (map (λ d. d.ts) (chain w x))
    newest_stamp None fits = ap (λ (es : List (Entry Delta)). first_of (timestamps_of es)) fits.chain ∙ ap first_of (committed_stamps (chain w x))
    newest_stamp (Some by) fits = ap (λ (es : List (Entry Delta)). first_of (timestamps_of es)) fits.1.chain ∙ ap first_of (all_stamps (open_list w fits.0 x) (chain w x))

    pub rival_is : FitsRow w x r → row_rival c p.start r ≡ rival_at w p x
    rival_is fits =
        ap (λ s. rival_of p.start s (first_of (timestamps_of r.chain))) (other_is r.writing fits)
        ∙ ap (rival_of p.start (option_map (λ (q : Txn). q.start) (other_writer w.running c x))) (newest_stamp r.writing fits)
        ∙ same_rival w x p.start (option_map (λ (q : Txn). q.start) (other_writer w.running c x)) o below_start
        ∙ ap (rival_of p.start (option_map (λ (q : Txn). q.start) (other_writer w.running c x))) (newest_is_touch w x o)
        ∙ ap (λ n. rival_of p.start (option_map (λ (q : Txn). q.start) (other_writer w.running n x)) (newest_touch w.commits x)) (sym caller_is)

    -- WHERE NOBODY DOES

    free_newest : rival_at w p x ≡ None → (b : Option Writing) → FitsBy w x r b → r.newest ≡ object_at (view_of w p) x
    free_newest free None fits = fits.newest ∙ sym (unrivalled_view w c p x o found free (fits.untouched c p found))
    free_newest free (Some by) fits = by_test (nat_eq by.caller c) refl
      where
        by_test : (b : Bool) → nat_eq by.caller c ≡ b → r.newest ≡ object_at (view_of w p) x
        by_test true e = own_newest (Some by) fits e
        by_test false e =
            let other : nat_eq p.caller by.caller ≡ false = subst (λ (n : ℕ). nat_eq n by.caller ≡ false) (sym caller_is) (swapped by.caller c e) in
            absurd (false≢true (sym (free_of_others w p x free by.caller fits.0 fits.1.opened other) ∙ fits.1.touching))

    pub newest_is : rival_at w p x ≡ None → FitsRow w x r → r.newest ≡ object_at (view_of w p) x
    newest_is free fits = free_newest free r.writing fits
