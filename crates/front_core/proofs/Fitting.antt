-- How the row of an object fits the world after a begin, a write, a commit and an abort.
use Rattle.std.proofs.Common.{◌≡◌, ℕ, ◌+◌, ◌<◌, List, [], ◌∷◌, ◌++◌, Option, Some, None, ◌⊎◌, Bool, true, false, ◌||◌, cond, map, filter, reverse, refl, sym, ap, subst, ◌∙◌, inl, inr, arith}
use Rattle.std.specs.Prelude.{◌≤◌, nat_eq, nat_lt, nat_le, option_map, unwrap_or}
use Rattle.std.proofs.lemmas.Bool.{false≢true}
use Rattle.std.proofs.lemmas.Bool.Decides.{nat_tests}
use Rattle.std.proofs.lemmas.List.{append_assoc, map-append}
use Rattle.std.proofs.lemmas.List.Elements.{filter-append}
use Rattle.graph_value.specs.declared.id.Oid.{Oid}
use Rattle.graph_record.specs.declared.object.Object.{Object}
use Rattle.graph_record.specs.Graph.{Graph, empty_graph, object_at}
use Rattle.undo_law.specs.declared.dated.Dated.{Dated}
use Rattle.undo_delta.specs.Change.{changed, deltas_of}
use Rattle.undo_delta.specs.Touch.{is_touched}
use Rattle.undo_delta.specs.declared.delta.Delta.{Delta}
use Rattle.undo_delta.specs.declared.op.Op.{Op}
use Rattle.version_chain.specs.Entry.{is_committed, open_entry, stamped}
use Rattle.version_chain.specs.declared.entry.Entry.{Entry}
use Rattle.world_model.specs.Op.{apply_all, are_touching}
use Rattle.world_model.specs.Change.{object_after, object_after_all}
use Rattle.world_model.specs.Refusals.{or_else}
use Rattle.world_model.specs.Step.{with_op, without, begun_world}
use Rattle.world_model.specs.Undo.{both, dated, left_by, left_by_all, undo_list, open_list}
use Rattle.world_model.specs.Placement.{chain, since}
use Rattle.world_model.specs.World.{World, Commit, Txn, find_txn, txn_of, view_of, fold_of, ops_of, before, cut_of, InOrder}
use Rattle.world_model.proofs.Objects.{object_at-apply, object_at-apply_all, apply_all-append, are_touching-append, untouched}
use Rattle.world_model.proofs.ObjectViews.{written_base}
use Rattle.world_model.proofs.Pieced.{dated_kept}
use Rattle.world_model.proofs.Txns.{find_txn-append, find_txn-with_op, find_txn-without, with_write}
use Rattle.world_model.proofs.Begins.{begun_found, fresh, no_touch, touching_none}
use Rattle.world_model.proofs.Writes.{Written, own, others, written_found}
use Rattle.world_model.proofs.Commits.{left_found}
use Rattle.world_model.proofs.Lists.{started_below}
use Rattle.world_model.proofs.Folds.{before-one, ops_of-one}
use Rattle.front_core.specs.Keeps.{FitsRow, FitsBy, Unwritten, WrittenBy, committed_entry}
use Rattle.front_core.specs.Rows.{ObjectRow, is_writer, begun_row, changed_row, written_row, committed_as, aborted_as, pushed}
use Rattle.front_core.specs.declared.row.Writing.{Writing}
use Rattle.front_core.proofs.Finding.{differ_of, equal_of, some_same, swapped, test_of}
use Rattle.front_core.proofs.Left.{left_by_touch, left_none, left_one, left_same, all_stamped, open_dropped, pushed_front, undo_one}

-- A BEGIN

found_begun : (ps : List Txn) (p : Txn) (d : ℕ) (q : Txn) → find_txn ps d ≡ Some q → find_txn (ps ++ p ∷ []) d ≡ Some q
found_begun ps p d q f = find_txn-append ps p d ∙ ap (λ (r : Option Txn). or_else r (cond (nat_eq p.caller d) (Some p) None)) f

begun_by : (w : World) (c : ℕ) (x : Oid) (r : ObjectRow) (b : Option Writing) → FitsBy w x r b → FitsBy (begun_world w c) x r b
begun_by w c x r None fits = record {
  untouched = λ d q f. elim (begun_found w.running (fresh w c) d q f) [
    | inl old ↦ fits.untouched d q old
    | inr new ↦ subst (λ (t : Txn). are_touching t.ops x ≡ false) (sym new) (no_touch x)
  ];
  newest = fits.newest;
  chain = fits.chain;
}
begun_by w c x r (Some by) (p, fits) = (
  p,
  record {
    opened = found_begun w.running (fresh w c) by.caller p fits.opened;
    start = fits.start;
    touching = fits.touching;
    newest = fits.newest;
    chain = fits.chain;
    former = fits.former;
  },
)

pub fits_begun : (w : World) (c : ℕ) (x : Oid) (r : ObjectRow) → FitsRow w x r → FitsRow (begun_world w c) x r
fits_begun w c x r fits = begun_by w c x r r.writing fits

-- A WRITE

found_written : (ps : List Txn) (c : ℕ) (op : Op) (p : Txn) → find_txn ps c ≡ Some p → find_txn (with_op ps c op) c ≡ Some (with_write op p)
found_written ps c op p f =
    find_txn-with_op ps c op c
    ∙ ap (λ b. cond b (option_map (with_write op) (find_txn ps c)) (find_txn ps c)) (test_of c c refl)
    ∙ ap (option_map (with_write op)) f

found_other : (ps : List Txn) (c : ℕ) (op : Op) (d : ℕ) (q : Txn) → nat_eq c d ≡ false → find_txn ps d ≡ Some q → find_txn (with_op ps c op) d ≡ Some q
found_other ps c op d q ne f = find_txn-with_op ps c op d ∙ ap (λ b. cond b (option_map (with_write op) (find_txn ps d)) (find_txn ps d)) ne ∙ f

touching_more : (p : Txn) (op : Op) (x : Oid) → are_touching (p.ops ++ op ∷ []) x ≡ (are_touching p.ops x || (is_touched op x || false))
unfolding are_touching
touching_more p op x = are_touching-append p.ops (op ∷ []) x

or_true : (b : Bool) → (b || true) ≡ true
or_true true = refl
or_true false = refl

module _ (w : World) (c : ℕ) (p : Txn) (found : txn_of w c ≡ Some p) (op : Op) (vertices edges : ℕ) (x : Oid) where
  abbrev w' : World
  w' = record w { vertices = vertices; edges = edges; running = with_op w.running c op }

  abbrev p' : Txn
  p' = with_write op p

  view_more : object_at (view_of w' p') x ≡ object_after op x (object_at (view_of w p) x)
  unfolding apply_all
  view_more = ap (λ (g : Graph). object_at g x) (apply_all-append p.ops (op ∷ []) (fold_of (before p.start w.commits))) ∙ object_at-apply op (view_of w p) x

  open_more : open_list w' p' x ≡ reverse (left_by op x (object_at (view_of w p) x)) ++ open_list w p x
  open_more = left_one p.ops op (fold_of (before p.start w.commits)) x

  -- a transaction that is the caller's is this one
  mine : (d : ℕ) (q : Txn) → nat_eq c d ≡ true → txn_of w d ≡ Some q → p ≡ q
  mine d q e f = some_same (sym found ∙ ap (find_txn w.running) (equal_of c d e) ∙ f)

  -- where the write touches the object
  module _ (touched : is_touched op x ≡ true) (r : ObjectRow) (start : ℕ) (is_start : start ≡ p.start) (newest : r.newest ≡ object_at (view_of w p) x) where
    touching' : are_touching p'.ops x ≡ true
    touching' = touching_more p op x ∙ ap (λ b. are_touching p.ops x || (b || false)) touched ∙ or_true (are_touching p.ops x)

    newest' : changed op x r.newest ≡ object_at (view_of w' p') x
    newest' = ap (changed op x) newest ∙ sym (view_more ∙ ap (λ b. cond b (changed op x (object_at (view_of w p) x)) (object_at (view_of w p) x)) touched)

    chain' : r.chain ≡ map open_entry (open_list w p x) ++ map committed_entry (chain w x) → pushed (deltas_of op x r.newest) r.chain ≡ map open_entry (open_list w' p' x) ++ map committed_entry (chain w x)
    chain' is =
        ap (λ o. pushed (deltas_of op x o) r.chain) newest
        ∙ pushed_front (deltas_of op x (object_at (view_of w p) x)) r.chain
        ∙ ap (λ es. map open_entry (reverse (both (deltas_of op x (object_at (view_of w p) x)))) ++ es) is
        ∙ sym (append_assoc (map open_entry (reverse (both (deltas_of op x (object_at (view_of w p) x))))) (map open_entry (open_list w p x)) (map committed_entry (chain w x)))
        ∙ ap (λ es. es ++ map committed_entry (chain w x)) (sym (map-append open_entry (reverse (both (deltas_of op x (object_at (view_of w p) x)))) (open_list w p x)))
        ∙ ap (λ ds. map open_entry (reverse ds ++ open_list w p x) ++ map committed_entry (chain w x)) (sym (left_by_touch op x (object_at (view_of w p) x) touched))
        ∙ ap (λ ds. map open_entry ds ++ map committed_entry (chain w x)) (sym open_more)

    written_by : (b : Option Writing) → FitsBy w x r b → (is_writer c b ≡ true) ⊎ (b ≡ None) →
        FitsBy w' x (record { newest = changed op x r.newest; chain = pushed (deltas_of op x r.newest) r.chain; writing = Some (unwrap_or b (record { caller = c; start = start; former = r.newest })) }) (Some (unwrap_or b (record { caller = c; start = start; former = r.newest })))
    written_by None fits own_or = (
      p',
      record {
        opened = found_written w.running c op p found;
        start = is_start;
        touching = touching';
        newest = newest';
        chain = chain' (fits.chain ∙ ap (λ ds. map open_entry (reverse ds) ++ map committed_entry (chain w x)) (sym (left_none p.ops (fold_of (before p.start w.commits)) x (fits.untouched c p found))));
        former = fits.newest;
      },
    )
    written_by (Some by) (q, fits) (inl its) =
        let at : by.caller ≡ c = equal_of by.caller c its in
        let is : p ≡ q = mine by.caller q (test_of c by.caller (sym at)) fits.opened in (
          p',
          record {
            opened = ap (find_txn (with_op w.running c op)) at ∙ found_written w.running c op p found;
            start = fits.start ∙ ap (λ (t : Txn). t.start) (sym is);
            touching = touching';
            newest = newest';
            chain = chain' (fits.chain ∙ ap (λ (t : Txn). map open_entry (open_list w t x) ++ map committed_entry (chain w x)) (sym is));
            former = fits.former;
          },
        )
    written_by (Some by) fits (inr none) = absurd cc

    pub fits_written : FitsRow w x r → (is_writer c r.writing ≡ true) ⊎ (r.writing ≡ None) → FitsRow w' x (written_row c start op x r)
    fits_written fits own_or = written_by r.writing fits own_or

  -- where it doesn't
  module _ (quiet : is_touched op x ≡ false) (r : ObjectRow) where
    beside_by : (b : Option Writing) → FitsBy w x r b → FitsBy w' x r b
    beside_by None fits = record {
      untouched = λ d q f. by_case d q (written_found c op w.running d q f);
      newest = fits.newest;
      chain = fits.chain;
    }
      where
        by_case : (d : ℕ) (q : Txn) → Written c op w.running d q → are_touching q.ops x ≡ false
        by_case d q (own s e f is) =
            subst (λ (t : Txn). are_touching t.ops x ≡ false) (sym is)
            (touching_more s op x ∙ ap (λ b. b || (is_touched op x || false)) (fits.untouched d s f) ∙ ap (λ b. b || false) quiet)
        by_case d q (others ne f) = fits.untouched d q f
    beside_by (Some by) (q, fits) = by_caller (nat_eq c by.caller) refl
      where
        by_caller : (b : Bool) → nat_eq c by.caller ≡ b → FitsBy w' x r (Some by)
        by_caller true e =
            let is : p ≡ q = mine by.caller q e fits.opened in (
              p',
              record {
                opened = ap (find_txn (with_op w.running c op)) (sym (equal_of c by.caller e)) ∙ found_written w.running c op p found;
                start = fits.start ∙ ap (λ (t : Txn). t.start) (sym is);
                touching = touching_more p op x ∙ ap (λ b. b || (is_touched op x || false)) (ap (λ (t : Txn). are_touching t.ops x) is ∙ fits.touching);
                newest = fits.newest ∙ ap (λ (t : Txn). object_at (view_of w t) x) (sym is) ∙ sym (view_more ∙ ap (λ b. cond b (changed op x (object_at (view_of w p) x)) (object_at (view_of w p) x)) quiet);
                chain = fits.chain ∙ ap (λ (t : Txn). map open_entry (open_list w t x) ++ map committed_entry (chain w x)) (sym is)
                    ∙ ap (λ ds. map open_entry ds ++ map committed_entry (chain w x)) (sym (open_more ∙ ap (λ b. reverse (cond b (both (deltas_of op x (object_at (view_of w p) x))) []) ++ open_list w p x) quiet));
                former = fits.former;
              },
            )
        by_caller false e = (
          q,
          record {
            opened = found_other w.running c op by.caller q e fits.opened;
            start = fits.start;
            touching = fits.touching;
            newest = fits.newest;
            chain = fits.chain;
            former = fits.former;
          },
        )

    pub fits_beside : FitsRow w x r → FitsRow w' x r
    fits_beside fits = beside_by r.writing fits

-- AN END

found_left : (c : ℕ) (ps : List Txn) (d : ℕ) (q : Txn) → nat_eq c d ≡ false → find_txn ps d ≡ Some q → find_txn (without c ps) d ≡ Some q
found_left c ps d q ne f = find_txn-without c ps d ∙ ap (λ b. cond b None (find_txn ps d)) ne ∙ f

module _ (w : World) (c : ℕ) (p : Txn) (o : InOrder w) (found : txn_of w c ≡ Some p) (x : Oid) where
  abbrev left : World
  left = record w { running = without c w.running }

  -- a row that isn't the caller's stays
  spared_by : (r : ObjectRow) (b : Option Writing) → FitsBy w x r b → is_writer c b ≡ false → FitsBy left x r b
  spared_by r None fits not_mine = record { untouched = λ d q f. fits.untouched d q (left_found c w.running d q f).1; newest = fits.newest; chain = fits.chain }
  spared_by r (Some by) (q, fits) not_mine = (
    q,
    record {
      opened = found_left c w.running by.caller q (swapped by.caller c not_mine) fits.opened;
      start = fits.start;
      touching = fits.touching;
      newest = fits.newest;
      chain = fits.chain;
      former = fits.former;
    },
  )

  pub fits_spared : (r : ObjectRow) → FitsRow w x r → is_writer c r.writing ≡ false → FitsRow left x r
  fits_spared r fits not_mine = spared_by r r.writing fits not_mine

  -- nobody else has written what the caller has
  alone : are_touching p.ops x ≡ true → (d : ℕ) (q : Txn) → find_txn (without c w.running) d ≡ Some q → are_touching q.ops x ≡ false
  alone touched d q f = let l = left_found c w.running d q f in o.alone c d p q found l.1 (differ_of c d l.0) x touched

  is_mine : (r : ObjectRow) (by : Writing) (q : Txn) → WrittenBy w x r by q → nat_eq by.caller c ≡ true → q ≡ p
  is_mine r by q fits e = some_same (sym fits.opened ∙ ap (find_txn w.running) (equal_of by.caller c e) ∙ found)

  aborted_by : (r : ObjectRow) (b : Option Writing) → FitsBy w x r b → is_writer c b ≡ true → FitsRow left x (aborted_as r b)
  aborted_by r None fits e = absurd (false≢true e)
  aborted_by r (Some by) (q, fits) e = record {
    untouched = alone (ap (λ (t : Txn). are_touching t.ops x) (sym (is_mine r by q fits e)) ∙ fits.touching);
    newest = fits.former;
    chain = ap (filter is_committed) fits.chain ∙ open_dropped (open_list w q x) (chain w x);
  }

  pub fits_aborted : (r : ObjectRow) → FitsRow w x r → is_writer c r.writing ≡ true → FitsRow left x (aborted_as r r.writing)
  fits_aborted r fits e = aborted_by r r.writing fits e

  -- A COMMIT

  abbrev k : Commit
  k = record { ts = w.clock; ops = p.ops }

  abbrev done : World
  done = record w { clock = w.clock + 1; commits = w.commits ++ k ∷ []; running = without c w.running }

  folded : fold_of (w.commits ++ k ∷ []) ≡ apply_all p.ops (fold_of w.commits)
  folded = ap (λ ops. apply_all ops empty_graph) (ops_of-one w.commits k) ∙ apply_all-append (ops_of w.commits) p.ops empty_graph

  same_before : (d : ℕ) (q : Txn) → find_txn w.running d ≡ Some q → before q.start (w.commits ++ k ∷ []) ≡ before q.start w.commits
  same_before d q f = before-one q.start w.commits k (not_below w.clock q.start (started_below w.clock w.running d q o.ready.past f))
    where
      not_below : (n s : ℕ) → s < n → nat_lt n s ≡ false
      not_below n s lt = grind (arith, nat_tests)

  -- what the caller hasn't written its commit leaves
  quiet_object : are_touching p.ops x ≡ false → object_at (fold_of (w.commits ++ k ∷ [])) x ≡ object_at (fold_of w.commits) x
  quiet_object quiet = ap (λ (g : Graph). object_at g x) folded ∙ object_at-apply_all p.ops (fold_of w.commits) x ∙ untouched p.ops x (object_at (fold_of w.commits) x) quiet

  -- the chain of an object after the commit: what the commit left is at the clock, which no cut is above
  chain_one : cut_of w x ≤ w.clock → chain done x ≡ dated w.clock (reverse (left_by_all p.ops x (fold_of w.commits))) ++ chain w x
  chain_one low =
      ap (since (cut_of w x)) (undo_one w k x done refl)
      ∙ filter-append (λ d. nat_le (cut_of w x) d.ts) (dated w.clock (reverse (left_by_all p.ops x (fold_of w.commits)))) (undo_list w x)
      ∙ ap (λ ds. ds ++ chain w x) (dated_kept (cut_of w x) w.clock (reverse (left_by_all p.ops x (fold_of w.commits))) low)

  quiet_list : cut_of w x ≤ w.clock → are_touching p.ops x ≡ false → chain done x ≡ chain w x
  quiet_list low quiet = chain_one low ∙ ap (λ ds. dated w.clock (reverse ds) ++ chain w x) (left_none p.ops (fold_of w.commits) x quiet)

  kept_by : (r : ObjectRow) (b : Option Writing) → cut_of w x ≤ w.clock → FitsBy w x r b → is_writer c b ≡ false → FitsBy done x r b
  kept_by r None low fits not_mine =
      let quiet : are_touching p.ops x ≡ false = fits.untouched c p found in record {
        untouched = λ d q f. fits.untouched d q (left_found c w.running d q f).1;
        newest = fits.newest ∙ sym (quiet_object quiet);
        chain = fits.chain ∙ ap (map committed_entry) (sym (quiet_list low quiet));
      }
  kept_by r (Some by) low (q, fits) not_mine =
      let quiet : are_touching p.ops x ≡ false = o.alone by.caller c q p fits.opened found (differ_of by.caller c not_mine) x fits.touching in
      let same = same_before by.caller q fits.opened in (
        q,
        record {
          opened = found_left c w.running by.caller q (swapped by.caller c not_mine) fits.opened;
          start = fits.start;
          touching = fits.touching;
          newest = fits.newest ∙ ap (λ cs. object_at (apply_all q.ops (fold_of cs)) x) (sym same);
          chain = fits.chain ∙ ap (λ cs. map open_entry (reverse (left_by_all q.ops x (fold_of cs))) ++ map committed_entry (chain w x)) (sym same)
              ∙ ap (λ ds. map open_entry (open_list done q x) ++ map committed_entry ds) (sym (quiet_list low quiet));
          former = fits.former ∙ sym (quiet_object quiet);
        },
      )

  pub fits_kept : (r : ObjectRow) → cut_of w x ≤ w.clock → FitsRow w x r → is_writer c r.writing ≡ false → FitsRow done x r
  fits_kept r low fits not_mine = kept_by r r.writing low fits not_mine

  own_object : are_touching p.ops x ≡ true → object_at (view_of w p) x ≡ object_at (fold_of (w.commits ++ k ∷ [])) x
  own_object touched =
      object_at-apply_all p.ops (fold_of (before p.start w.commits)) x
      ∙ ap (object_after_all p.ops x) (written_base w c p x o found touched)
      ∙ sym (ap (λ (g : Graph). object_at g x) folded ∙ object_at-apply_all p.ops (fold_of w.commits) x)

  committed_by : (r : ObjectRow) (b : Option Writing) → cut_of w x ≤ w.clock → FitsBy w x r b → is_writer c b ≡ true → FitsRow done x (committed_as w.clock r b)
  committed_by r None low fits e = absurd (false≢true e)
  committed_by r (Some by) low (q, fits) e =
      let is : q ≡ p = is_mine r by q fits e in
      let touched : are_touching p.ops x ≡ true = ap (λ (t : Txn). are_touching t.ops x) (sym is) ∙ fits.touching in record {
        untouched = alone touched;
        newest = fits.newest ∙ ap (λ (t : Txn). object_at (view_of w t) x) is ∙ own_object touched;
        chain = ap (map (stamped w.clock)) fits.chain
            ∙ all_stamped w.clock (open_list w q x) (chain w x)
            ∙ ap (λ (t : Txn). map committed_entry (dated w.clock (open_list w t x) ++ chain w x)) is
            ∙ ap (λ ds. map committed_entry (dated w.clock (reverse ds) ++ chain w x)) (left_same p.ops (fold_of (before p.start w.commits)) (fold_of w.commits) x (written_base w c p x o found touched))
            ∙ ap (map committed_entry) (sym (chain_one low));
      }

  pub fits_committed : (r : ObjectRow) → cut_of w x ≤ w.clock → FitsRow w x r → is_writer c r.writing ≡ true → FitsRow done x (committed_as w.clock r r.writing)
  fits_committed r low fits e = committed_by r r.writing low fits e
