-- Once a piece is installed, the state keeps the world in which its deltas lie in the history.
use Rattle.std.proofs.Common.{◌≡◌, ℕ, ◌≤◌, List, ◌++◌, Option, Some, None, Bool, true, false, not, ◌&&◌, cond, map, filter, refl, sym, ap, subst, ◌∙◌, arith}
use Rattle.std.specs.Prelude.{nat_eq, is_some}
use Rattle.std.proofs.lemmas.Bool.{false≢true}
use Rattle.std.proofs.lemmas.Bool.Decides.{nat_tests}
use Rattle.graph_value.specs.declared.id.Oid.{Oid}
use Rattle.graph_record.specs.declared.object.Object.{Object}
use Rattle.undo_law.specs.declared.dated.Dated.{Dated}
use Rattle.undo_delta.specs.Apply.{after}
use Rattle.undo_delta.specs.Touch.{same_oid}
use Rattle.undo_delta.specs.declared.delta.Delta.{Delta}
use Rattle.version_chain.specs.Entry.{is_not_before, open_entry}
use Rattle.version_chain.specs.declared.entry.Entry.{Entry}
use Rattle.anchor_store.specs.Blocks.{BlockParts, blocks, history_of, newest_of, smaller_than, staying}
use Rattle.anchor_store.specs.Groups.{AreDescending}
use Rattle.anchor_store.proofs.Grown.{blocks_deltas}
use Rattle.history_keeper.specs.Rows.{AreInOrder, RowParts, extended}
use Rattle.world_model.specs.Pieces.{PieceParts}
use Rattle.world_model.specs.Placement.{IsRight, below, block_with_room, blocks_of, chain, object_below, since}
use Rattle.world_model.specs.Reply as reply
use Rattle.world_model.specs.History.{is_refused}
use Rattle.world_model.specs.Step.{Outcome, install_step, installed_world, refused}
use Rattle.world_model.specs.Undo.{undo_list, open_list}
use Rattle.world_model.specs.World.{World, InOrder, cut_of, mark}
use Rattle.world_model.specs.declared.answer.Refused.TheVariants.{NoMemory, Stale}
use Rattle.world_model.specs.declared.event.Event.TheVariants.{Install}
use Rattle.world_model.proofs.Folds.{same_id, same_itself}
use Rattle.world_model.proofs.Order.{installed}
use Rattle.world_model.proofs.Parted.{below_descends, since_since, undo_descends}
use Rattle.front_core.specs.Histories.{Moved, history_at}
use Rattle.front_core.specs.Keeps.{FitsBy, FitsRow, Keeps, Obeys, committed_entry}
use Rattle.front_core.specs.Objects.{Replaced, row_at}
use Rattle.front_core.specs.Rows.{ObjectRow, cut_row}
use Rattle.front_core.specs.declared.histories.Histories.{Histories}
use Rattle.front_core.specs.declared.objects.Objects.{Objects}
use Rattle.front_core.specs.declared.row.Writing.{Writing}
use Rattle.front_core.specs.declared.state.State.{State}
use Rattle.front_core.proofs.Expired.{all_since, committed_since}
use Rattle.front_core.proofs.Stepping.{entry, obeys_no_memory, obeys_refusal, obeys_step}

-- sameness of objects goes both ways
turned : (a b : Oid) → same_oid a b ≡ true → same_oid b a ≡ true
turned a b e = ap (λ z. same_oid b z) (same_id a b e) ∙ same_itself b

apart : (a b : Oid) → same_oid a b ≡ false → same_oid b a ≡ false
apart a b e = by_test (same_oid b a) refl
  where
    by_test : (t : Bool) → same_oid b a ≡ t → same_oid b a ≡ false
    by_test true h = absurd (false≢true (sym e ∙ turned b a h))
    by_test false h = h

module _ (s : State) (w : World) (piece : PieceParts) (keeps : Keeps s w) (right : IsRight w piece) (same : piece.cut ≡ cut_of w piece.x) where
  abbrev done : World
  done = installed_world w piece

  cut_here : (y : Oid) → same_oid piece.x y ≡ true → cut_of done y ≡ piece.mark
  cut_here y e = ap (λ b. cond b piece.mark (cut_of w y)) e

  cut_other : (y : Oid) → same_oid piece.x y ≡ false → cut_of done y ≡ cut_of w y
  cut_other y e = ap (λ b. cond b piece.mark (cut_of w y)) e

  cut_own : cut_of done piece.x ≡ piece.mark
  cut_own = cut_here piece.x (same_itself piece.x)

  low : cut_of w piece.x ≤ piece.mark
  low = let before : piece.cut ≤ piece.mark = right.order.0 in omega (arith, before, same)

  -- THE CHAINS

  chain_own : map committed_entry (since piece.mark (chain w piece.x)) ≡ map committed_entry (chain done piece.x)
  chain_own =
      ap (map committed_entry) (since_since (cut_of w piece.x) piece.mark (undo_list w piece.x) low
      ∙ ap (λ c. since c (undo_list w piece.x)) (sym cut_own))

  own_by : (r : ObjectRow) (b : Option Writing) → FitsBy w piece.x r b → FitsBy done piece.x (record { newest = r.newest; chain = filter (is_not_before piece.mark) r.chain; writing = r.writing }) b
  own_by r None fits = record {
    untouched = fits.untouched;
    newest = fits.newest;
    chain = ap (filter (is_not_before piece.mark)) fits.chain ∙ committed_since piece.mark (chain w piece.x) ∙ chain_own;
  }
  own_by r (Some by) (p, fits) = (
    p,
    record {
      opened = fits.opened;
      start = fits.start;
      touching = fits.touching;
      newest = fits.newest;
      chain = ap (filter (is_not_before piece.mark)) fits.chain ∙ all_since piece.mark (open_list w p piece.x) (chain w piece.x)
          ∙ ap (λ es. map open_entry (open_list w p piece.x) ++ es) chain_own;
      former = fits.former;
    },
  )

  other_by : (y : Oid) → same_oid piece.x y ≡ false → (r : ObjectRow) (b : Option Writing) → FitsBy w y r b → FitsBy done y r b
  other_by y e r None fits = record {
    untouched = fits.untouched;
    newest = fits.newest;
    chain = fits.chain ∙ ap (λ c. map committed_entry (since c (undo_list w y))) (sym (cut_other y e));
  }
  other_by y e r (Some by) (p, fits) = (
    p,
    record {
      opened = fits.opened;
      start = fits.start;
      touching = fits.touching;
      newest = fits.newest;
      chain = fits.chain ∙ ap (λ c. map open_entry (open_list w p y) ++ map committed_entry (since c (undo_list w y))) (sym (cut_other y e));
      former = fits.former;
    },
  )

  rows_fit : (y : Oid) (b : Bool) → same_oid y piece.x ≡ b → FitsRow done y (cond b (cut_row piece.mark (row_at s.objects piece.x)) (row_at s.objects y))
  rows_fit y true e =
      subst (λ (z : Oid). FitsRow done z (cut_row piece.mark (row_at s.objects piece.x))) (sym (same_id y piece.x e))
      (own_by (row_at s.objects piece.x) (row_at s.objects piece.x).writing (keeps.rows piece.x))
  rows_fit y false e = other_by y (apart y piece.x e) (row_at s.objects y) (row_at s.objects y).writing (keeps.rows y)

  -- THE HISTORIES

  abbrev replaces : Bool
  replaces = is_some (block_with_room w piece.x)

  -- what the history will have
  abbrev all_blocks : List (BlockParts Object Delta)
  all_blocks = staying replaces (blocks_of w piece.x) ++ piece.blocks

  blocks_own : all_blocks ≡ blocks_of done piece.x
  blocks_own =
      right.blocks same
      ∙ ap (λ c. blocks after w.interval (object_below w piece.x c) (below c (undo_list w piece.x))) (sym cut_own)

  -- as the state tells whether the newest block is replaced
  abbrev Tells : Bool → Type 0
  Tells b = b ≡ is_some (smaller_than s.histories.interval (newest_of (history_at s.histories piece.x).blocks))

  told : (b : Bool) → Tells b → b ≡ replaces
  told b tells =
      tells
      ∙ ap (λ k. is_some (smaller_than k (newest_of (history_at s.histories piece.x).blocks))) keeps.interval
      ∙ ap (λ (h : RowParts Object Delta). is_some (smaller_than w.interval (newest_of h.blocks))) (keeps.histories piece.x)

  in_order : AreInOrder all_blocks
  in_order =
      subst (λ (ds : List (Dated Delta)). AreDescending ds)
      (sym (ap history_of (right.blocks same) ∙ blocks_deltas after w.interval (object_below w piece.x piece.mark) (below piece.mark (undo_list w piece.x))))
      (below_descends piece.mark (undo_list w piece.x) (undo_descends w piece.x keeps.ordered))

  pub order_kept : (b : Bool) → Tells b → AreInOrder (staying b (history_at s.histories piece.x).blocks ++ piece.blocks)
  order_kept b tells =
      subst (λ (bs : List (BlockParts Object Delta)). AreInOrder bs)
      (sym (ap (λ r. staying r (history_at s.histories piece.x).blocks ++ piece.blocks) (told b tells)
      ∙ ap (λ (h : RowParts Object Delta). staying replaces h.blocks ++ piece.blocks) (keeps.histories piece.x))) in_order

  abbrev history_now : World → Oid → RowParts Object Delta
  history_now v y = record { cut = cut_of v y; blocks = blocks_of v y }

  own_history : extended replaces piece.blocks piece.mark (history_at s.histories piece.x) ≡ history_now done piece.x
  own_history =
      ap (extended replaces piece.blocks piece.mark) (keeps.histories piece.x)
      ∙ ap (λ c. record { cut = c; blocks = all_blocks }) (sym cut_own)
      ∙ ap (λ bs. record { cut = cut_of done piece.x; blocks = bs }) blocks_own

  other_history : (y : Oid) → same_oid piece.x y ≡ false → history_at s.histories y ≡ history_now done y
  other_history y e =
      keeps.histories y
      ∙ ap (λ c. record { cut = c; blocks = blocks after w.interval (object_below w y c) (below c (undo_list w y)) }) (sym (cut_other y e))

  histories_fit : (y : Oid) (b : Bool) → same_oid y piece.x ≡ b → cond b (extended replaces piece.blocks piece.mark (history_at s.histories piece.x)) (history_at s.histories y) ≡ history_now done y
  histories_fit y true e = own_history ∙ ap (history_now done) (sym (same_id y piece.x e))
  histories_fit y false e = other_history y (apart y piece.x e)

  cuts_fit : (y : Oid) (b : Bool) → same_oid piece.x y ≡ b → cond b piece.mark (cut_of w y) ≤ mark w
  cuts_fit y true e = right.order.1
  cuts_fit y false e = keeps.cuts y

  -- THE WORLD AFTER IT

  pub keeps_installed : (objects : Objects) (histories : Histories) (b : Bool) → Tells b → Replaced s.objects objects piece.x (cut_row piece.mark (row_at s.objects piece.x)) →
      Moved s.histories histories piece.x (extended b piece.blocks piece.mark (history_at s.histories piece.x)) →
      Keeps (record s { objects = objects; histories = histories }) done
  keeps_installed objects histories b tells replaced moved = record {
    ordered = installed w piece keeps.ordered;
    times = keeps.times;
    written = keeps.written;
    vertices = omega (arith, replaced.ids.vertices.first, replaced.ids.vertices.count, keeps.vertices);
    edges = omega (arith, replaced.ids.edges.first, replaced.ids.edges.count, keeps.edges);
    rows = λ y. subst (FitsRow done y) (sym (replaced.rows y)) (rows_fit y (same_oid y piece.x) refl);
    cuts = λ y. cuts_fit y (same_oid piece.x y) refl;
    deltas = keeps.deltas;
    counts = record { committed = keeps.counts.committed; all = keeps.counts.all; most = keeps.counts.most };
    alike = record {
      vertices = moved.base.vertices ∙ keeps.alike.vertices ∙ sym replaced.ids.vertices.first;
      edges = moved.base.edges ∙ keeps.alike.edges ∙ sym replaced.ids.edges.first;
    };
    interval = moved.base.interval ∙ keeps.interval;
    histories = λ y.
        moved.rows y
        ∙ ap (λ r. cond (same_oid y piece.x) (extended r piece.blocks piece.mark (history_at s.histories piece.x)) (history_at s.histories y)) (told b tells)
        ∙ histories_fit y (same_oid y piece.x) refl;
  }

-- THE STEP

equal_test : (a b : ℕ) → a ≡ b → nat_eq a b ≡ true
equal_test a b h = grind (arith, nat_tests)

differ_test : (a b : ℕ) → nat_eq a b ≡ false → (a ≡ b → ⊥)
differ_test a b h = grind (arith, nat_tests)

pub fresh_step : (w : World) (piece : PieceParts) → piece.cut ≡ cut_of w piece.x → install_step w piece ≡ record { reply = reply.Installed; world = installed_world w piece }
fresh_step w piece same = ap (λ b. cond b (record { reply = reply.Installed; world = installed_world w piece }) (refused w (Stale (cut_of w piece.x)))) (equal_test piece.cut (cut_of w piece.x) same)

pub stale_step : (w : World) (piece : PieceParts) → nat_eq piece.cut (cut_of w piece.x) ≡ false → install_step w piece ≡ refused w (Stale (cut_of w piece.x))
stale_step w piece other = ap (λ b. cond b (record { reply = reply.Installed; world = installed_world w piece }) (refused w (Stale (cut_of w piece.x)))) other

-- an installation that found no memory
pub not_installed : (s : State) (w : World) (c : ℕ) (piece : PieceParts) → Keeps s w → piece.cut ≡ cut_of w piece.x → Obeys w s (entry c (Install piece) (reply.Refused NoMemory))
not_installed s w c piece keeps same = obeys_no_memory s w c (Install piece) keeps (ap (λ (o : Outcome). not (is_refused o.reply)) (fresh_step w piece same))
