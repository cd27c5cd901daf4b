-- An answer of the state is one of the world's.
use Rattle.std.proofs.Common.{◌≡◌, ℕ, ◌+◌, ◌≤◌, ◌==◌, List, [], ◌∷◌, Option, Some, None, Bool, true, false, not, cond, get_or, refl, sym, ap, subst, ◌∙◌, inl, inr}
use Rattle.std.specs.Prelude.{nat_eq, option_map, slice_get}
use Rattle.std.specs.List.{position_from}
use Rattle.std.proofs.lemmas.Iterator.Adapters.{position_from-zero}
use Rattle.std.proofs.lemmas.Option.{get_or_from_slice_get, slice_get-get_or}
use Rattle.graph_value.specs.declared.id.Oid.{Oid}
use Rattle.graph_record.specs.declared.object.Object.{Object}
use Rattle.graph_record.specs.declared.object.Object.TheVariants as object
use Rattle.graph_record.specs.Graph.{object_at}
use Rattle.undo_law.specs.Undone.{undone, deltas_of}
use Rattle.undo_delta.specs.Apply.{after}
use Rattle.undo_delta.specs.declared.delta.Delta.{Delta}
use Rattle.anchor_store.specs.Blocks.{BlockParts, version}
use Rattle.history_keeper.specs.Rows.{AreInOrder, RowParts, located}
use Rattle.rebuild.specs.Line.{LeadsOn, version_of}
use Rattle.rebuild.proofs.Finishes.{in_block, located_among, none_located}
use Rattle.txn_manager.specs.RunningList.{start_of}
use Rattle.txn_manager.specs.Transactions.{Transactions}
use Rattle.world_model.specs.declared.event.Event.{Event}
use Rattle.world_model.specs.Reply.{Reply}
use Rattle.world_model.specs.Reply as answer
use Rattle.world_model.specs.declared.answer.Refused.{Refused}
use Rattle.world_model.specs.declared.answer.Refused.TheVariants.{NoTxn, NoMemory}
use Rattle.world_model.specs.History.{Entry, may_want, is_no_memory, is_refusal_no_memory}
use Rattle.world_model.specs.Step.{Outcome, step, refused}
use Rattle.world_model.specs.World.{World, Txn, find_txn as find_world, rival_at, txn_of, view_of, transactions_of, graph_at}
use Rattle.world_model.proofs.Lists.{start_of-map, start_of-none}
use Rattle.front_core.specs.Books.{Book, find_txn, place_in, running_of}
use Rattle.world_model.specs.Placement.{blocks_of}
use Rattle.front_core.specs.Histories.{history_at}
use Rattle.front_core.specs.Keeps.{Keeps, Obeys, open_in}
use Rattle.front_core.specs.Objects.{row_at}
use Rattle.front_core.specs.Opened.{Opened}
use Rattle.front_core.specs.Outlines.{outline_of}
use Rattle.front_core.specs.Rows.{ObjectRow, no_row, row_at_instant, row_rival, seen}
use Rattle.front_core.specs.declared.state.State.{State}
use Rattle.front_core.specs.declared.transactions.Transaction.{Transaction}
use Rattle.front_core.proofs.Booked.{placed_below, placed_found, start_found}
use Rattle.front_core.proofs.Finding.{some_same}
use Rattle.front_core.proofs.Sight.{newest_is, rival_is, seen_is}
use Rattle.front_core.proofs.Whole.{leads_on, whole_is}

abbrev pub entry : ℕ → Event → Reply → Entry
entry c e r = record { caller = c; event = e; reply = r }

either_way : (b : Bool) (w v : World) → v ≡ w → cond b w v ≡ w
either_way true w v e = refl
either_way false w v e = e

-- a refusal of the step leaves the world, so the state may stay
pub obeys_refusal : (s : State) (w : World) (c : ℕ) (e : Event) (why : Refused) → Keeps s w → step w c e ≡ refused w why → Obeys w s (entry c e (answer.Refused why))
obeys_refusal s w c e why keeps is = record {
  answered = inl (ap (λ (o : Outcome). o.reply) (sym is));
  keeps = subst (Keeps s) (sym (either_way (is_refusal_no_memory why) w (step w c e).world (ap (λ (o : Outcome). o.world) is))) keeps;
}

-- want of memory leaves it too
pub obeys_no_memory : (s : State) (w : World) (c : ℕ) (e : Event) → Keeps s w → may_want w c e ≡ true → Obeys w s (entry c e (answer.Refused NoMemory))
obeys_no_memory s w c e keeps may = record { answered = inr (refl, may); keeps = keeps }

-- the step's answer and the step's world
pub obeys_step : (s' : State) (w w' : World) (c : ℕ) (e : Event) (r : Reply) → step w c e ≡ record { reply = r; world = w' } → is_no_memory r ≡ false → Keeps s' w' → Obeys w s' (entry c e r)
obeys_step s' w w' c e r is some keeps = record {
  answered = inl (ap (λ (o : Outcome). o.reply) (sym is));
  keeps = subst (Keeps s') (sym (ap (λ b. cond b w (step w c e).world) some ∙ ap (λ (o : Outcome). o.world) is)) keeps;
}

-- THE CALLER'S TRANSACTION

not_here : (b : Bool) (i : ℕ) (t : Transaction) (places : Option ℕ) (txns : Option Transaction) → (places ≡ None → txns ≡ None) → cond b (Some i) places ≡ None → cond b (Some t) txns ≡ None
not_here true i t places txns rest e = absurd cc
not_here false i t places txns rest e = rest e

no_place_from : (c i : ℕ) (ts : List Transaction) → position_from (λ t. t.caller == c) i ts ≡ None → find_txn ts c ≡ None
no_place_from c i [] e = refl
no_place_from c i (t ∷ ts) e = not_here (t.caller == c) i t (position_from (λ u. u.caller == c) (i + 1) ts) (find_txn ts c) (no_place_from c (i + 1) ts) e

pub no_place : (c : ℕ) (ts : List Transaction) → place_in ts c ≡ None → find_txn ts c ≡ None
no_place c ts e = no_place_from c 0 ts (sym (position_from-zero (λ t. t.caller == c) ts) ∙ e)

starts : (s : State) (w : World) (c : ℕ) → Keeps s w → start_of (transactions_of w).running c ≡ option_map (λ t. t.start) (find_txn s.transactions.txns c)
starts s w c keeps = ap (λ (t : Transactions). start_of t.running c) (sym keeps.times) ∙ start_found c s.transactions.txns

pub closed : (s : State) (w : World) (c : ℕ) → Keeps s w → place_in s.transactions.txns c ≡ None → txn_of w c ≡ None
closed s w c keeps none = by_found (txn_of w c) refl
  where
    by_found : (o : Option Txn) → txn_of w c ≡ o → o ≡ None
    by_found None e = refl
    by_found (Some p) e = absurd (some_none (sym (start_of-map w.running c p e) ∙ starts s w c keeps ∙ ap (option_map (λ (t : Transaction). t.start)) (no_place c s.transactions.txns none)))
      where
        some_none : ◌≡◌ {A = Option ℕ} (Some p.start) None → ⊥
        some_none h = cc

pub open_at : (s : State) (w : World) (c place : ℕ) (t : Transaction) → Keeps s w → place_in s.transactions.txns c ≡ Some place → slice_get s.transactions.txns place ≡ Some t → (p : Txn) × Opened s w c t.start p
open_at s w c place t keeps placed at = by_found (txn_of w c) refl
  where
    here : find_txn s.transactions.txns c ≡ Some t
    here = placed_found s.transactions.txns c place placed t ∙ ap Some (get_or_from_slice_get s.transactions.txns place t t at)

    in_world : start_of (transactions_of w).running c ≡ Some t.start
    in_world = starts s w c keeps ∙ ap (option_map (λ (u : Transaction). u.start)) here

    by_found : (o : Option Txn) → txn_of w c ≡ o → (p : Txn) × Opened s w c t.start p
    by_found None e = absurd (none_some (sym (start_of-none w.running c e) ∙ in_world))
      where
        none_some : ◌≡◌ {A = Option ℕ} None (Some t.start) → ⊥
        none_some h = cc
    by_found (Some p) e = (p, record { keeps = keeps; found = e; began = some_same (sym (start_of-map w.running c p e) ∙ in_world) })

-- the caller's transaction is open in the world with the same start
pub open_is : (s : State) (w : World) (c : ℕ) → Keeps s w → option_map (λ (p : Txn). p.start) (txn_of w c) ≡ open_in s c
open_is s w c keeps = by_found (txn_of w c) refl ∙ starts s w c keeps
  where
    by_found : (o : Option Txn) → txn_of w c ≡ o → option_map (λ (p : Txn). p.start) (txn_of w c) ≡ start_of (transactions_of w).running c
    by_found None e = ap (option_map (λ (p : Txn). p.start)) e ∙ sym (start_of-none w.running c e)
    by_found (Some p) e = ap (option_map (λ (p : Txn). p.start)) e ∙ sym (start_of-map w.running c p e)

-- the caller's transaction, with what is kept of it
pub open_of : (s : State) (w : World) (c place : ℕ) → Keeps s w → place_in s.transactions.txns c ≡ Some place → (t : Transaction) × (p : Txn) × Opened s w c t.start p × (find_txn s.transactions.txns c ≡ Some t)
open_of s w c place keeps placed =
    let nothing : Transaction = record { caller = 0; start = 0; deltas = 0; written = [] } in
    let t = get_or s.transactions.txns place nothing in
    let o = open_at s w c place t keeps placed (slice_get-get_or s.transactions.txns place nothing (placed_below s.transactions.txns c place placed)) in
    (t, o.0, o.1, placed_found s.transactions.txns c place placed nothing)

-- WHAT IT SEES

module _ (s : State) (w : World) (c start : ℕ) (p : Txn) (o : Opened s w c start p) (x : Oid) where
  pub row_seen : seen c start (row_at s.objects x) ≡ object_at (view_of w p) x
  row_seen = ap (λ n. seen c n (row_at s.objects x)) (sym o.began) ∙ seen_is w o.keeps.ordered x (o.keeps.cuts x) c p o.found (row_at s.objects x) (o.keeps.rows x)

  -- of an object without a row nothing is seen
  pub nothing_seen : no_row ≡ row_at s.objects x → object.Dead ≡ object_at (view_of w p) x
  nothing_seen none = ap (seen c start) none ∙ row_seen

  -- what it says of rivals
  pub rival_told : row_rival c start (row_at s.objects x) ≡ rival_at w p x
  rival_told = ap (λ n. row_rival c n (row_at s.objects x)) (sym o.began) ∙ rival_is w o.keeps.ordered x (o.keeps.cuts x) c p o.found (row_at s.objects x) (o.keeps.rows x)

  -- and what the newest form is where there is none
  pub newest_seen : rival_at w p x ≡ None → (row_at s.objects x).newest ≡ object_at (view_of w p) x
  newest_seen free = newest_is w o.keeps.ordered x (o.keeps.cuts x) c p o.found (row_at s.objects x) free (o.keeps.rows x)

-- WHAT WAS AT AN INSTANT

module _ (s : State) (w : World) (keeps : Keeps s w) (x : Oid) where
  abbrev kept : List (BlockParts Object Delta)
  kept = (history_at s.histories x).blocks

  are_kept : kept ≡ blocks_of w x
  are_kept = ap (λ (h : RowParts Object Delta). h.blocks) (keeps.histories x)

  -- where the chain ends, the history leads on
  pub row_leads : LeadsOn after (row_at s.objects x).newest (row_at s.objects x).chain kept
  row_leads = subst (λ (bs : List (BlockParts Object Delta)). LeadsOn after (row_at s.objects x).newest (row_at s.objects x).chain bs) (sym are_kept) (leads_on w keeps.ordered x (row_at s.objects x) (keeps.rows x))

  -- together they tell it
  pub row_whole : (t : ℕ) → version_of after (row_at s.objects x).newest (row_at s.objects x).chain kept t ≡ object_at (graph_at w.commits t) x
  row_whole t =
      ap (λ (bs : List (BlockParts Object Delta)). version_of after (row_at s.objects x).newest (row_at s.objects x).chain bs t) are_kept
      ∙ whole_is w keeps.ordered x t (row_at s.objects x) (keeps.rows x)

  -- and one of them is enough: the oldest block with a later delta, or the chain where there is none
  pub row_in_block : (t : ℕ) (b : BlockParts Object Delta) → AreInOrder kept → located t kept ≡ Some b → version after b t ≡ object_at (graph_at w.commits t) x
  row_in_block t b order found =
      in_block after (row_at s.objects x).newest (row_at s.objects x).chain kept t b order row_leads (located_among t kept b found) ∙ row_whole t

  pub row_in_chain : (t : ℕ) → located t kept ≡ None → row_at_instant t (row_at s.objects x) ≡ object_at (graph_at w.commits t) x
  row_in_chain t none =
      ap (λ ds. undone after (row_at_instant t (row_at s.objects x)) (deltas_of ds)) (sym (none_located t kept none)) ∙ row_whole t

  -- what has neither a row nor a history is never there
  pub nothing_at : (t : ℕ) → no_row ≡ row_at s.objects x → kept ≡ [] → object.Dead ≡ object_at (graph_at w.commits t) x
  nothing_at t none bare =
      ap (λ (bs : List (BlockParts Object Delta)). version_of after object.Dead [] bs t) (sym bare)
      ∙ ap (λ (r : ObjectRow). version_of after r.newest r.chain kept t) none
      ∙ row_whole t
