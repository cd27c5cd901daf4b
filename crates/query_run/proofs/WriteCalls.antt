-- A write that a query asks for: what its answer tells, and the graph that the transaction sees behind it.
use Rattle.std.proofs.Common.{◌≡◌, ℕ, List, [], ◌∷◌, ◌++◌, Option, Some, None, Bool, true, false, not, cond, Ok, refl, sym, ap, subst, ◌∙◌, arith, inl, inr}
use Rattle.std.specs.Prelude.{nat_eq, option_map}
use Rattle.std.specs.List.{list_all, flat_map}
use Rattle.std.proofs.lemmas.Bool.{false≢true}
use Rattle.std.proofs.lemmas.Bool.Decides.{nat_tests}
use Rattle.std.proofs.lemmas.List.{append_assoc}
use Rattle.graph_record.specs.Graph.{Graph}
use Rattle.undo_delta.specs.declared.ask.Ask.{Ask}
use Rattle.undo_delta.specs.declared.ask.Ask.TheVariants as ask
use Rattle.undo_delta.specs.declared.op.Op.{Op}
use Rattle.world_model.specs.Asked.{op_of, wrote_of}
use Rattle.world_model.specs.Op.{apply, apply_all, changes}
use Rattle.world_model.specs.Refusals.{write_refusal}
use Rattle.world_model.specs.Reply.{Reply}
use Rattle.world_model.specs.Reply as reply
use Rattle.world_model.specs.Step.{allowed_write_step, effect_step, with_op, write_step, written_world}
use Rattle.world_model.specs.World.{Start, Txn, World, before, find_txn, fold_of, start_world, txn_of, view_of}
use Rattle.world_model.specs.declared.answer.Refused.{Refused}
use Rattle.world_model.specs.declared.answer.Refused.TheVariants as refused
use Rattle.world_model.specs.declared.answer.Wrote.{Wrote}
use Rattle.world_model.specs.declared.answer.Wrote.TheVariants as wrote
use Rattle.world_model.specs.declared.event.Event.TheVariants as event
use Rattle.world_model.specs.declared.event.When.TheVariants.{Own}
use Rattle.world_model.specs.History.{Entry, IsAnswered, IsLegal, IsStart, run, world_after}
use Rattle.world_model.specs.Sending.{GoesOn, IsSeen, Sends, are_of_others}
use Rattle.world_model.proofs.Folds.{and_left_true, and_right_true, both_true}
use Rattle.world_model.proofs.Objects.{apply_all-append}
use Rattle.world_model.proofs.Sent.{answered_on, graph_before, txn_before, world_before, world_on}
use Rattle.world_model.proofs.Txns.{find_txn-with_op, with_write}
use Rattle.query_run.specs.Asked.{answer_told, asked, graph_after, stop_of}
use Rattle.query_run.specs.Parts.{told, went}
use Rattle.query_run.specs.Running.{Runs, Stops, StopsBy, answer_in, answers_of, ask_in, asks_of, is_running, may_all_come, may_come, own_answer, own_ask}
use Rattle.query_run.proofs.Moves.{answers-append, asks-append, come-append}

-- ---- the world behind a write

-- the write that was done is the one that the world did
op_was_done : (w : World) (g : Graph) (a : Ask) → graph_after g a (wrote_of w a) ≡ apply (op_of w g a) g
op_was_done w g ask.CreateVertex = refl
op_was_done w g (ask.DeleteVertex v) = refl
op_was_done w g (ask.AddLabel v label) = refl
op_was_done w g (ask.RemoveLabel v label) = refl
op_was_done w g (ask.SetVertexProp v key value) = refl
op_was_done w g (ask.CreateEdge from kind to) = refl
op_was_done w g (ask.DeleteEdge e) = refl
op_was_done w g (ask.SetEdgeProp e key value) = refl

same_number : (n : ℕ) → nat_eq n n ≡ true
same_number n = grind (arith, nat_tests)

wrote_same : (a b : Wrote) → reply.Wrote a ≡ reply.Wrote b → a ≡ b
wrote_same a b h = cc

module _ (w : World) (c : ℕ) (p : Txn) (a : Ask) (wr : Wrote) (found : txn_of w c ≡ Some p) where
  abbrev view : Graph
  view = view_of w p

  abbrev op : Op
  op = op_of w (view_of w p) a

  written_found : find_txn (with_op w.running c op) c ≡ Some (with_write op p)
  written_found =
      find_txn-with_op w.running c op c
      ∙ ap (λ b. cond b (option_map (with_write op) (find_txn w.running c)) (find_txn w.running c)) (same_number c)
      ∙ ap (option_map (with_write op)) found

  sees_write : IsSeen (written_world w c a op) c p.start Own (apply op view)
  unfolding apply_all
  sees_write = record {
    txn = with_write op p;
    found = written_found;
    began = refl;
    there = refl;
    graph = sym (apply_all-append p.ops (op ∷ []) (fold_of (before p.start w.commits)));
  }

  by_effect : (b : Bool) → reply.Wrote wr ≡ (effect_step w c a op b).reply → IsSeen (effect_step w c a op b).world c p.start Own (graph_after view a wr)
  by_effect true h =
      subst (λ x. IsSeen (written_world w c a op) c p.start Own (graph_after view a x)) (sym (wrote_same wr (wrote_of w a) h))
      (subst (λ g. IsSeen (written_world w c a op) c p.start Own g) (sym (op_was_done w view a)) sees_write)
  by_effect false h =
      subst (λ x. IsSeen w c p.start Own (graph_after view a x)) (sym (wrote_same wr wrote.Unchanged h))
      (record { txn = p; found = found; began = refl; there = refl; graph = refl })

  by_refusal : (r : Option Refused) → reply.Wrote wr ≡ (allowed_write_step w p c a r).reply → IsSeen (allowed_write_step w p c a r).world c p.start Own (graph_after view a wr)
  by_refusal (Some why) h = absurd cc
  by_refusal None h = by_effect (changes op view) h

  -- what the transaction sees behind the write is the graph with the write done
  sees_written : IsAnswered w (record { caller = c; event = event.Write a; reply = reply.Wrote wr }) →
      IsSeen (world_after w (record { caller = c; event = event.Write a; reply = reply.Wrote wr })) c p.start Own (graph_after view a wr)
  sees_written (inl is) =
      subst (λ q. reply.Wrote wr ≡ (write_step w c a q).reply → IsSeen (write_step w c a q).world c p.start Own (graph_after view a wr)) (sym found)
      (by_refusal (write_refusal w p a)) is
  sees_written (inr want) = absurd cc

-- ---- the entries behind a call

others_ask : (c : ℕ) (es : List Entry) → are_of_others c es ≡ true → asks_of c es ≡ []
unfolding are_of_others asks_of
others_ask c [] h = refl
others_ask c (e ∷ es) h =
    ap (λ xs. xs ++ flat_map (own_ask c) es) (one (nat_eq e.caller c) (and_left_true (not (nat_eq e.caller c)) _ h))
    ∙ others_ask c es (and_right_true (not (nat_eq e.caller c)) _ h)
  where
    one : (b : Bool) → not b ≡ true → cond b (ask_in e.event) [] ≡ []
    one true h = absurd (false≢true h)
    one false h = refl

others_answers : (c : ℕ) (es : List Entry) → are_of_others c es ≡ true → answers_of c es ≡ []
unfolding are_of_others answers_of
others_answers c [] h = refl
others_answers c (e ∷ es) h =
    ap (λ xs. xs ++ flat_map (own_answer c) es) (one (nat_eq e.caller c) (and_left_true (not (nat_eq e.caller c)) _ h))
    ∙ others_answers c es (and_right_true (not (nat_eq e.caller c)) _ h)
  where
    one : (b : Bool) → not b ≡ true → cond b (answer_in e.reply e.event) [] ≡ []
    one true h = absurd (false≢true h)
    one false h = refl

others_come : (c : ℕ) (es : List Entry) → are_of_others c es ≡ true → may_all_come false c es ≡ true
unfolding are_of_others may_all_come
others_come c [] h = refl
others_come c (e ∷ es) h =
    both_true (may_come false c e) _
    (one (nat_eq e.caller c) (and_left_true (not (nat_eq e.caller c)) _ h))
    (others_come c es (and_right_true (not (nat_eq e.caller c)) _ h))
  where
    one : (b : Bool) → not b ≡ true → cond b (is_running e.event) true ≡ true
    one true h = absurd (false≢true h)
    one false h = refl

abbrev entry_of : ℕ → Ask → Reply → Entry
entry_of c a r = record { caller = c; event = event.Write a; reply = r }

own_asks : (c : ℕ) (a : Ask) (r : Reply) → asks_of c (entry_of c a r ∷ []) ≡ a ∷ []
unfolding asks_of
own_asks c a r = ap (λ b. cond b (a ∷ []) [] ++ []) (same_number c)

own_answers : (c : ℕ) (a : Ask) (r : Reply) → answers_of c (entry_of c a r ∷ []) ≡ r ∷ []
unfolding answers_of
own_answers c a r = ap (λ b. cond b (r ∷ []) [] ++ []) (same_number c)

own_comes : (alone : Bool) (c : ℕ) (a : Ask) (r : Reply) → may_all_come alone c (entry_of c a r ∷ []) ≡ true
unfolding may_all_come
own_comes alone c a r = both_true _ _ (ap (λ b. cond b true (not alone)) (same_number c)) refl

-- where nobody else acts there are none of others
others_may_come : (alone : Bool) (c : ℕ) (others : List Entry) → are_of_others c others ≡ true → (alone ≡ true → others ≡ []) → may_all_come alone c others ≡ true
unfolding may_all_come
others_may_come true c others apart nobody = subst (λ os. list_all (may_come true c) os ≡ true) (sym (nobody refl)) refl
others_may_come false c others apart nobody = others_come c others apart

module _ (alone : Bool) (c : ℕ) (a : Ask) (r : Reply) (es more : List Entry) (on : GoesOn alone (entry_of c a r) es more) where
  abbrev later : List Entry
  later = on.others ++ entry_of c a r ∷ []

  parts_later : more ≡ es ++ later
  parts_later = on.parts ∙ append_assoc es on.others (entry_of c a r ∷ [])

  asks_later : asks_of c later ≡ a ∷ []
  asks_later =
      asks-append c on.others (entry_of c a r ∷ [])
      ∙ ap (λ xs. xs ++ asks_of c (entry_of c a r ∷ [])) (others_ask c on.others on.apart)
      ∙ own_asks c a r

  answers_later : answers_of c later ≡ r ∷ []
  answers_later =
      answers-append c on.others (entry_of c a r ∷ [])
      ∙ ap (λ xs. xs ++ answers_of c (entry_of c a r ∷ [])) (others_answers c on.others on.apart)
      ∙ own_answers c a r

  come_later : may_all_come alone c later ≡ true
  come_later = come-append alone c on.others (entry_of c a r ∷ []) (others_may_come alone c on.others on.apart on.nobody) (own_comes alone c a r)

-- ---- a call that writes

stops_asked : (a : Ask) (g : Graph) (why : Refused) → StopsBy (answer_told g a [] (reply.Refused why)) (a ∷ []) (stop_of why)
stops_asked a g (refused.Conflict x rival) = refl
stops_asked a g (refused.HasEdges v) = refl
stops_asked a g refused.IdEnd = refl
stops_asked a g (refused.Missing x) = refl
stops_asked a g refused.NoTxn = record { more = []; parts = refl }
stops_asked a g refused.AlreadyOpen = record { more = []; parts = refl }
stops_asked a g (refused.TimeAhead t start) = record { more = []; parts = refl }
stops_asked a g refused.ClockEnd = record { more = []; parts = refl }
stops_asked a g (refused.Stale cut) = record { more = []; parts = refl }
stops_asked a g refused.TooMany = record { more = []; parts = refl }
stops_asked a g refused.NoMemory = record { more = []; parts = refl }

module _ {S : Type 0} (stands : S → Start → List Entry → Type 0) (caller : S → ℕ) (alone : S → Bool) (start : ℕ)
    (legal : (r : S) (s : Start) (es : List Entry) → stands r s es → IsStart s × IsLegal s es) where
  seen_later : (old new : S) (a : Ask) (wr : Wrote) (s : Start) (es more : List Entry) (g : Graph) → stands old s es → stands new s more →
      (on : GoesOn (alone old) (record { caller = caller old; event = event.Write a; reply = reply.Wrote wr }) es more) →
      IsSeen (run (start_world s) es) (caller old) start Own g →
      IsSeen (run (start_world s) (es ++ later (alone old) (caller old) a (reply.Wrote wr) es more on)) (caller old) start Own (graph_after g a wr)
  seen_later old new a wr s es more g stood now on seen =
      let c = caller old in
      let w = world_before s on in
      let same = graph_before s on seen.txn Own (legal old s es stood).0 seen.found seen.there in
      subst (λ es. IsSeen (run (start_world s) es) c start Own (graph_after g a wr)) (parts_later (alone old) c a (reply.Wrote wr) es more on)
      (subst (λ (v : World). IsSeen v c start Own (graph_after g a wr)) (sym (world_on s on))
      (subst (λ n. IsSeen (world_after w (record { caller = c; event = event.Write a; reply = reply.Wrote wr })) c n Own (graph_after g a wr)) seen.began
      (subst (λ h. IsSeen (world_after w (record { caller = c; event = event.Write a; reply = reply.Wrote wr })) c seen.txn.start Own (graph_after h a wr)) (same ∙ sym seen.graph)
      (sees_written w c seen.txn a wr (txn_before s on ∙ seen.found) (answered_on s on (legal new s more now).1)))))

  pub writes : (a : Ask) (wr : Wrote) (old new : S) → Sends stands caller alone (event.Write a) (reply.Wrote wr) old new →
      Runs stands caller alone start (asked a) old new (Ok wr)
  writes a wr old new sent = record {
    adds = λ s es g stood seen.
        let c = caller old in
        let on = sent.goes_on s es stood tt in
        record {
          later = later (alone old) c a (reply.Wrote wr) es on.0 on.1;
          graph = graph_after g a wr;
          stood = subst (stands new s) (parts_later (alone old) c a (reply.Wrote wr) es on.0 on.1) on.2;
          come = come_later (alone old) c a (reply.Wrote wr) es on.0 on.1;
          seen = seen_later old new a wr s es on.0 g stood on.2 on.1 seen;
          same = λ answers.
              ap (λ xs. asked a g (xs ++ answers)) (answers_later (alone old) c a (reply.Wrote wr) es on.0 on.1)
              ∙ ap (λ asks. told (asks ++ []) (went wr (graph_after g a wr) answers)) (sym (asks_later (alone old) c a (reply.Wrote wr) es on.0 on.1));
        };
    same_caller = sent.same_caller;
    same_alone = sent.same_alone;
  }

  pub refuses : (a : Ask) (why : Refused) (old new : S) → Sends stands caller alone (event.Write a) (reply.Refused why) old new →
      Stops stands caller alone start (asked a) (stop_of why) old new
  refuses a why old new sent = record {
    adds = λ s es g stood seen.
        let c = caller old in
        let on = sent.goes_on s es stood tt in
        record {
          later = later (alone old) c a (reply.Refused why) es on.0 on.1;
          stood = subst (stands new s) (parts_later (alone old) c a (reply.Refused why) es on.0 on.1) on.2;
          come = come_later (alone old) c a (reply.Refused why) es on.0 on.1;
          says = subst (λ asks. StopsBy (asked a g (answers_of c (later (alone old) c a (reply.Refused why) es on.0 on.1))) asks (stop_of why)) (sym (asks_later (alone old) c a (reply.Refused why) es on.0 on.1))
              (subst (λ answers. StopsBy (asked a g answers) (a ∷ []) (stop_of why)) (sym (answers_later (alone old) c a (reply.Refused why) es on.0 on.1))
              (stops_asked a g why));
        };
    same_caller = sent.same_caller;
    same_alone = sent.same_alone;
  }
