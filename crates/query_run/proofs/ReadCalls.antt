-- What a query reads is found on the graph that its transaction sees, which stays the same meanwhile.
use Rattle.std.proofs.Common.{◌≡◌, ℕ, List, [], ◌∷◌, ◌++◌, Option, Bool, true, false, not, cond, Result, Ok, Err, refl, sym, ap, subst, ◌∙◌}
use Rattle.std.specs.Prelude.{nat_eq}
use Rattle.std.specs.List.{flat_map}
use Rattle.std.proofs.lemmas.Bool.{false≢true}
use Rattle.graph_record.specs.Graph.{Graph}
use Rattle.world_model.specs.Reply.{Reply}
use Rattle.world_model.specs.declared.event.Event.{Event}
use Rattle.world_model.specs.declared.event.Event.TheVariants as event
use Rattle.world_model.specs.declared.event.When.TheVariants.{Own}
use Rattle.world_model.specs.History.{Entry, IsLegal, IsStart, run}
use Rattle.world_model.specs.Sending.{IsSeen, OnlyReads, ReadsOn, Sees, are_beside, is_beside, is_reading}
use Rattle.world_model.specs.World.{Start, start_world}
use Rattle.world_model.proofs.Folds.{and_left_true, and_right_true, both_true}
use Rattle.world_model.proofs.Staying.{views_stay}
use Rattle.expr_eval.specs.Outcome.{Answers, Evaluates, Outcome}
use Rattle.expr_eval.specs.declared.refused.EvalRefused.{EvalRefused}
use Rattle.expr_eval.specs.declared.refused.EvalRefused.TheVariants.{TypeFault, Overflow, ZeroDivisor, TooLarge, RowLimit, Gone, NoMemory}
use Rattle.store_view.specs.declared.view.ViewOf.{ViewOf}
use Rattle.query_run.specs.declared.stop.Stop.{Stop}
use Rattle.query_run.specs.declared.stop.Stop.TheVariants.{Eval}
use Rattle.query_run.specs.Parts.{came, found, given, stopped, told}
use Rattle.query_run.specs.Running.{Runs, StopsBy, answer_in, answers_of, ask_in, asks_of, is_running, may_all_come, may_come, own_answer, own_ask}

-- ---- a reading entry

reading_runs : (e : Event) → is_reading e ≡ true → is_running e ≡ true
reading_runs event.Begin h = absurd (false≢true h)
reading_runs (event.Next kind after when) h = refl
reading_runs (event.Read x when) h = refl
reading_runs (event.Write a) h = absurd (false≢true h)
reading_runs event.Commit h = absurd (false≢true h)
reading_runs event.Abort h = absurd (false≢true h)
reading_runs event.Mark h = absurd (false≢true h)
reading_runs (event.Lift x) h = absurd (false≢true h)
reading_runs (event.Install piece) h = absurd (false≢true h)
reading_runs event.Stats h = absurd (false≢true h)

reading_asks : (e : Event) → is_reading e ≡ true → ask_in e ≡ []
reading_asks event.Begin h = refl
reading_asks (event.Next kind after when) h = refl
reading_asks (event.Read x when) h = refl
reading_asks (event.Write a) h = absurd (false≢true h)
reading_asks event.Commit h = refl
reading_asks event.Abort h = refl
reading_asks event.Mark h = refl
reading_asks (event.Lift x) h = refl
reading_asks (event.Install piece) h = refl
reading_asks event.Stats h = refl

reading_answers : (r : Reply) (e : Event) → is_reading e ≡ true → answer_in r e ≡ []
reading_answers r event.Begin h = refl
reading_answers r (event.Next kind after when) h = refl
reading_answers r (event.Read x when) h = refl
reading_answers r (event.Write a) h = absurd (false≢true h)
reading_answers r event.Commit h = refl
reading_answers r event.Abort h = refl
reading_answers r event.Mark h = refl
reading_answers r (event.Lift x) h = refl
reading_answers r (event.Install piece) h = refl
reading_answers r event.Stats h = refl

one_comes : (alone : Bool) (e : Entry) (b : Bool) → cond b (is_reading e.event) (not alone) ≡ true → cond b (is_running e.event) (not alone) ≡ true
one_comes alone e true h = reading_runs e.event h
one_comes alone e false h = h

one_asks : (other : Bool) (e : Entry) (b : Bool) → cond b (is_reading e.event) other ≡ true → cond b (ask_in e.event) [] ≡ []
one_asks other e true h = reading_asks e.event h
one_asks other e false h = refl

one_answers : (other : Bool) (e : Entry) (b : Bool) → cond b (is_reading e.event) other ≡ true → cond b (answer_in e.reply e.event) [] ≡ []
one_answers other e true h = reading_answers e.reply e.event h
one_answers other e false h = refl

-- ---- reading entries, and those of others

pub comes_beside : (alone : Bool) (c : ℕ) (es : List Entry) → are_beside alone c es ≡ true → may_all_come alone c es ≡ true
unfolding are_beside may_all_come
comes_beside alone c [] h = refl
comes_beside alone c (e ∷ es) h =
    both_true (may_come alone c e) _
    (one_comes alone e (nat_eq e.caller c) (and_left_true (is_beside alone c e) _ h))
    (comes_beside alone c es (and_right_true (is_beside alone c e) _ h))

asks_beside : (alone : Bool) (c : ℕ) (es : List Entry) → are_beside alone c es ≡ true → asks_of c es ≡ []
unfolding are_beside asks_of
asks_beside alone c [] h = refl
asks_beside alone c (e ∷ es) h =
    ap (λ xs. xs ++ flat_map (own_ask c) es) (one_asks (not alone) e (nat_eq e.caller c) (and_left_true (is_beside alone c e) _ h))
    ∙ asks_beside alone c es (and_right_true (is_beside alone c e) _ h)

answers_beside : (alone : Bool) (c : ℕ) (es : List Entry) → are_beside alone c es ≡ true → answers_of c es ≡ []
unfolding are_beside answers_of
answers_beside alone c [] h = refl
answers_beside alone c (e ∷ es) h =
    ap (λ xs. xs ++ flat_map (own_answer c) es) (one_answers (not alone) e (nat_eq e.caller c) (and_left_true (is_beside alone c e) _ h))
    ∙ answers_beside alone c es (and_right_true (is_beside alone c e) _ h)

-- ---- a call that reads

-- why nothing was found is why the query stops
stops_found : {A : Type 0} (g : Graph) (o : Outcome A) (why : EvalRefused) → Answers o (Err why) → StopsBy (came g [] o) [] (Eval why)
stops_found g o NoMemory h = record { more = (came g [] o).asks; parts = refl }
stops_found g o TypeFault h = ap (came g []) h
stops_found g o Overflow h = ap (came g []) h
stops_found g o ZeroDivisor h = ap (came g []) h
stops_found g o TooLarge h = ap (came g []) h
stops_found g o RowLimit h = ap (came g []) h
stops_found g o (Gone x) h = ap (came g []) h

module _ {S : Type 0} (stands : S → Start → List Entry → Type 0) (caller : S → ℕ) (alone : S → Bool) (start : ℕ)
    (legal : (r : S) (s : Start) (es : List Entry) → stands r s es → IsStart s × IsLegal s es) where
  seen_still : (old : S) (s : Start) (es more : List Entry) (g : Graph) → stands old s es → (on : ReadsOn (alone old) (caller old) es more) →
      IsSeen (run (start_world s) es) (caller old) start Own g → IsSeen (run (start_world s) (es ++ on.later)) (caller old) start Own g
  seen_still old s es more g stood on seen =
      let stays = views_stay s es on.later (alone old) (caller old) seen.txn Own (legal old s es stood).0 seen.found seen.there on.beside in
      record { txn = seen.txn; found = stays.0; began = seen.began; there = seen.there; graph = seen.graph ∙ sym stays.1 }

  pub reads : {A : Type 0} (meaning : Graph → Outcome A) (old new : S) (r : Result A EvalRefused) →
      ((g : Graph) → Sees stands caller alone start Own old g → Answers (meaning g) r) → OnlyReads stands caller alone old new →
      Runs stands caller alone start (found meaning) old new (stopped r)
  reads meaning old new (Ok a) says only = record {
    adds = λ s es g stood seen.
        let on = only.goes_on s es stood in
        record {
          later = on.1.later;
          graph = g;
          stood = subst (stands new s) on.1.parts on.2;
          come = comes_beside (alone old) (caller old) on.1.later on.1.beside;
          seen = seen_still old s es on.0 g stood on.1 seen;
          same = λ answers.
              ap (λ xs. found meaning g (xs ++ answers)) (answers_beside (alone old) (caller old) on.1.later on.1.beside)
              ∙ ap (came g answers) (says g (record { begin = s; entries = es; stood = stood; seen = seen }))
              ∙ ap (λ asks. told (asks ++ []) (given a g answers).outcome) (sym (asks_beside (alone old) (caller old) on.1.later on.1.beside));
        };
    same_caller = only.same_caller;
    same_alone = only.same_alone;
  }
  reads meaning old new (Err why) says only = record {
    adds = λ s es g stood seen.
        let on = only.goes_on s es stood in
        record {
          later = on.1.later;
          stood = subst (stands new s) on.1.parts on.2;
          come = comes_beside (alone old) (caller old) on.1.later on.1.beside;
          says = subst (λ asks. StopsBy (found meaning g (answers_of (caller old) on.1.later)) asks (Eval why)) (sym (asks_beside (alone old) (caller old) on.1.later on.1.beside))
              (subst (λ answers. StopsBy (found meaning g answers) [] (Eval why)) (sym (answers_beside (alone old) (caller old) on.1.later on.1.beside))
              (stops_found g (meaning g) why (says g (record { begin = s; entries = es; stood = stood; seen = seen }))));
        };
    same_caller = only.same_caller;
    same_alone = only.same_alone;
  }

-- the same of a view of the store, which is found where the transaction is the one that is read for
module _ {S T : Type 0} (stands : S → Start → List Entry → Type 0) (caller : S → ℕ) (alone : S → Bool) (running : S → Option ℕ)
    (legal : (r : S) (s : Start) (es : List Entry) → stands r s es → IsStart s × IsLegal s es) where
  abbrev pub Seeing : ViewOf S T → Graph → Type 0
  Seeing v g = Sees stands caller alone v.txn.now.start v.when v.store.now g

  abbrev pub Looking : ViewOf S T → ViewOf S T → Type 0
  Looking v w = OnlyReads stands caller alone v.store.now w.store.now × (running w.store.now ≡ running v.store.now) × (v.store.ghost_name ≡ w.store.ghost_name)

  pub views : {A : Type 0} (meaning : Graph → Outcome A) (start : ℕ) (old new : S) (v w : ViewOf S T) (r : Result A EvalRefused) (stop : Result A Stop) →
      v.store.now ≡ old → v.txn.now.start ≡ start → v.when ≡ Own → Evaluates Seeing Looking meaning v w r → stop ≡ stopped r → w.store.now ≡ new →
      Runs stands caller alone start (found meaning) old new stop
  views meaning start old new v w r stop store txn when e is left =
      subst (λ x. Runs stands caller alone start (found meaning) old x stop) left
      (subst (λ x. Runs stands caller alone start (found meaning) old w.store.now x) (sym is)
      (subst (λ s. Runs stands caller alone start (found meaning) s w.store.now (stopped r)) store
      (reads stands caller alone start legal meaning v.store.now w.store.now r
      (λ g sees. e.answers g (subst (λ n. Sees stands caller alone n v.when v.store.now g) (sym txn) (subst (λ x. Sees stands caller alone start x v.store.now g) (sym when) sees)))
      e.reads.0)))
