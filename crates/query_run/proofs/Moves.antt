-- Moves of a run: nothing is done yet, a part is done, what is left is done, or a part has stopped.
use Rattle.std.proofs.Common.{◌≡◌, ℕ, List, [], ◌++◌, Bool, true, Result, Ok, Err, refl, sym, ap, subst, ◌∙◌}
use Rattle.std.specs.Prelude.{IsErrAnd}
use Rattle.std.proofs.lemmas.Grind.{flat_map-append}
use Rattle.std.proofs.lemmas.List.{append_assoc, append-nil}
use Rattle.std.proofs.lemmas.List.Folds.{list_all-append}
use Rattle.graph_record.specs.Graph.{Graph}
use Rattle.undo_delta.specs.declared.ask.Ask.{Ask}
use Rattle.world_model.specs.declared.event.When.TheVariants.{Own}
use Rattle.world_model.specs.History.{Entry, run}
use Rattle.world_model.specs.Sending.{IsSeen}
use Rattle.world_model.specs.World.{Start, start_world}
use Rattle.world_model.proofs.Folds.{both_true}
use Rattle.expr_eval.specs.declared.refused.EvalRefused.TheVariants.{TypeFault, Overflow, ZeroDivisor, TooLarge, RowLimit, Gone, NoMemory}
use Rattle.query_run.specs.declared.stop.Stop.{Stop}
use Rattle.query_run.specs.declared.stop.Stop.TheVariants.{Eval, Conflict, HasEdges, IdEnd, TimeAhead}
use Rattle.query_run.specs.Parts.{Part, Told, behind, follow, given, then, told}
use Rattle.query_run.specs.Running.{Added, AddedLast, Goes, IsFront, Runs, Stops, StopsBy, answers_of, asks_of, may_all_come, may_come, own_answer, own_ask}

-- ---- what was asked and answered

pub answers-append : (c : ℕ) (xs ys : List Entry) → answers_of c (xs ++ ys) ≡ answers_of c xs ++ answers_of c ys
unfolding answers_of
answers-append c xs ys = flat_map-append (own_answer c) xs ys

pub asks-append : (c : ℕ) (xs ys : List Entry) → asks_of c (xs ++ ys) ≡ asks_of c xs ++ asks_of c ys
unfolding asks_of
asks-append c xs ys = flat_map-append (own_ask c) xs ys

pub come-append : (alone : Bool) (c : ℕ) (xs ys : List Entry) → may_all_come alone c xs ≡ true → may_all_come alone c ys ≡ true → may_all_come alone c (xs ++ ys) ≡ true
unfolding may_all_come
come-append alone c xs ys h k = list_all-append (may_come alone c) xs ys ∙ both_true _ _ h k

-- behind one list of writes, and then another
behind_both : {A : Type 0} (xs ys : List Ask) (t : Told A) → behind xs (behind ys t) ≡ behind (xs ++ ys) t
behind_both xs ys t = ap (λ asks. told asks t.outcome) (sym (append_assoc xs ys t.asks))

-- a stop of what is left is one of the whole
stops_behind : {A : Type 0} (front asks : List Ask) (t : Told A) (why : Stop) → StopsBy t asks why → StopsBy (behind front t) (front ++ asks) why
stops_behind front asks t (Eval NoMemory) h = record { more = h.more; parts = ap (λ xs. front ++ xs) h.parts ∙ sym (append_assoc front asks h.more) }
stops_behind front asks t (Eval TypeFault) h = ap (behind front) h
stops_behind front asks t (Eval Overflow) h = ap (behind front) h
stops_behind front asks t (Eval ZeroDivisor) h = ap (behind front) h
stops_behind front asks t (Eval TooLarge) h = ap (behind front) h
stops_behind front asks t (Eval RowLimit) h = ap (behind front) h
stops_behind front asks t (Eval (Gone x)) h = ap (behind front) h
stops_behind front asks t (Conflict x rival) h = ap (behind front) h
stops_behind front asks t (HasEdges v) h = ap (behind front) h
stops_behind front asks t IdEnd h = ap (behind front) h
stops_behind front asks t (TimeAhead at start) h = ap (behind front) h

-- what a part has asked is the beginning of what it and the next one ask
followed_front : {A B : Type 0} (next : A → Part B) (asks : List Ask) (t : Told A) → IsFront asks t.asks → IsFront asks (follow next t.asks t.outcome).asks
followed_front next asks t h = by_outcome t.outcome
  where
    by_outcome : (o : Result _ Stop) → IsFront asks (follow next t.asks o).asks
    by_outcome (Ok w) = record { more = h.more ++ (next w.value w.graph w.answers).asks; parts = ap (λ xs. xs ++ (next w.value w.graph w.answers).asks) h.parts ∙ append_assoc asks h.more _ }
    by_outcome (Err why) = h

stops_then : {A B : Type 0} (next : A → Part B) (asks : List Ask) (t : Told A) (why : Stop) → StopsBy t asks why → StopsBy (follow next t.asks t.outcome) asks why
stops_then next asks t (Eval NoMemory) h = followed_front next asks t h
stops_then next asks t (Eval TypeFault) h = ap (λ t. follow next t.asks t.outcome) h
stops_then next asks t (Eval Overflow) h = ap (λ t. follow next t.asks t.outcome) h
stops_then next asks t (Eval ZeroDivisor) h = ap (λ t. follow next t.asks t.outcome) h
stops_then next asks t (Eval TooLarge) h = ap (λ t. follow next t.asks t.outcome) h
stops_then next asks t (Eval RowLimit) h = ap (λ t. follow next t.asks t.outcome) h
stops_then next asks t (Eval (Gone x)) h = ap (λ t. follow next t.asks t.outcome) h
stops_then next asks t (Conflict x rival) h = ap (λ t. follow next t.asks t.outcome) h
stops_then next asks t (HasEdges v) h = ap (λ t. follow next t.asks t.outcome) h
stops_then next asks t IdEnd h = ap (λ t. follow next t.asks t.outcome) h
stops_then next asks t (TimeAhead at start) h = ap (λ t. follow next t.asks t.outcome) h

-- ---- of one history

module _ {S : Type 0} (stands : S → Start → List Entry → Type 0) (c : ℕ) (alone : Bool) (start : ℕ) where
  added_more : {A : Type 0} (whole mid left : Part A) (b now : S) (s : Start) (es : List Entry) (g : Graph) →
      (x : Added stands c alone start whole mid b s es g) → Added stands c alone start mid left now s (es ++ x.later) x.graph →
      Added stands c alone start whole left now s es g
  added_more whole mid left b now s es g x y = record {
    later = x.later ++ y.later;
    graph = y.graph;
    stood = subst (stands now s) (append_assoc es x.later y.later) y.stood;
    come = come-append alone c x.later y.later x.come y.come;
    seen = subst (λ es. IsSeen (run (start_world s) es) c start Own y.graph) (append_assoc es x.later y.later) y.seen;
    same = λ answers.
        ap (whole g) (ap (λ xs. xs ++ answers) (answers-append c x.later y.later) ∙ append_assoc (answers_of c x.later) (answers_of c y.later) answers)
        ∙ x.same (answers_of c y.later ++ answers)
        ∙ ap (behind (asks_of c x.later)) (y.same answers)
        ∙ behind_both (asks_of c x.later) (asks_of c y.later) (left y.graph answers)
        ∙ ap (λ asks. behind asks (left y.graph answers)) (sym (asks-append c x.later y.later));
  }

  added_last : {A : Type 0} (whole mid : Part A) (why : Stop) (b new : S) (s : Start) (es : List Entry) (g : Graph) →
      (x : Added stands c alone start whole mid b s es g) → AddedLast stands c alone start mid why new s (es ++ x.later) x.graph →
      AddedLast stands c alone start whole why new s es g
  added_last whole mid why b new s es g x y = record {
    later = x.later ++ y.later;
    stood = subst (stands new s) (append_assoc es x.later y.later) y.stood;
    come = come-append alone c x.later y.later x.come y.come;
    says = subst (λ asks. StopsBy (whole g (answers_of c (x.later ++ y.later))) asks why) (sym (asks-append c x.later y.later))
        (subst (λ t. StopsBy t (asks_of c x.later ++ asks_of c y.later) why)
        (sym (ap (whole g) (answers-append c x.later y.later) ∙ x.same (answers_of c y.later)))
        (stops_behind (asks_of c x.later) (asks_of c y.later) (mid x.graph (answers_of c y.later)) why y.says));
  }

  added_open : {A B : Type 0} (part : Part A) (next : A → Part B) (a : A) (now : S) (s : Start) (es : List Entry) (g : Graph) →
      Added stands c alone start part (given a) now s es g → Added stands c alone start (then part next) (next a) now s es g
  added_open part next a now s es g x = record {
    later = x.later;
    graph = x.graph;
    stood = x.stood;
    come = x.come;
    seen = x.seen;
    same = λ answers.
        ap (λ t. follow next t.asks t.outcome) (x.same answers)
        ∙ ap (λ asks. behind asks (next a x.graph answers)) (append-nil (asks_of c x.later));
  }

  added_stop : {A B : Type 0} (part : Part A) (next : A → Part B) (why : Stop) (new : S) (s : Start) (es : List Entry) (g : Graph) →
      AddedLast stands c alone start part why new s es g → AddedLast stands c alone start (then part next) why new s es g
  added_stop part next why new s es g x = record {
    later = x.later;
    stood = x.stood;
    come = x.come;
    says = stops_then next (asks_of c x.later) (part g (answers_of c x.later)) why x.says;
  }

-- ---- of all histories that a store stands for

module _ {S : Type 0} (stands : S → Start → List Entry → Type 0) (caller : S → ℕ) (alone : S → Bool) (start : ℕ) where
  -- nothing is done yet
  pub begins : {A : Type 0} (whole : Part A) (store : S) → Goes stands caller alone start whole whole store store
  unfolding may_all_come answers_of asks_of
  begins whole store = record {
    adds = λ s es g stood seen. record {
      later = [];
      graph = g;
      stood = subst (stands store s) (sym (append-nil es)) stood;
      come = refl;
      seen = subst (λ es. IsSeen (run (start_world s) es) (caller store) start Own g) (sym (append-nil es)) seen;
      same = λ answers. refl;
    };
    same_caller = refl;
    same_alone = refl;
  }

  -- more is done
  pub onward : {A : Type 0} (whole mid left : Part A) (old b now : S) → Goes stands caller alone start whole mid old b →
      Goes stands caller alone start mid left b now → Goes stands caller alone start whole left old now
  onward whole mid left old b now h k = record {
    adds = λ s es g stood seen.
        let x = h.adds s es g stood seen in
        let y = k.adds s (es ++ x.later) x.graph x.stood (subst (λ n. IsSeen (run (start_world s) (es ++ x.later)) n start Own x.graph) (sym h.same_caller) x.seen) in
        added_more stands (caller old) (alone old) start whole mid left b now s es g x
        (subst (λ n. Added stands n (alone old) start mid left now s (es ++ x.later) x.graph) h.same_caller
        (subst (λ n. Added stands (caller b) n start mid left now s (es ++ x.later) x.graph) h.same_alone y));
    same_caller = k.same_caller ∙ h.same_caller;
    same_alone = k.same_alone ∙ h.same_alone;
  }

  -- what is left has stopped
  pub ends_early : {A : Type 0} (whole mid : Part A) (why : Stop) (old b new : S) → Goes stands caller alone start whole mid old b →
      Stops stands caller alone start mid why b new → Stops stands caller alone start whole why old new
  ends_early whole mid why old b new h k = record {
    adds = λ s es g stood seen.
        let x = h.adds s es g stood seen in
        let y = k.adds s (es ++ x.later) x.graph x.stood (subst (λ n. IsSeen (run (start_world s) (es ++ x.later)) n start Own x.graph) (sym h.same_caller) x.seen) in
        added_last stands (caller old) (alone old) start whole mid why b new s es g x
        (subst (λ n. AddedLast stands n (alone old) start mid why new s (es ++ x.later) x.graph) h.same_caller
        (subst (λ n. AddedLast stands (caller b) n start mid why new s (es ++ x.later) x.graph) h.same_alone y));
    same_caller = k.same_caller ∙ h.same_caller;
    same_alone = k.same_alone ∙ h.same_alone;
  }

  -- what is left was run
  pub finishes : {A : Type 0} (whole left : Part A) (old b new : S) (r : Result A Stop) → Goes stands caller alone start whole left old b →
      Runs stands caller alone start left b new r → Runs stands caller alone start whole old new r
  finishes whole left old b new (Ok a) h k = onward whole left (given a) old b new h k
  finishes whole left old b new (Err why) h k = ends_early whole left why old b new h k

  -- the first part is done
  pub opens : {A B : Type 0} (part : Part A) (next : A → Part B) (a : A) (old new : S) → Goes stands caller alone start part (given a) old new →
      Goes stands caller alone start (then part next) (next a) old new
  opens part next a old new h = record {
    adds = λ s es g stood seen. added_open stands (caller old) (alone old) start part next a new s es g (h.adds s es g stood seen);
    same_caller = h.same_caller;
    same_alone = h.same_alone;
  }

  -- the first part of what is left is done
  pub goes : {A B : Type 0} (whole : Part B) (part : Part A) (next : A → Part B) (a : A) (old b new : S) → Goes stands caller alone start whole (then part next) old b →
      Goes stands caller alone start part (given a) b new → Goes stands caller alone start whole (next a) old new
  goes whole part next a old b new h k = onward whole (then part next) (next a) old b new h (opens part next a b new k)

  -- the first part has stopped
  pub halts : {A B : Type 0} (part : Part A) (next : A → Part B) (why : Stop) (old new : S) → Stops stands caller alone start part why old new →
      Stops stands caller alone start (then part next) why old new
  halts part next why old new h = record {
    adds = λ s es g stood seen. added_stop stands (caller old) (alone old) start part next why new s es g (h.adds s es g stood seen);
    same_caller = h.same_caller;
    same_alone = h.same_alone;
  }

  -- the first part of what is left has stopped
  pub stops : {A B : Type 0} (whole : Part B) (part : Part A) (next : A → Part B) (why : Stop) (old b new : S) → Goes stands caller alone start whole (then part next) old b →
      Stops stands caller alone start part why b new → Stops stands caller alone start whole why old new
  stops whole part next why old b new h k = ends_early whole (then part next) why old b new h (halts part next why b new k)

  -- memory was wanting where nothing was asked
  wants_memory : {A : Type 0} (part : Part A) (store : S) → Stops stands caller alone start part (Eval NoMemory) store store
  unfolding may_all_come answers_of asks_of
  wants_memory part store = record {
    adds = λ s es g stood seen. record {
      later = [];
      stood = subst (stands store s) (sym (append-nil es)) stood;
      come = refl;
      says = record { more = (part g []).asks; parts = refl };
    };
    same_caller = refl;
    same_alone = refl;
  }

  pub wants : {A : Type 0} (whole left : Part A) (old b : S) → Goes stands caller alone start whole left old b → Stops stands caller alone start whole (Eval NoMemory) old b
  wants whole left old b h = ends_early whole left (Eval NoMemory) old b b h (wants_memory left b)

  -- a stop is passed on
  pub passes : {A : Type 0} (whole : Part A) (old new : S) (why other : Stop) → other ≡ why → Stops stands caller alone start whole why old new →
      Stops stands caller alone start whole other old new
  passes whole old new why other is h = subst (λ x. Stops stands caller alone start whole x old new) (sym is) h

  -- a stop is passed on as an error
  pub errs : {A : Type 0} (whole : Part A) (old new : S) (r : Result A Stop) (why : Stop) → IsErrAnd r (λ x. x ≡ why) → Stops stands caller alone start whole why old new →
      Runs stands caller alone start whole old new r
  errs whole old new (Ok a) why is h = absurd is
  errs whole old new (Err other) why is h = passes whole old new why other is h
