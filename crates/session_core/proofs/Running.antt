-- A query that was run on a store, as an act.
use Rattle.std.proofs.Common.{◌≡◌, ◌<◌, ◌≤◌, ◌⊎◌, ℕ, List, [], ◌∷◌, Option, Some, None, Bool, true, false, not, cond, refl, sym, ap, subst, ◌∙◌, append-nil, arith, inl, inr}
use Rattle.std.specs.Prelude.{Result, Ok, Err, IsSomeAnd, nat_eq, nat_lt, option_map}
use Rattle.std.proofs.lemmas.Bool.{cases_lt}
use Rattle.std.proofs.lemmas.Bool.Decides.{nat_tests}
use Rattle.collector.specs.Whole.{own_of}
use Rattle.graph_record.specs.Graph.{Graph}
use Rattle.cypher_syntax.specs.declared.tree.query.Query.{Query}
use Rattle.cypher_syntax.specs.declared.tree.query.Time.{Time}
use Rattle.cypher_syntax.specs.declared.tree.query.Time.TheVariants as time
use Rattle.query_run.specs.declared.stop.Stop.{Stop}
use Rattle.query_run.specs.declared.stop.Stop.TheVariants.{TimeAhead}
use Rattle.query_run.specs.Denoted.{denoted}
use Rattle.query_run.specs.Instant.{ShowsAt}
use Rattle.query_run.specs.Parts.{Part, given}
use Rattle.query_run.specs.Running.{Goes, Runs, Stops, answers_of, asks_of, is_running, may_all_come, may_come}
use Rattle.query_run.proofs.ReadCalls.{comes_beside}
use Rattle.session_core.specs.Asking.{Finds, FoundIn, IsAhead, Ran, Rows, RunsTimed, ShownAt, Snapshots, Spans}
use Rattle.session_core.specs.Says.{Acts, Nothing, Says}
use Rattle.session_core.proofs.Acting.{idles, one, other, says_so}
use Rattle.tt_clauses.specs.Between.{Asked, IsMeantBy, asked_in}
use Rattle.tt_clauses.specs.Recalling as Recalling
use Rattle.world_model.specs.declared.answer.Refused.{Refused}
use Rattle.world_model.specs.declared.answer.Refused.TheVariants as refused
use Rattle.world_model.specs.declared.event.When.{When}
use Rattle.world_model.specs.declared.event.When.TheVariants.{At, Own}
use Rattle.world_model.specs.History.{Entry, run}
use Rattle.world_model.specs.Sending.{IsSeen, OnlyReads, are_beside, is_beside, is_reading, open_start}
use Rattle.world_model.specs.Views.{graph_of, time_ahead}
use Rattle.world_model.specs.World.{Start, Txn, World, start_world, txn_of}
use Rattle.world_model.proofs.Folds.{and_left_true, and_right_true, both_true}

-- ---- the entries of a run

-- an entry that may come where nobody else acts is the caller's
own_if_alone : (c : ℕ) (e : Entry) → may_come true c e ≡ true → nat_eq e.caller c ≡ true
own_if_alone c e h = by (nat_eq e.caller c) h
  where
    by : (b : Bool) → cond b (is_running e.event) false ≡ true → b ≡ true
    by true k = refl
    by false k = k

-- an entry of the caller that may come is a read or a write, whoever else acts
runs_anyhow : (alone : Bool) (c : ℕ) (e : Entry) → may_come alone c e ≡ true → may_come false c e ≡ true
runs_anyhow alone c e h = by (nat_eq e.caller c) h
  where
    by : (b : Bool) → cond b (is_running e.event) (not alone) ≡ true → cond b (is_running e.event) true ≡ true
    by true k = k
    by false k = refl

all_own : (c : ℕ) (es : List Entry) → may_all_come true c es ≡ true → own_of c es ≡ es
unfolding own_of may_all_come
all_own c [] h = refl
all_own c (e ∷ es) h =
    ap (λ b. cond b (e ∷ own_of c es) (own_of c es)) (own_if_alone c e (and_left_true _ _ h))
    ∙ ap (λ l. e ∷ l) (all_own c es (and_right_true _ _ h))

all_run : (alone : Bool) (c : ℕ) (es : List Entry) → may_all_come alone c es ≡ true → may_all_come false c es ≡ true
unfolding may_all_come
all_run alone c [] h = refl
all_run alone c (e ∷ es) h =
    both_true _ _ (runs_anyhow alone c e (and_left_true _ _ h)) (all_run alone c es (and_right_true _ _ h))

all_own_alone : (alone : Bool) (c : ℕ) (es : List Entry) → may_all_come alone c es ≡ true → alone ≡ true → own_of c es ≡ es
all_own_alone alone c es h is = all_own c es (subst (λ a. may_all_come a c es ≡ true) is h)

-- a read of the caller's is one, whoever else acts
reads_anyhow : (alone : Bool) (c : ℕ) (e : Entry) → is_beside alone c e ≡ true → is_beside false c e ≡ true
reads_anyhow alone c e h = by (nat_eq e.caller c) h
  where
    by : (b : Bool) → cond b (is_reading e.event) (not alone) ≡ true → cond b (is_reading e.event) true ≡ true
    by true k = k
    by false k = refl

all_beside : (alone : Bool) (c : ℕ) (es : List Entry) → are_beside alone c es ≡ true → are_beside false c es ≡ true
unfolding are_beside
all_beside alone c [] h = refl
all_beside alone c (e ∷ es) h =
    both_true _ _ (reads_anyhow alone c e (and_left_true _ _ h)) (all_beside alone c es (and_right_true _ _ h))

-- ---- what an open transaction may ask for

record Seen (w : World) (c start : ℕ) (when : When) : Type 0 where
  graph : Graph
  seen : IsSeen w c start when graph

started : (o : Option Txn) (start : ℕ) → option_map (λ (p : Txn). p.start) o ≡ Some start → (p : Txn) × (o ≡ Some p) × (p.start ≡ start)
started None start h = absurd cc
started (Some p) start h = (p, refl, cc)

sees : (w : World) (c start : ℕ) (when : When) → ((p : Txn) → p.start ≡ start → time_ahead p when ≡ None) → open_start w c ≡ Some start → Seen w c start when
sees w c start when there h =
    let found = started (txn_of w c) start h in
    record { graph = graph_of w found.0 when; seen = record { txn = found.0; found = found.1; began = found.2; there = there found.0 found.2; graph = refl } }

not_past : (t : ℕ) (n : ℕ) (why : Refused) → t ≤ n → cond (nat_lt n t) (Some why) None ≡ None
not_past t n why h = ap (λ b. cond b (Some why) None) is
  where
    is : nat_lt n t ≡ false
    is = grind (arith, nat_tests)

-- the graphs at the instants up to the start of the caller's open transaction
record Recalled (w : World) (c start : ℕ) : Type 0 where
  graphs : ℕ → Graph
  seen : (t : ℕ) → t ≤ start → IsSeen w c start (At t) (graphs t)

recalled : (w : World) (c start : ℕ) → open_start w c ≡ Some start → Recalled w c start
recalled w c start h =
    let found = started (txn_of w c) start h in
    record {
      graphs = λ t. graph_of w found.0 (At t);
      seen = λ t early. record {
        txn = found.0;
        found = found.1;
        began = found.2;
        there = not_past t found.0.start (refused.TimeAhead t found.0.start) (subst (λ n. t ≤ n) (sym found.2) early);
        graph = refl;
      };
    }

-- ---- the act

module _ {S : Type 0} (stands : S → Start → List Entry → Type 0) (caller : S → ℕ) (alone : S → Bool) (running : S → Option ℕ)
    (runs : (r : S) (s : Start) (es : List Entry) → stands r s es → open_start (run (start_world s) es) (caller r) ≡ running r) where
  seen_by : (start : ℕ) (when : When) (store : S) → ((p : Txn) → p.start ≡ start → time_ahead p when ≡ None) → running store ≡ Some start →
      (s : Start) (es : List Entry) → stands store s es → Seen (run (start_world s) es) (caller store) start when
  seen_by start when store there is s es st = sees _ (caller store) start when there (runs store s es st ∙ is)

  comes : {A : Type 0} (part : Part A) (start : ℕ) (value : A) (old new : S) → running old ≡ Some start →
      Goes stands caller alone start part (given value) old new → Acts stands caller alone (Ran part start (Ok value)) old new
  comes part start value old new is h = record {
    adds = λ s es st.
        let see = seen_by start Own old (λ p at. refl) is s es st in
        let x = h.adds s es see.graph st see.seen in
        record {
          later = x.later;
          stood = x.stood;
          nobody = all_own_alone (alone old) (caller old) x.later x.come;
          said = record {
            graph = see.graph;
            seen = see.seen;
            runs = all_run (alone old) (caller old) x.later x.come;
            outcome = record {
              graph = x.graph;
              all = ap (part see.graph) (sym (append-nil (answers_of (caller old) x.later))) ∙ x.same []
                  ∙ ap (λ asks. record { asks = asks; outcome = Ok (record { graph = x.graph; answers = []; value = value }) }) (append-nil (asks_of (caller old) x.later));
            };
          };
        };
    same_caller = h.same_caller;
    same_alone = h.same_alone;
  }

  halts : {A : Type 0} (part : Part A) (start : ℕ) (why : Stop) (old new : S) → running old ≡ Some start →
      Stops stands caller alone start part why old new → Acts stands caller alone (Ran part start (Err why)) old new
  halts part start why old new is h = record {
    adds = λ s es st.
        let see = seen_by start Own old (λ p at. refl) is s es st in
        let x = h.adds s es see.graph st see.seen in
        record {
          later = x.later;
          stood = x.stood;
          nobody = all_own_alone (alone old) (caller old) x.later x.come;
          said = record {
            graph = see.graph;
            seen = see.seen;
            runs = all_run (alone old) (caller old) x.later x.come;
            outcome = x.says;
          };
        };
    same_caller = h.same_caller;
    same_alone = h.same_alone;
  }

  -- a part of a query was run in the caller's open transaction
  pub ran : {A : Type 0} (part : Part A) (start : ℕ) (result : Result A Stop) (old new : S) → running old ≡ Some start →
      Runs stands caller alone start part old new result → Acts stands caller alone (Ran part start result) old new
  ran part start (Ok value) old new is h = comes part start value old new is h
  ran part start (Err why) old new is h = halts part start why old new is h

  -- the caller has only read, and by each history something is said of the answer
  only_reads : (says : Says) (old new : S) → OnlyReads stands caller alone old new →
      ((s : Start) (es later : List Entry) → stands old s es → are_beside false (caller old) later ≡ true → says (caller old) s es later) →
      Acts stands caller alone says old new
  only_reads says old new reads said = record {
    adds = λ s es st.
        let on = reads.goes_on s es st in
        let later = on.1.later in
        record {
          later = later;
          stood = subst (stands new s) on.1.parts on.2;
          nobody = all_own_alone (alone old) (caller old) later (comes_beside (alone old) (caller old) later on.1.beside);
          said = said s es later st (all_beside (alone old) (caller old) later on.1.beside);
        };
    same_caller = reads.same_caller;
    same_alone = reads.same_alone;
  }

  -- the instant is past the start, and the store is as it was
  ahead : (t start : ℕ) (result : Result Rows Stop) (old new : S) → start < t → result ≡ Err (TimeAhead t start) → new ≡ old →
      Acts stands caller alone (IsAhead t start result) old new
  ahead t start result old new late told untouched =
      subst (λ store. Acts stands caller alone (IsAhead t start result) old store) (sym untouched)
      (says_so stands caller alone Nothing (IsAhead t start result) old old
      (λ c s es later x. record { past = late; refused = told; nothing = x })
      (idles stands caller alone old))

  -- a query of an instant that isn't past the start of the caller's open transaction
  shown_at : (t : ℕ) (q : Query) (start : ℕ) (result : Result Rows Stop) (old new : S) → t ≤ start → running old ≡ Some start →
      ShowsAt stands caller alone start t q old new result → Acts stands caller alone (ShownAt q t start result) old new
  shown_at t q start result old new early is h = only_reads (ShownAt q t start result) old new h.reads (λ s es later st beside.
      let see = seen_by start (At t) old (λ p at. not_past t p.start (refused.TimeAhead t p.start) (subst (λ n. t ≤ n) (sym at) early)) is s es st in
      record {
        graph = see.graph;
        seen = see.seen;
        reads = beside;
        outcome = h.on see.graph (record { begin = s; entries = es; stood = st; seen = see.seen });
      })

  -- one that is
  shown_ahead : (t : ℕ) (q : Query) (start : ℕ) (result : Result Rows Stop) (old new : S) → start < t →
      ShowsAt stands caller alone start t q old new result → Acts stands caller alone (IsAhead t start result) old new
  shown_ahead t q start result old new late h =
      let past = h.ahead late in
      ahead t start result old new late past.told past.untouched

  pub shown : (t : ℕ) (q : Query) (start : ℕ) (result : Result Rows Stop) (old new : S) → running old ≡ Some start →
      ShowsAt stands caller alone start t q old new result → Acts stands caller alone (Snapshots t q start result) old new
  shown t q start result old new is h =
      by (cases_lt start t)
    where
      by : (start < t) ⊎ (t ≤ start) → Acts stands caller alone (Snapshots t q start result) old new
      by (inl late) = one stands caller alone (IsAhead t start result) (ShownAt q t start result) old new (shown_ahead t q start result old new late h)
      by (inr early) = other stands caller alone (IsAhead t start result) (ShownAt q t start result) old new (shown_at t q start result old new early is h)

  -- a query of a span that doesn't end past the start of the caller's open transaction
  found_in : (asked : Asked) (start : ℕ) (result : Result Rows Stop) (old new : S) → running old ≡ Some start →
      Recalling.Tells stands caller alone start (λ graphs. IsMeantBy graphs asked) old new result → Acts stands caller alone (FoundIn asked start result) old new
  found_in asked start result old new is h = only_reads (FoundIn asked start result) old new h.reads (λ s es later st beside.
      let past = recalled (run (start_world s) es) (caller old) start (runs old s es st ∙ is) in
      record {
        graphs = past.graphs;
        seen = past.seen;
        reads = beside;
        meant = h.answers past.graphs (record { begin = s; entries = es; stood = st; seen = past.seen });
      })

  module _ (q : Query) (start : ℕ) (result : Result Rows Stop) (old new : S) where
    abbrev Ahead : Asked → Type 0
    Ahead asked = start < asked.last → (result ≡ Err (TimeAhead asked.last start)) × (new ≡ old)

    abbrev Told : Asked → Type 0
    Told asked = asked.last ≤ start → Recalling.Tells stands caller alone start (λ graphs. IsMeantBy graphs asked) old new result

    finds : (asked : Asked) → running old ≡ Some start → Ahead asked → Told asked → Acts stands caller alone (Finds asked start result) old new
    finds asked is past told = by (cases_lt start asked.last)
      where
        by : (start < asked.last) ⊎ (asked.last ≤ start) → Acts stands caller alone (Finds asked start result) old new
        by (inl late) = one stands caller alone (IsAhead asked.last start result) (FoundIn asked start result) old new (ahead asked.last start result old new late (past late).0 (past late).1)
        by (inr early) = other stands caller alone (IsAhead asked.last start result) (FoundIn asked start result) old new (found_in asked start result old new is (told early))

    pub spans : (o : Option Asked) → asked_in q ≡ o → running old ≡ Some start → IsSomeAnd o Ahead → IsSomeAnd o Told → Acts stands caller alone (Spans q start result) old new
    spans None there is past told = absurd past
    spans (Some asked) there is past told =
        says_so stands caller alone (Finds asked start result) (Spans q start result) old new
        (λ c s es later x. record { asked = asked; is = there; says = x })
        (finds asked is past told)

  -- a query without a time clause is run
  pub ran_timed : (clause : Time) (q : Query) (start : ℕ) (result : Result Rows Stop) (old new : S) → clause ≡ time.None →
      Acts stands caller alone (Ran (denoted q) start result) old new → Acts stands caller alone (RunsTimed clause q start result) old new
  ran_timed clause q start result old new is h = subst (λ x. Acts stands caller alone (RunsTimed x q start result) old new) (sym is) h

  -- one of a span is asked of it
  pub spans_timed : (clause : Time) (first last : ℕ) (q : Query) (start : ℕ) (result : Result Rows Stop) (old new : S) → clause ≡ time.Between first last →
      Acts stands caller alone (Spans q start result) old new → Acts stands caller alone (RunsTimed clause q start result) old new
  spans_timed clause first last q start result old new is h = subst (λ x. Acts stands caller alone (RunsTimed x q start result) old new) (sym is) h

  -- one of an instant is asked of it
  pub shown_timed : (clause : Time) (t : ℕ) (q : Query) (start : ℕ) (result : Result Rows Stop) (old new : S) → clause ≡ time.Snapshot t → running old ≡ Some start →
      ShowsAt stands caller alone start t q old new result → Acts stands caller alone (RunsTimed clause q start result) old new
  shown_timed clause t q start result old new at is h =
      subst (λ x. Acts stands caller alone (RunsTimed x q start result) old new) (sym at) (shown t q start result old new is h)
