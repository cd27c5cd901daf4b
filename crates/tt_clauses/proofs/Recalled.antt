-- The graphs at the instants up to a transaction's start stay, while its caller only reads.
use Rattle.std.proofs.Common.{◌≡◌, ℕ, ◌≤◌, List, ◌++◌, Bool, Option, Result, Ok, Err, sym, subst, ◌∙◌}
use Rattle.std.specs.Prelude.{IsErrAnd}
use Rattle.graph_record.specs.Graph.{Graph}
use Rattle.world_model.specs.declared.event.When.TheVariants.{At}
use Rattle.world_model.specs.History.{Entry, IsLegal, IsStart, run}
use Rattle.world_model.specs.Sending.{IsSeen, OnlyReads, Sees}
use Rattle.world_model.specs.World.{Start, start_world}
use Rattle.world_model.proofs.Sent.{only_reads_itself, only_reads_onward}
use Rattle.world_model.proofs.Staying.{views_stay}
use Rattle.expr_eval.specs.Outcome.{Answers, Evaluates, Outcome}
use Rattle.expr_eval.specs.declared.refused.EvalRefused.{EvalRefused}
use Rattle.store_view.specs.declared.view.ViewOf.{ViewOf}
use Rattle.query_run.proofs.ReadCalls.{Looking, Seeing}
use Rattle.tt_clauses.specs.Recalling.{Recalls, Tells}

module _ {S : Type 0} (stands : S → Start → List Entry → Type 0) (caller : S → ℕ) (alone : S → Bool)
    (legal : (r : S) (s : Start) (es : List Entry) → stands r s es → IsStart s × IsLegal s es) where
  pub still : (start : ℕ) (old new : S) (graphs : ℕ → Graph) → OnlyReads stands caller alone old new → Recalls stands caller alone start old graphs → Recalls stands caller alone start new graphs
  still start old new graphs only r =
      let on = only.goes_on r.begin r.entries r.stood in
      record {
        begin = r.begin;
        entries = on.0;
        stood = on.2;
        seen = λ t le.
            let seen = r.seen t le in
            let stays = views_stay r.begin r.entries on.1.later (alone old) (caller old) seen.txn (At t) (legal old r.begin r.entries r.stood).0 seen.found seen.there on.1.beside in
            let later : IsSeen (run (start_world r.begin) (r.entries ++ on.1.later)) (caller old) start (At t) (graphs t) = record { txn = seen.txn; found = stays.0; began = seen.began; there = seen.there; graph = seen.graph ∙ sym stays.1 } in
            subst (λ n. IsSeen (run (start_world r.begin) on.0) n start (At t) (graphs t)) (sym only.same_caller)
            (subst (λ es. IsSeen (run (start_world r.begin) es) (caller old) start (At t) (graphs t)) (sym on.1.parts) later);
      }

  -- more is told, behind what was only read
  pub told_behind : {R : Type 0} (start : ℕ) (says : (ℕ → Graph) → R → Type 0) (old mid new : S) (r : R) → OnlyReads stands caller alone old mid → Tells stands caller alone start says mid new r → Tells stands caller alone start says old new r
  told_behind start says old mid new r only h = record {
    answers = λ graphs recalls. h.answers graphs (still start old mid graphs only recalls);
    reads = only_reads_onward stands caller alone old mid new only h.reads;
  }

  -- a view at an instant tells of the graph at it
  pub viewed : {T A : Type 0} (running : S → Option ℕ) (meaning : Graph → Outcome A) (t start : ℕ) (old new : S) (v w : ViewOf S T) (r : Result A EvalRefused) →
      v.store.now ≡ old → v.txn.now.start ≡ start → v.when ≡ At t → t ≤ start →
      Evaluates (Seeing stands caller alone running legal) (Looking stands caller alone running legal) meaning v w r → w.store.now ≡ new →
      Tells stands caller alone start (λ graphs. Answers (meaning (graphs t))) old new r
  viewed running meaning t start old new v w r store txn when le e left =
      subst (λ x. Tells stands caller alone start (λ graphs. Answers (meaning (graphs t))) old x r) left
      (subst (λ s. Tells stands caller alone start (λ graphs. Answers (meaning (graphs t))) s w.store.now r) store
      (record {
        answers = λ graphs recalls.
            e.answers (graphs t) (subst (λ n. Sees stands caller alone n v.when v.store.now (graphs t)) (sym txn)
            (subst (λ x. Sees stands caller alone start x v.store.now (graphs t)) (sym when)
            (record { begin = recalls.begin; entries = recalls.entries; stood = recalls.stood; seen = recalls.seen t le })));
        reads = e.reads.0;
      }))

  -- what is told later says something of the graphs at first
  pub tells_later : {Q R : Type 0} (start : ℕ) (first : (ℕ → Graph) → Q → Type 0) (says : (ℕ → Graph) → R → Type 0) (old mid new : S) (q : Q) (r : R) →
      OnlyReads stands caller alone old mid → Tells stands caller alone start first mid new q →
      ((graphs : ℕ → Graph) → Recalls stands caller alone start old graphs → first graphs q → says graphs r) → Tells stands caller alone start says old new r
  tells_later start first says old mid new q r only h on = record {
    answers = λ graphs recalls. on graphs recalls (h.answers graphs (still start old mid graphs only recalls));
    reads = only_reads_onward stands caller alone old mid new only h.reads;
  }

  pub tells_now : {R : Type 0} (start : ℕ) (says : (ℕ → Graph) → R → Type 0) (old new : S) (r : R) → OnlyReads stands caller alone old new →
      ((graphs : ℕ → Graph) → Recalls stands caller alone start old graphs → says graphs r) → Tells stands caller alone start says old new r
  tells_now start says old new r only on = record { answers = on; reads = only }

  -- a refusal is passed on
  pub passed : {A : Type 0} (start : ℕ) (says : (ℕ → Graph) → Result A EvalRefused → Type 0) (old new : S) (r : Result A EvalRefused) (e : EvalRefused) →
      IsErrAnd r (λ x. x ≡ e) → Tells stands caller alone start says old new (Err e) → Tells stands caller alone start says old new r
  passed start says old new (Ok a) e is h = absurd is
  passed start says old new (Err x) e is h = subst (λ y. Tells stands caller alone start says old new (Err y)) (sym is) h

  pub nothing_read : (s : S) → OnlyReads stands caller alone s s
  nothing_read s = only_reads_itself stands caller alone s

  pub read_on : (a b c : S) → OnlyReads stands caller alone a b → OnlyReads stands caller alone b c → OnlyReads stands caller alone a c
  read_on a b c h k = only_reads_onward stands caller alone a b c h k
