-- A query that writes nothing asks for no write, and is what its parts come to on one graph.
use Rattle.std.proofs.Common.{◌≡◌, ◌<◌, ◌≤◌, ℕ, List, [], ◌∷◌, Option, Some, None, Bool, true, false, cond, Result, Ok, Err, refl, ap, sym, ◌∙◌, arith}
use Rattle.std.specs.Prelude.{◌&&◌, ◌||◌, not, nat_lt}
use Rattle.std.specs.List.{list_any}
use Rattle.std.proofs.lemmas.Bool.{false≢true}
use Rattle.std.proofs.lemmas.Bool.Decides.{nat_tests}
use Rattle.cypher_check.specs.Asks.{after, start}
use Rattle.cypher_check.specs.Clauses.{query_asks}
use Rattle.cypher_check.specs.Verdict.{has_between_shape, is_between, is_timed, is_update, verdict, writes}
use Rattle.cypher_check.specs.declared.refused.CheckRefused.{CheckRefused}
use Rattle.cypher_check.specs.declared.refused.CheckRefused.TheVariants.{BetweenShape, TtWrites}
use Rattle.cypher_syntax.specs.declared.tree.clause.Clause.{Clause}
use Rattle.cypher_syntax.specs.declared.tree.clause.Clause.TheVariants as clause
use Rattle.cypher_syntax.specs.declared.tree.projection.Projection.{Projection}
use Rattle.cypher_syntax.specs.declared.tree.query.Query.{Query}
use Rattle.cypher_syntax.specs.declared.tree.query.Stage.{Stage}
use Rattle.cypher_syntax.specs.declared.tree.query.Time.{Time}
use Rattle.cypher_syntax.specs.declared.tree.query.Time.TheVariants.{Snapshot}
use Rattle.graph_reader.specs.declared.shown.Shown.{Shown}
use Rattle.graph_record.specs.Graph.{Graph}
use Rattle.world_model.specs.declared.answer.Refused.{Refused}
use Rattle.world_model.specs.declared.answer.Refused.TheVariants as refused
use Rattle.world_model.specs.declared.event.When.TheVariants.{At}
use Rattle.world_model.specs.History.{Entry}
use Rattle.world_model.specs.Reply.{Reply}
use Rattle.world_model.specs.Sending.{OnlyReads, Sees}
use Rattle.world_model.specs.World.{Start}
use Rattle.world_model.proofs.Sent.{only_reads_itself}
use Rattle.expr_eval.specs.Outcome.{Answers, Outcome, and_then}
use Rattle.expr_eval.specs.declared.refused.EvalRefused.{EvalRefused}
use Rattle.expr_eval.specs.declared.refused.EvalRefused.TheVariants.{Gone, NoMemory, Overflow, RowLimit, TooLarge, TypeFault, ZeroDivisor}
use Rattle.query_run.specs.declared.stop.Stop.TheVariants.{TimeAhead}
use Rattle.query_run.specs.Denoted.{Table, clauses_part, clause_part, denoted, one_row, returned_part, stage_part, stages_part}
use Rattle.query_run.specs.Instant.{IsOn, ShowsAt}
use Rattle.query_run.specs.Parts.{Part, behind, came, follow, found, stopped, then}
use Rattle.query_run.specs.Plain.{clause_table, clauses_table, returned_rows, rows_of, stage_table, stages_table}
use Rattle.query_run.specs.Shown.{rows_shown}
use Rattle.row_ops.specs.Projecting.{projected_of}

-- ---- a checked query with a time clause

timed_only_reads : (a b : Bool) (rest : Option CheckRefused) → cond (a && b) (Some TtWrites) rest ≡ None → a ≡ true → b ≡ false
timed_only_reads true true rest h is = absurd cc
timed_only_reads true false rest h is = refl
timed_only_reads false b rest h is = absurd (false≢true is)

pub writes_nothing : (q : Query) → verdict q ≡ None → is_timed q.time ≡ true → writes q ≡ false
unfolding verdict
writes_nothing q h is =
    timed_only_reads (is_timed q.time) (writes q) (cond (is_between q.time && not (has_between_shape q)) (Some BetweenShape) (after start (query_asks q)).fault) h is

neither_left : (a b : Bool) → (a || b) ≡ false → a ≡ false
neither_left true b h = absurd (false≢true (sym h))
neither_left false b h = refl

neither_right : (a b : Bool) → (a || b) ≡ false → b ≡ false
neither_right true b h = absurd (false≢true (sym h))
neither_right false b h = h

-- ---- a query that writes nothing

module _ (g : Graph) (answers : List Reply) where
  behind_nothing : {A : Type 0} (o : Outcome A) → behind [] (came g answers o) ≡ came g answers o
  behind_nothing (Ok a) = refl
  behind_nothing (Err why) = refl

  first_came : {A B : Type 0} (part : Part A) (o : Outcome A) (next : A → Part B) (n : A → Outcome B) → part g answers ≡ came g answers o →
      ((a : A) → next a g answers ≡ came g answers (n a)) → then part next g answers ≡ came g answers (and_then o n)
  first_came part o next n h k = ap (λ t. follow next t.asks t.outcome) h ∙ by o
    where
      by : (x : Outcome _) → follow next (came g answers x).asks (came g answers x).outcome ≡ came g answers (and_then x n)
      by (Ok a) = ap (behind []) (k a) ∙ behind_nothing (n a)
      by (Err why) = refl

  one_clause : (table : Table) (c : Clause) → is_update c ≡ false → clause_part table c g answers ≡ came g answers (clause_table g table c)
  one_clause table (clause.Match m) h = refl
  one_clause table (clause.Unwind u) h = refl
  one_clause table (clause.Update u) h = absurd (false≢true (sym h))

  all_clauses : (cs : List Clause) (table : Table) → list_any is_update cs ≡ false → clauses_part cs table g answers ≡ came g answers (clauses_table g cs table)
  all_clauses [] table h = refl
  all_clauses (c ∷ cs) table h =
      first_came (clause_part table c) (clause_table g table c) (clauses_part cs) (clauses_table g cs)
      (one_clause table c (neither_left (is_update c) _ h))
      (λ t. all_clauses cs t (neither_right (is_update c) _ h))

  one_stage : (s : Stage) (table : Table) → list_any is_update s.clauses ≡ false → stage_part s table g answers ≡ came g answers (stage_table g s table)
  one_stage s table h = first_came (clauses_part s.clauses table) (clauses_table g s.clauses table) _ _ (all_clauses s.clauses table h) (λ t. refl)

  all_stages : (ss : List Stage) (table : Table) → list_any (λ (s : Stage). list_any is_update s.clauses) ss ≡ false →
      stages_part ss table g answers ≡ came g answers (stages_table g ss table)
  all_stages [] table h = refl
  all_stages (s ∷ ss) table h =
      first_came (stage_part s table) (stage_table g s table) (stages_part ss) (stages_table g ss)
      (one_stage s table (neither_left (list_any is_update s.clauses) _ h))
      (λ t. all_stages ss t (neither_right (list_any is_update s.clauses) _ h))

  all_returned : (p : Option Projection) (table : Table) → returned_part p table g answers ≡ came g answers (returned_rows g p table)
  all_returned None table = refl
  all_returned (Some p) table = first_came (found (λ g. projected_of g table p)) (projected_of g table p) (λ t. found (λ g. rows_shown g [] t)) (rows_shown g []) refl (λ t. refl)

  pub denoted_came : (q : Query) → writes q ≡ false → denoted q g answers ≡ came g answers (rows_of g q)
  denoted_came q h =
      first_came (stages_part q.stages one_row) (stages_table g q.stages one_row) _ _ (all_stages q.stages one_row (neither_left (list_any (λ (s : Stage). list_any is_update s.clauses) q.stages) _ h))
      (λ t. first_came (clauses_part q.clauses t) (clauses_table g q.clauses t) (returned_part q.returns) (returned_rows g q.returns)
      (all_clauses q.clauses t (neither_right (list_any (λ (s : Stage). list_any is_update s.clauses) q.stages) _ h))
      (all_returned q.returns))

-- ---- its answer

came_on : (q : Query) (g : Graph) (o : Outcome (List (List Shown))) (r : Result (List (List Shown)) EvalRefused) → denoted q g [] ≡ came g [] o → Answers o r → IsOn q g (stopped r)
came_on q g o (Ok rows) is h = is ∙ ap (came g []) h
came_on q g o (Err NoMemory) is h = record { more = (denoted q g []).asks; parts = refl }
came_on q g o (Err TypeFault) is h = is ∙ ap (came g []) h
came_on q g o (Err Overflow) is h = is ∙ ap (came g []) h
came_on q g o (Err ZeroDivisor) is h = is ∙ ap (came g []) h
came_on q g o (Err TooLarge) is h = is ∙ ap (came g []) h
came_on q g o (Err RowLimit) is h = is ∙ ap (came g []) h
came_on q g o (Err (Gone x)) is h = is ∙ ap (came g []) h

pub answers_on : (q : Query) (g : Graph) (r : Result (List (List Shown)) EvalRefused) → writes q ≡ false → Answers (rows_of g q) r → IsOn q g (stopped r)
answers_on q g r only h = came_on q g (rows_of g q) r (denoted_came g [] q only) h

-- ---- a query of an instant

pub same_instant : (time : Time) (t u : ℕ) → time ≡ Snapshot t → time ≡ Snapshot u → t ≡ u
same_instant time t u h k = cc

module _ {S : Type 0} (stands : S → Start → List Entry → Type 0) (caller : S → ℕ) (alone : S → Bool) (start : ℕ) where
  -- an instant past the start of the transaction stands in no graph that it may ask for
  pub shows_ahead : (t : ℕ) (q : Query) (store : S) → start < t → ShowsAt stands caller alone start t q store store (Err (TimeAhead t start))
  shows_ahead t q store later = record {
    ahead = λ _. record { told = refl; untouched = refl };
    on = λ g sees. absurd (not_there sees.seen.txn.start sees.seen.began sees.seen.there);
    reads = only_reads_itself stands caller alone store;
  }
    where
      is_later : nat_lt start t ≡ true
      is_later = grind (arith, nat_tests)

      is_refused : (b : Bool) (why : Refused) → cond b (Some why) None ≡ None → b ≡ true → ⊥
      is_refused true why h is = absurd cc
      is_refused false why h is = false≢true is

      not_there : (n : ℕ) → n ≡ start → cond (nat_lt n t) (Some (refused.TimeAhead t n)) None ≡ None → ⊥
      not_there n is h = is_refused (nat_lt n t) (refused.TimeAhead t n) h (ap (λ m. nat_lt m t) is ∙ is_later)

  pub shows_at : (t : ℕ) (q : Query) (old new : S) (r : Result (List (List Shown)) EvalRefused) → t ≤ start → writes q ≡ false →
      ((g : Graph) → Sees stands caller alone start (At t) old g → Answers (rows_of g q) r) → OnlyReads stands caller alone old new →
      ShowsAt stands caller alone start t q old new (stopped r)
  shows_at t q old new r there only on reads = record {
    ahead = λ later. absurd (omega arith);
    on = λ g sees. answers_on q g r only (on g sees);
    reads = reads;
  }
