-- A part of a query: what it asks of the store and what it comes to, by the graph that it begins on and by the store's answers.
use Rattle.std.specs.Prelude.{List, [], ◌++◌, Result, Ok, Err}
use Rattle.graph_record.specs.Graph.{Graph}
use Rattle.undo_delta.specs.declared.ask.Ask.{Ask}
use Rattle.world_model.specs.Reply.{Reply}
use Rattle.expr_eval.specs.Outcome.{Outcome}
use Rattle.query_run.specs.declared.stop.Stop.{Stop}
use Rattle.query_run.specs.declared.stop.Stop.TheVariants.{Eval}

-- Where a part has come to: the graph then, the answers that are left, and its value.
pub record Went (A : Type 0) : Type 0 where
  pub graph : Graph
  pub answers : List Reply
  pub value : A

-- the writes that were asked for, in order, and where the part has come to, or why it stopped
pub record Told (A : Type 0) : Type 0 where
  pub asks : List Ask
  pub outcome : Result (Went A) Stop

abbrev pub Part : Type 0 → Type 0
Part A = Graph → List Reply → Told A

abbrev pub went : {A : Type 0} → A → Graph → List Reply → Result (Went A) Stop
went a g answers = Ok (record { graph = g; answers = answers; value = a })

abbrev pub told : {A : Type 0} → List Ask → Result (Went A) Stop → Told A
told asks outcome = record { asks = asks; outcome = outcome }

-- behind writes that were asked for before
abbrev pub behind : {A : Type 0} → List Ask → Told A → Told A
behind asks t = told (asks ++ t.asks) t.outcome

-- a value that needs no graph
abbrev pub given : {A : Type 0} → A → Part A
given a g answers = told [] (went a g answers)

-- a value that is found on the graph, which stays as it is
abbrev pub came : {A : Type 0} → Graph → List Reply → Outcome A → Told A
came g answers (Ok a) = told [] (went a g answers)
came g answers (Err why) = told [] (Err (Eval why))

abbrev pub found : {A : Type 0} → (Graph → Outcome A) → Part A
found meaning g answers = came g answers (meaning g)

-- a refusal stops the query
abbrev pub stopped : {A : Type 0} → Outcome A → Result A Stop
stopped (Ok a) = Ok a
stopped (Err why) = Err (Eval why)

-- one part, and then the next one; a part that stops is the last
abbrev pub follow : {A B : Type 0} → (A → Part B) → List Ask → Result (Went A) Stop → Told B
follow next asks (Ok w) = behind asks (next w.value w.graph w.answers)
follow next asks (Err stop) = told asks (Err stop)

abbrev pub then : {A B : Type 0} → Part A → (A → Part B) → Part B
then part next g answers = follow next (part g answers).asks (part g answers).outcome
