-- A query: what it asks of the store, and its reply.
use Rattle.std.specs.Prelude.{◌≡◌, ◌<◌, ◌≤◌, ℕ, List, [], Option, Some, None, true, false, Result, Ok, Err}
use Rattle.cypher_check.specs.Verdict.{verdict}
use Rattle.cypher_parse.specs.Whole.{IsParse}
use Rattle.cypher_syntax.specs.declared.tree.query.Query.{Query}
use Rattle.cypher_syntax.specs.declared.tree.query.Time.{Time}
use Rattle.cypher_syntax.specs.declared.tree.query.Time.TheVariants as time
use Rattle.graph_reader.specs.declared.shown.Shown.{Shown}
use Rattle.graph_record.specs.Graph.{Graph}
use Rattle.query_reply.specs.declared.fault.Fault.{Fault}
use Rattle.query_reply.specs.Faults.{IsExamined, fault_text}
use Rattle.query_reply.specs.Stops.{stop_text}
use Rattle.query_run.specs.declared.stop.Stop.{Stop}
use Rattle.query_run.specs.declared.stop.Stop.TheVariants.{TimeAhead}
use Rattle.query_run.specs.Denoted.{denoted}
use Rattle.query_run.specs.Instant.{IsOn}
use Rattle.query_run.specs.Parts.{Part, Told, told, went}
use Rattle.query_run.specs.Running.{StopsBy, answers_of, asks_of, may_all_come}
use Rattle.session_core.specs.declared.reply.Answered.{Answered}
use Rattle.session_core.specs.Replying.{GivesUp, IsCommit, Refuses, Tells}
use Rattle.session_core.specs.Says.{Nothing, Or, Says, Sent, Then}
use Rattle.session_core.specs.Texts.{no_memory_text, not_begun_text, range_text, rows_text}
use Rattle.tt_clauses.specs.Between.{Asked, IsMeantBy, asked_in, fault_of}
use Rattle.undo_delta.specs.declared.ask.Ask.{Ask}
use Rattle.world_model.specs.declared.answer.Refused.{Refused}
use Rattle.world_model.specs.declared.event.Event.TheVariants as event
use Rattle.world_model.specs.declared.event.When.TheVariants.{At, Own}
use Rattle.world_model.specs.History.{Entry, run}
use Rattle.world_model.specs.Reply as reply
use Rattle.world_model.specs.Sending.{IsSeen, are_beside}
use Rattle.world_model.specs.World.{Start, start_world}

abbrev pub Rows : Type 0
Rows = List (List Shown)

-- WHAT IS RUN

-- it has come to a value, and no answer is left over
pub record ComesTo {A : Type 0} (t : Told A) (asks : List Ask) (value : A) : Type 0 where
  pub graph : Graph
  pub all : t ≡ told asks (went value graph [])

abbrev pub IsOutcome : {A : Type 0} → Told A → List Ask → Result A Stop → Type 0
IsOutcome t asks (Ok value) = ComesTo t asks value
IsOutcome t asks (Err why) = StopsBy t asks why

-- A part of a query was run in the caller's transaction with this start, over the graph that it saw: the caller has only
-- read and written, and its writes and the result are what the part says.
pub record Ran {A : Type 0} (part : Part A) (start : ℕ) (result : Result A Stop) (caller : ℕ) (s : Start) (es later : List Entry) : Type 0 where
  pub graph : Graph
  pub seen : IsSeen (run (start_world s) es) caller start Own graph
  pub runs : may_all_come false caller later ≡ true
  pub outcome : IsOutcome (part graph (answers_of caller later)) (asks_of caller later) result

-- A query was asked of the graph that the commits up to an instant left, in the caller's transaction with this start: the
-- caller has only read, and the result is what the query means on that graph.
pub record ShownAt (q : Query) (t start : ℕ) (result : Result Rows Stop) (caller : ℕ) (s : Start) (es later : List Entry) : Type 0 where
  pub graph : Graph
  pub seen : IsSeen (run (start_world s) es) caller start (At t) graph
  pub reads : are_beside false caller later ≡ true
  pub outcome : IsOn q graph result

-- The instant is past the start of the transaction, and nothing is sent.
pub record IsAhead (t start : ℕ) (result : Result Rows Stop) (caller : ℕ) (s : Start) (es later : List Entry) : Type 0 where
  pub past : start < t
  pub refused : result ≡ Err (TimeAhead t start)
  pub nothing : Nothing caller s es later

abbrev pub Snapshots : ℕ → Query → ℕ → Result Rows Stop → Says
Snapshots t q start result = Or (IsAhead t start result) (ShownAt q t start result)

-- A query was asked of the graphs that the commits up to each instant of a span left, in the caller's transaction with this
-- start: the caller has only read, and the result is what the query means on those graphs.
pub record FoundIn (asked : Asked) (start : ℕ) (result : Result Rows Stop) (caller : ℕ) (s : Start) (es later : List Entry) : Type 0 where
  pub graphs : ℕ → Graph
  pub seen : (t : ℕ) → t ≤ start → IsSeen (run (start_world s) es) caller start (At t) (graphs t)
  pub reads : are_beside false caller later ≡ true
  pub meant : IsMeantBy graphs asked result

abbrev pub Finds : Asked → ℕ → Result Rows Stop → Says
Finds asked start result = Or (IsAhead asked.last start result) (FoundIn asked start result)

-- the query is of a span, and was asked of it
pub record Spans (q : Query) (start : ℕ) (result : Result Rows Stop) (caller : ℕ) (s : Start) (es later : List Entry) : Type 0 where
  pub asked : Asked
  pub is : asked_in q ≡ Some asked
  pub says : Finds asked start result caller s es later

-- What is done for a query depends on its time clause.
abbrev pub RunsTimed : Time → Query → ℕ → Result Rows Stop → Says
RunsTimed time.None q start result = Ran (denoted q) start result
RunsTimed (time.Snapshot t) q start result = Snapshots t q start result
RunsTimed (time.Between first last) q start result = Spans q start result

abbrev pub Runs : Query → ℕ → Result Rows Stop → Says
Runs q start result = RunsTimed q.time q start result

-- IN THE SESSION'S TRANSACTION

abbrev pub ToldInside : ℕ → Answered → Result Rows Stop → Says
ToldInside start a (Ok rows) = Tells (rows_text rows start) (Some start) a
ToldInside start a (Err why) = Refuses (stop_text why) (Some start) a

pub record AsksInside (q : Query) (start : ℕ) (a : Answered) (caller : ℕ) (s : Start) (es later : List Entry) : Type 0 where
  pub result : Result Rows Stop
  pub says : Then (Runs q start result) (ToldInside start a result) caller s es later

-- IN A TRANSACTION OF ITS OWN

-- no transaction begins, and the reply says why
pub record HasNotBegun (a : Answered) (caller : ℕ) (s : Start) (es later : List Entry) : Type 0 where
  pub why : Refused
  pub says : Then (Sent event.Begin (reply.Refused why)) (Refuses (not_begun_text why) None a) caller s es later

-- the writes stand, and the reply tells since when
pub record Commits (rows : Rows) (a : Answered) (caller : ℕ) (s : Start) (es later : List Entry) : Type 0 where
  pub ts : ℕ
  pub commit : IsCommit a (rows_text rows ts)
  pub sent : Sent event.Commit (reply.Committed ts) caller s es later

abbrev pub ToldOutside : Answered → Result Rows Stop → Says
ToldOutside a (Ok rows) = Or (Commits rows a) (GivesUp no_memory_text a)
ToldOutside a (Err why) = GivesUp (stop_text why) a

pub record RunsOutside (q : Query) (a : Answered) (start : ℕ) (caller : ℕ) (s : Start) (es later : List Entry) : Type 0 where
  pub result : Result Rows Stop
  pub says : Then (Runs q start result) (ToldOutside a result) caller s es later

pub record AsksOutside (q : Query) (a : Answered) (caller : ℕ) (s : Start) (es later : List Entry) : Type 0 where
  pub start : ℕ
  pub says : Then (Sent event.Begin (reply.Begun start)) (RunsOutside q a start) caller s es later

abbrev pub Asks : Query → Option ℕ → Answered → Says
Asks q (Some start) a = AsksInside q start a
Asks q None a = Or (HasNotBegun a) (AsksOutside q a)

-- A STATEMENT

-- it has a fault
pub record HasFault (statement : List ℕ) (running : Option ℕ) (a : Answered) (caller : ℕ) (s : Start) (es later : List Entry) : Type 0 where
  pub fault : Fault
  pub is : IsExamined statement (Err fault)
  pub says : Refuses (fault_text fault) running a caller s es later

-- A query is asked, unless the first instant of its span is greater than the last. That is told before a transaction begins.
abbrev pub AnswersQuery : Option (ℕ × ℕ) → Query → Option ℕ → Answered → Says
AnswersQuery (Some (first, last)) q running a = Refuses (range_text first last) running a
AnswersQuery None q running a = Asks q running a

-- it is a query
pub record IsQuery (statement : List ℕ) (running : Option ℕ) (a : Answered) (caller : ℕ) (s : Start) (es later : List Entry) : Type 0 where
  pub query : Query
  pub parsed : IsParse statement (Ok query)
  pub passes : verdict query ≡ None
  pub says : AnswersQuery (fault_of query.time) query running a caller s es later

abbrev pub Queries : List ℕ → Option ℕ → Answered → Says
Queries statement running a = Or (HasFault statement running a) (IsQuery statement running a)
