-- The reply to a line, and what the line does to the history and to the session's transaction.
use Rattle.std.specs.Prelude.{◌≡◌, ℕ, List, Option, Some, None, true, false, codes}
use Rattle.std.specs.Str.{IsUtf8}
use Rattle.collector.specs.Sweeping.{AreAsked, fresh}
use Rattle.collector.specs.Whole.{IsSumOf, own_of}
use Rattle.collector.specs.declared.progress.Swept.{Swept}
use Rattle.session_core.specs.declared.reply.Answered.{Answered}
use Rattle.session_core.specs.declared.reply.Reply.{Reply}
use Rattle.session_core.specs.declared.session.Session.{Session}
use Rattle.session_core.specs.declared.statement.Kind.{Kind}
use Rattle.session_core.specs.declared.statement.Kind.TheVariants as kind
use Rattle.session_core.specs.Asking.{HasNotBegun, Queries}
use Rattle.session_core.specs.Replying.{IsAnswer, IsCommit, IsPlain, Refuses, Tells, Wants}
use Rattle.session_core.specs.Says.{Nothing, Or, Says, Sent, Then}
use Rattle.session_core.specs.Statement.{kind_of, statement_of}
use Rattle.session_core.specs.Texts.{begun_text, committed_text, marked_text, stats_text, swept_text}
use Rattle.world_model.specs.declared.answer.Marked.{Marked}
use Rattle.world_model.specs.declared.answer.Stats.{Stats}
use Rattle.world_model.specs.declared.event.Event.TheVariants as event
use Rattle.world_model.specs.History.{Entry}
use Rattle.world_model.specs.Reply as reply
use Rattle.world_model.specs.World.{Start}

-- WORDS OF TRANSACTIONS

-- a transaction is open now
pub record HasBegun (a : Answered) (caller : ℕ) (s : Start) (es later : List Entry) : Type 0 where
  pub start : ℕ
  pub plain : IsPlain a (begun_text start) (Some start)
  pub sent : Sent event.Begin (reply.Begun start) caller s es later

-- BEGIN
abbrev pub Begins : Option ℕ → Answered → Says
Begins None a = Or (HasBegun a) (Or (HasNotBegun a) (Wants None a))
Begins (Some start) a = Refuses (codes "ERR 13 already open") (Some start) a

abbrev pub no_transaction : List ℕ
no_transaction = codes "ERR 12 no transaction"

-- the writes stand, and the reply tells since when
pub record HasCommitted (a : Answered) (caller : ℕ) (s : Start) (es later : List Entry) : Type 0 where
  pub ts : ℕ
  pub commit : IsCommit a (committed_text ts)
  pub sent : Sent event.Commit (reply.Committed ts) caller s es later

-- COMMIT
abbrev pub Finishes : Option ℕ → Answered → Says
Finishes None a = Refuses no_transaction None a
Finishes (Some start) a = Or (HasCommitted a) (Wants (Some start) a)

-- the writes are gone
pub record HasRolledBack (a : Answered) (caller : ℕ) (s : Start) (es later : List Entry) : Type 0 where
  pub plain : IsPlain a (codes "OK rollback") None
  pub sent : Sent event.Abort reply.Aborted caller s es later

-- ROLLBACK
abbrev pub RollsBack : Option ℕ → Answered → Says
RollsBack None a = Refuses no_transaction None a
RollsBack (Some start) a = Or (HasRolledBack a) (Wants (Some start) a)

-- COMMANDS

-- the clock and the mark are told
pub record TellsMark (running : Option ℕ) (a : Answered) (caller : ℕ) (s : Start) (es later : List Entry) : Type 0 where
  pub marked : Marked
  pub says : Then (Sent event.Mark (reply.Marked marked)) (Tells (marked_text marked) running a) caller s es later

-- how many deltas and blocks there are is told
pub record TellsStats (running : Option ℕ) (a : Answered) (caller : ℕ) (s : Start) (es later : List Entry) : Type 0 where
  pub stats : Stats
  pub says : Then (Sent event.Stats (reply.Stats stats)) (Tells (stats_text stats) running a) caller s es later

-- the caller's entries are those of a sweep from its begin on
abbrev pub Sweeps : Says
Sweeps caller s es later = AreAsked fresh (own_of caller later)

-- they are those of a whole sweep, and this is what it adds up
pub record SweepsAll (swept : Swept) (caller : ℕ) (s : Start) (es later : List Entry) : Type 0 where
  pub asked : Sweeps caller s es later
  pub sums : IsSumOf (own_of caller later) swept

-- a whole sweep was made, and is told
pub record HasSwept (running : Option ℕ) (a : Answered) (caller : ℕ) (s : Start) (es later : List Entry) : Type 0 where
  pub swept : Swept
  pub says : Then (SweepsAll swept) (Tells (swept_text swept) running a) caller s es later

-- memory was wanting on the way of a sweep; what it has moved until then stays so
abbrev pub TellsSweep : Option ℕ → Answered → Says
TellsSweep running a = Or (HasSwept running a) (Then Sweeps (Wants running a))

-- the session ends
pub record HasQuit (running : Option ℕ) (a : Answered) (caller : ℕ) (s : Start) (es later : List Entry) : Type 0 where
  pub answer : IsAnswer a (codes "OK bye") running
  pub ends : a.reply.quit ≡ true
  pub not_committed : a.reply.committed ≡ false
  pub nothing : Nothing caller s es later

abbrev pub Quits : Option ℕ → Answered → Says
Quits running a = Or (HasQuit running a) (Wants running a)

-- LINES

-- a session's open transaction
abbrev pub running_of : Session → Option ℕ
running_of session = session.running

-- a reply, and the session's transaction behind it
abbrev pub answered : Reply → Option ℕ → Answered
answered reply running = record { reply = reply; running = running }

abbrev pub Answers : Kind → List ℕ → Option ℕ → Answered → Says
Answers kind.Begin statement running a = Begins running a
Answers kind.Commit statement running a = Finishes running a
Answers kind.Rollback statement running a = RollsBack running a
Answers kind.Now statement running a = TellsMark running a
Answers kind.Stats statement running a = TellsStats running a
Answers kind.Sweep statement running a = TellsSweep running a
Answers kind.Quit statement running a = Quits running a
Answers kind.Unknown statement running a = Refuses (codes "ERR 1 unknown command") running a
Answers kind.Query statement running a = Queries statement running a

-- a statement in UTF-8
pub record IsStatement (statement : List ℕ) (running : Option ℕ) (a : Answered) (caller : ℕ) (s : Start) (es later : List Entry) : Type 0 where
  pub utf8 : IsUtf8 statement
  pub says : Answers (kind_of statement) statement running a caller s es later

-- any other bytes
pub record IsNotUtf8 (statement : List ℕ) (running : Option ℕ) (a : Answered) (caller : ℕ) (s : Start) (es later : List Entry) : Type 0 where
  pub not_utf8 : IsUtf8 statement → ⊥
  pub says : Refuses (codes "ERR 1 not UTF-8") running a caller s es later

abbrev pub AnswersStatement : List ℕ → Option ℕ → Answered → Says
AnswersStatement statement running a = Or (IsStatement statement running a) (IsNotUtf8 statement running a)

-- a line that isn't too long
abbrev pub AnswersLine : List ℕ → Option ℕ → Answered → Says
AnswersLine line running a = AnswersStatement (statement_of line) running a

-- a line that is
abbrev pub AnswersLong : Option ℕ → Answered → Says
AnswersLong running a = Refuses (codes "ERR 1 line too long") running a
