-- What a desk stands for: what has happened in its store, and its sessions.
use Rattle.std.specs.Prelude.{◌≡◌, ℕ, List, ◌++◌, Bool, Option, None, Result, Ok, Err, map, string_bytes}
use Rattle.collector.specs.Whole.{own_of}
use Rattle.front_core.specs.Keeps.{StandsFor, open_in}
use Rattle.front_core.specs.declared.state.State.{State}
use Rattle.script_desk.specs.Roll.{Roll, number_of, running_at, running_of, with_running}
use Rattle.script_desk.specs.Script.{Past}
use Rattle.script_desk.specs.declared.roll.Roll.{Roll as Kept}
use Rattle.session_core.specs.declared.reply.Reply.{Reply}
use Rattle.session_core.specs.Answering.{AnswersLine as AnswersStatement, answered}
use Rattle.world_model.specs.History.{Entry, IsLegal, run}
use Rattle.world_model.specs.Sending.{open_start}
use Rattle.world_model.specs.World.{start_world}

-- the sessions that are kept
abbrev pub roll_of : Kept → Roll
roll_of kept = map (λ e. (string_bytes e.0, e.1)) kept.entries.entries

-- a store, and the sessions that use it
pub record DeskParts : Type 0 where
  pub core : State
  pub sessions : Roll

-- The store stands for the history, and each session has the transaction open that its caller has in the store.
pub record Stands (desk : DeskParts) (past : Past) : Type 0 where
  pub store : StandsFor past.start desk.core past.es
  pub same : desk.sessions ≡ past.sessions
  pub open_as : (caller : ℕ) → open_in desk.core caller ≡ running_at caller past.sessions

-- there is such a past
abbrev pub StandsSome : DeskParts → Type 0
StandsSome desk = (past : Past) × Stands desk past

-- A line was answered so: a past that the line makes of the one before, for which the desk stands now.
pub record IsLine (says : List ℕ → Bool → Past → Type 0) (stands : Past → Type 0) (text : List ℕ) (quits : Bool) : Type 0 where
  pub after : Past
  pub says_so : says text quits after
  pub stood : stands after

abbrev pub TellsLine : {E : Type 0} → Result Bool E → (List ℕ → Bool → Past → Type 0) → (Past → Type 0) → List ℕ → Type 0
TellsLine (Ok quits) says stands text = IsLine says stands text quits
TellsLine (Err why) says stands text = Unit {0}

-- A session was asked a statement: what came to the history is all its own, and the desk stands for it now.
pub record IsAsked (past : Past) (name statement : List ℕ) (reply : Reply) (stands : Past → Type 0) : Type 0 where
  pub running : Option ℕ
  pub later : List Entry
  pub own : own_of (number_of name past.sessions) later ≡ later
  pub says : AnswersStatement statement (running_of name past.sessions) (answered reply running) (number_of name past.sessions) past.start past.es later
  pub stood : stands (record {
    start = past.start;
    es = past.es ++ later;
    sessions = with_running name running past.sessions;
  })

-- The history goes on to one in which no transaction is open.
pub record IsEnded (past : Past) : Type 0 where
  pub later : List Entry
  pub legal : IsLegal past.start (past.es ++ later)
  pub closed : (caller : ℕ) → open_start (run (start_world past.start) (past.es ++ later)) caller ≡ None
