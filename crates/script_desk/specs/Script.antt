-- What a line of a script is answered, and what it does: session by session over one history.
use Rattle.std.specs.Prelude.{◌≡◌, ◌⊎◌, ℕ, List, [], ◌++◌, Bool, true, false, codes, Option, Some, None}
use Rattle.std.specs.Str.{IsUtf8}
use Rattle.collector.specs.Whole.{own_of}
use Rattle.event_lines.specs.Request.{is_skipped}
use Rattle.session_core.specs.declared.reply.Reply.{Reply}
use Rattle.session_core.specs.Answering.{AnswersLine as AnswersStatement, answered}
use Rattle.session_core.specs.Replying.{text_of}
use Rattle.script_desk.specs.Naming.{named, nobody, reply_lines}
use Rattle.script_desk.specs.Roll.{Roll, number_of, running_of, with_running}
use Rattle.world_model.specs.History.{Entry}
use Rattle.world_model.specs.World.{Start}

-- what has happened: the numbers that the store began with, the entries of its history, and the sessions
pub record Past : Type 0 where
  pub start : Start
  pub es : List Entry
  pub sessions : Roll

-- a store in which nothing has happened
abbrev pub nothing_yet : Start → Past
nothing_yet s = record { start = s; es = []; sessions = [] }

-- A session answers a statement: what came to the history is all its own, and the reply stands behind its name.
pub record SessionAnswers (past : Past) (name statement text : List ℕ) (quits : Bool) (after : Past) : Type 0 where
  pub reply : Reply
  pub running : Option ℕ
  pub later : List Entry
  pub own : own_of (number_of name past.sessions) later ≡ later
  pub says : AnswersStatement statement (running_of name past.sessions) (answered reply running) (number_of name past.sessions) past.start past.es later
  pub told : text ≡ reply_lines name (text_of reply.text)
  pub ends : quits ≡ reply.quit
  pub left : after ≡ record {
    start = past.start;
    es = past.es ++ later;
    sessions = with_running name running past.sessions;
  }

-- a line that touches no session: this is told, and nothing happens
pub record Tells (past : Past) (reply text : List ℕ) (quits : Bool) (after : Past) : Type 0 where
  pub told : text ≡ reply
  pub goes_on : quits ≡ false
  pub same : after ≡ past

abbrev pub nobody_told : List ℕ → List ℕ
nobody_told text = reply_lines nobody text

-- by the name and the statement of a line
abbrev pub ByName : Past → Option (List ℕ × List ℕ) → List ℕ → Bool → Past → Type 0
ByName past None text quits after = Tells past (nobody_told (codes "ERR 1 no session name")) text quits after
ByName past (Some line) text quits after = SessionAnswers past line.0 line.1 text quits after

-- a line in UTF-8
pub record IsNamed (past : Past) (line text : List ℕ) (quits : Bool) (after : Past) : Type 0 where
  pub utf8 : IsUtf8 line
  pub says : ByName past (named line) text quits after

-- any other bytes
pub record IsNotUtf8 (past : Past) (line text : List ℕ) (quits : Bool) (after : Past) : Type 0 where
  pub not_utf8 : IsUtf8 line → ⊥
  pub says : Tells past (nobody_told (codes "ERR 1 not UTF-8")) text quits after

-- blank lines, and those that begin with a number sign, are skipped
abbrev pub ByMark : Bool → Past → List ℕ → List ℕ → Bool → Past → Type 0
ByMark true past line text quits after = Tells past [] text quits after
ByMark false past line text quits after = IsNamed past line text quits after ⊎ IsNotUtf8 past line text quits after

-- a line that isn't too long, without its carriage return
abbrev pub AnswersLine : Past → List ℕ → List ℕ → Bool → Past → Type 0
AnswersLine past line text quits after = ByMark (is_skipped line) past line text quits after

-- a line that is too long
abbrev pub AnswersLong : Past → List ℕ → Past → Type 0
AnswersLong past text after = Tells past (nobody_told (codes "ERR 1 line too long")) text false after
