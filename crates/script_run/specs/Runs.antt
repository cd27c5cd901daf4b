-- What a script reads, is answered and writes.
use Rattle.std.specs.Prelude.{◌≡◌, ◌⊎◌, ◌-◌, ◌<◌, ℕ, List, [], ◌∷◌, ◌++◌, Contains, length, take}
use Rattle.front_core.specs.Keeps.{first_start}
use Rattle.line_run.specs.Turns.{AreAnswered, QuitsAt}
use Rattle.script_desk.specs.Script.{AnswersLine, AnswersLong, Past, nothing_yet}
use Rattle.script_desk.specs.Stands.{IsEnded}
use Rattle.wire_line.specs.declared.line.TheConstants.{INPUT_LIMIT}
use Rattle.wire_line.specs.declared.source.Source as source
use Rattle.wire_line.specs.declared.sink.Sink as sink
use Rattle.wire_line.specs.Calls.{SameInput, SinkRose, SourceRose, WhereLeft, WhereTaken}
use Rattle.wire_line.specs.Lines.{ended_lines, lines_of}

-- the lines of a script were answered by this text, one after the other over one history
abbrev pub Script : Past → List (List ℕ) → List ℕ → Past → Type 0
Script past lines text after = AreAnswered AnswersLine AnswersLong past lines text after

-- the same, where the last of them was `.quit`
abbrev pub ScriptToQuit : Past → List (List ℕ) → List ℕ → Past → Type 0
ScriptToQuit past lines text after = QuitsAt AnswersLine AnswersLong past lines text after

abbrev pub before : ℕ → Past
before anchor = nothing_yet (first_start anchor)

-- Lines that are answered in a store in which nothing has happened, and their text was written. What is open behind them is
-- aborted.
pub record Writes (anchor : ℕ) (lines : List (List ℕ)) (taken taken' : List ℕ) : Type 0 where
  pub text : List ℕ
  pub after : Past
  pub answered : Script (before anchor) lines text after
  pub ended : IsEnded after
  pub written : taken' ≡ taken ++ text

-- the whole input was read and answered
pub record AnswersAll (anchor : ℕ) (left left' taken taken' : List ℕ) : Type 0 where
  pub read : left' ≡ []
  pub writes : Writes anchor (lines_of left) taken taken'

-- the lines up to a `.quit` were answered
pub record AnswersToQuit (anchor : ℕ) (left taken taken' : List ℕ) : Type 0 where
  pub lines : List (List ℕ)
  pub unread : List (List ℕ)
  pub all : lines_of left ≡ lines ++ unread
  pub text : List ℕ
  pub after : Past
  pub answered : ScriptToQuit (before anchor) lines text after
  pub ended : IsEnded after
  pub written : taken' ≡ taken ++ text

-- Exactly the lines that ended in what was read are answered: by a line end, or by the end of the input.
pub record AnswersRead (anchor : ℕ) (left left' taken taken' : List ℕ) : Type 0 where
  pub read : List ℕ
  pub all : left ≡ read ++ left'
  pub lines : List (List ℕ)
  pub ended : (lines ≡ ended_lines read) ⊎ ((left' ≡ []) × (lines ≡ lines_of read))
  pub writes : Writes anchor lines taken taken'

-- exactly the lines whose line end lies within the limit of the input are answered
abbrev pub AnswersWithin : ℕ → List ℕ → List ℕ → List ℕ → Type 0
AnswersWithin anchor left taken taken' = Writes anchor (ended_lines (take INPUT_LIMIT left)) taken taken'

-- Lines from the first one on were answered, and of their text a front was written, and no other byte.
pub record WritesFront (anchor : ℕ) (left taken taken' : List ℕ) : Type 0 where
  pub lines : List (List ℕ)
  pub unread : List (List ℕ)
  pub all : lines_of left ≡ lines ++ unread
  pub text : List ℕ
  pub after : Past
  pub answered : Script (before anchor) lines text after ⊎ ScriptToQuit (before anchor) lines text after
  pub unwritten : List ℕ
  pub front : taken' ++ unwritten ≡ taken ++ text

-- the statuses of a run
abbrev pub run_statuses : List ℕ
run_statuses = 0 ∷ 3 ∷ 4 ∷ 5 ∷ 7 ∷ []

-- the status is 7 exactly where more bytes were read than the limit
pub record IsStatusAfter (status read : ℕ) : Type 0 where
  pub only : status ≡ 7 → INPUT_LIMIT < read
  pub always : INPUT_LIMIT < read → status ≡ 7

-- What was read, what was written at which status, and which count rose.
pub record ScriptRun {I O : Type 0} (anchor : ℕ) (g : source.Ghosts I) (h : sink.Ghosts O) (input input' : I) (output output' : O)
    (status : ℕ) : Type 0 where
  pub statuses : Contains run_statuses status
  pub same_input : SameInput g input input'
  pub done : status ≡ 0 → WhereLeft g input input' (λ left left'. WhereTaken h output output' (λ taken taken'.
      AnswersAll anchor left left' taken taken' ⊎ AnswersToQuit anchor left taken taken'))
  pub source : status ≡ 3 → SourceRose g input input'
  pub ended : status ≡ 3 → WhereLeft g input input' (λ left left'. WhereTaken h output output' (AnswersRead anchor left left'))
  pub sink : status ≡ 4 → SinkRose h output output'
  pub limit : WhereLeft g input input' (λ left left'. IsStatusAfter status (length left - length left'))
  pub within : status ≡ 7 → WhereLeft g input input' (λ left left'. WhereTaken h output output' (AnswersWithin anchor left))
  pub front : WhereLeft g input input' (λ left left'. WhereTaken h output output' (WritesFront anchor left))
