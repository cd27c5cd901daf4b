-- What is read, answered and written over a run.
use Rattle.std.specs.Prelude.{◌≡◌, ◌≢◌, ◌⊎◌, ◌-◌, ◌<◌, ◌≤◌, ℕ, List, [], ◌∷◌, ◌++◌, Bool, Result, Ok, Err, Contains, length, take}
use Rattle.wire_line.specs.declared.line.TheConstants.{INPUT_LIMIT}
use Rattle.wire_line.specs.declared.source.Source as source
use Rattle.wire_line.specs.declared.sink.Sink as sink
use Rattle.wire_line.specs.Calls.{WhereLeft, WhereTaken, SameInput, SourceRose, SinkRose}
use Rattle.wire_line.specs.Lines.{first_line, after_line, lines_of, ended_lines, HasNoEnd}
use Rattle.wire_line.specs.Intake.{Intake, IsEnd, StillAhead, GoesPast, within_limit}
use Rattle.graph_shell.specs.declared.run.Ending.{Ending}
use Rattle.graph_shell.specs.declared.run.Ending.TheVariants.{Done, SourceFault, SinkFault, NoMemory, Limit}
use Rattle.graph_shell.specs.Events.{answer_line, events_text, answers_text}
use Rattle.graph_shell.specs.Stands.{AnswersLine, Past}

-- an anchor interval
abbrev pub IsAnchor : ℕ → Type 0
IsAnchor anchor = (1 ≤ anchor) × (anchor ≤ 1024)

abbrev pub status_of : Ending → ℕ
status_of Done = 0
status_of SourceFault = 3
status_of SinkFault = 4
status_of NoMemory = 5
status_of Limit = 7

-- THE PROMISE OF A RUN

-- the statuses of a run
abbrev pub run_statuses : List ℕ
run_statuses = 0 ∷ 3 ∷ 4 ∷ 5 ∷ 7 ∷ []

-- The whole input was read, and the text that answers it was written.
pub record AnswersAll (anchor : ℕ) (left left' taken taken' : List ℕ) : Type 0 where
  pub read : left' ≡ []
  pub wanting : List Bool
  pub written : taken' ≡ taken ++ events_text anchor wanting left

-- A front of the text that answers the whole input was written, and no other byte.
pub record WritesFront (anchor : ℕ) (left taken taken' : List ℕ) : Type 0 where
  pub wanting : List Bool
  pub unwritten : List ℕ
  pub front : taken' ++ unwritten ≡ taken ++ events_text anchor wanting left

-- Exactly the lines that ended in what was read are answered: by a line end, or by the end of the input.
pub record AnswersRead (anchor : ℕ) (left left' taken taken' : List ℕ) : Type 0 where
  pub read : List ℕ
  pub all : left ≡ read ++ left'
  pub lines : List (List ℕ)
  pub ended : (lines ≡ ended_lines read) ⊎ ((left' ≡ []) × (lines ≡ lines_of read))
  pub wanting : List Bool
  pub written : taken' ≡ taken ++ answers_text anchor wanting lines

-- Exactly the lines whose line end lies within the limit of the input are answered.
pub record AnswersWithin (anchor : ℕ) (left taken taken' : List ℕ) : Type 0 where
  pub wanting : List Bool
  pub written : taken' ≡ taken ++ answers_text anchor wanting (ended_lines (take INPUT_LIMIT left))

-- the status is 7 exactly where more bytes were read than the limit
pub record IsStatusAfter (status read : ℕ) : Type 0 where
  pub only : status ≡ 7 → INPUT_LIMIT < read
  pub always : INPUT_LIMIT < read → status ≡ 7

-- What was read, what was written at which status, and which count rose.
pub record Run {I O : Type 0} (anchor : ℕ) (g : source.Ghosts I) (h : sink.Ghosts O) (input input' : I) (output output' : O)
    (status : ℕ) : Type 0 where
  pub statuses : Contains run_statuses status
  pub same_input : SameInput g input input'
  pub done : status ≡ 0 → WhereLeft g input input' (λ left left'. WhereTaken h output output' (AnswersAll anchor left left'))
  pub source : status ≡ 3 → SourceRose g input input'
  pub ended : status ≡ 3 → WhereLeft g input input' (λ left left'. WhereTaken h output output' (AnswersRead anchor left left'))
  pub sink : status ≡ 4 → SinkRose h output output'
  pub limit : WhereLeft g input input' (λ left left'. IsStatusAfter status (length left - length left'))
  pub within : status ≡ 7 → WhereLeft g input input' (λ left left'. WhereTaken h output output' (AnswersWithin anchor left))
  pub front : WhereLeft g input input' (λ left left'. WhereTaken h output output' (WritesFront anchor left))

-- ONE TURN

-- The first of the lines ahead was answered, and it is given away.
pub record AnswersNext (Stands : Past → Type 0) (text : List ℕ) (before after : Intake) (ahead rest : List ℕ)
    (past : Past) : Type 0 where
  pub there : ahead ≢ []
  pub answers : AnswersLine (λ wanting k. answer_line wanting k (first_line ahead)) Stands text past
  pub behind : rest ≡ after_line ahead
  pub at_next : after.passing ≡ before.passing

-- What a turn says of the bytes ahead: a line was answered, or there is none, or where the input stopped. It begins
-- where no line is being passed over.
abbrev pub Continues : Result Unit Ending → (Stands : Past → Type 0) → (text : List ℕ) (before after : Intake) (left left' : List ℕ)
    (past : Past) → Type 0
Continues (Ok _) Stands text before after left left' past =
    AnswersNext Stands text before after (before.waiting ++ left) (after.waiting ++ left') past
Continues (Err Done) Stands text before after left left' past = IsEnd before (before.waiting ++ left) (after.waiting ++ left')
Continues (Err SourceFault) Stands text before after left left' past = StillAhead before after left left' × HasNoEnd after.waiting
Continues (Err SinkFault) Stands text before after left left' past = Unit {0}
Continues (Err NoMemory) Stands text before after left left' past = Unit {0}
Continues (Err Limit) Stands text before after left left' past =
    before.taken ≤ INPUT_LIMIT → GoesPast (within_limit before) (before.waiting ++ left)

-- How many bytes were taken before this ending: more than the limit exactly where that is the cause.
abbrev pub IsEndingAfter : Ending → ℕ → Type 0
IsEndingAfter Limit taken = INPUT_LIMIT < taken
IsEndingAfter _ taken = taken ≤ INPUT_LIMIT

-- the same of a turn
abbrev pub IsTurnAfter : Result Unit Ending → ℕ → Type 0
IsTurnAfter (Ok _) taken = taken ≤ INPUT_LIMIT
IsTurnAfter (Err ending) taken = IsEndingAfter ending taken
