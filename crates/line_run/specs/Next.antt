-- What one turn of a run does: the next line is answered, or there is none.
use Rattle.std.specs.Prelude.{◌≡◌, ◌≢◌, ◌≤◌, ℕ, List, [], ◌++◌, Bool, false, Result, Ok, Err}
use Rattle.wire_line.specs.declared.line.TheConstants.{INPUT_LIMIT}
use Rattle.wire_line.specs.Intake.{Intake, IsEnd, StillAhead, GoesPast, within_limit}
use Rattle.wire_line.specs.Lines.{first_line, after_line, HasNoEnd}
use Rattle.line_run.specs.declared.answering.Answering as answering
use Rattle.line_run.specs.declared.ending.Ending.{Ending}
use Rattle.line_run.specs.declared.ending.Ending.TheVariants.{Done, Quit, SourceFault, SinkFault, NoMemory, Limit}
use Rattle.line_run.specs.Turns.{Turn}
use Rattle.line_run.specs.Runs.{IsEndingAfter}

module _ {A : Type 0} (a : answering.Ghosts A) (before after : A) where
  -- The first of the lines ahead was answered, and it is given away.
  pub record AnswersNext (quits : Bool) (text : List ℕ) (reader' : Intake) (ahead rest : List ℕ) : Type 0 where
    pub there : ahead ≢ []
    pub turn : Turn a.answers a.answers_long before (first_line ahead) text quits after
    pub behind : rest ≡ after_line ahead
    pub at_next : reader'.passing ≡ false

  -- What a turn says of the bytes ahead: a line was answered, or there is none, or where the input stopped. It begins
  -- where no line is being passed over.
  abbrev pub Continues : Result Bool Ending → (text : List ℕ) (reader reader' : Intake) (left left' : List ℕ) → Type 0
  Continues (Ok quits) text reader reader' left left' = AnswersNext quits text reader' (reader.waiting ++ left) (reader'.waiting ++ left')
  Continues (Err Done) text reader reader' left left' = IsEnd reader (reader.waiting ++ left) (reader'.waiting ++ left')
  Continues (Err Quit) text reader reader' left left' = Unit {0}
  Continues (Err SourceFault) text reader reader' left left' = StillAhead reader reader' left left' × HasNoEnd reader'.waiting
  Continues (Err SinkFault) text reader reader' left left' = Unit {0}
  Continues (Err NoMemory) text reader reader' left left' = Unit {0}
  Continues (Err Limit) text reader reader' left left' =
      reader.taken ≤ INPUT_LIMIT → GoesPast (within_limit reader) (reader.waiting ++ left)

-- how many bytes were taken after a turn
abbrev pub IsTurnAfter : Result Bool Ending → ℕ → Type 0
IsTurnAfter (Ok _) taken = taken ≤ INPUT_LIMIT
IsTurnAfter (Err ending) taken = IsEndingAfter ending taken
