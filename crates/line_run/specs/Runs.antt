-- What is read, answered and written over a run.
use Rattle.std.specs.Prelude.{◌≡◌, ◌⊎◌, ◌-◌, ◌<◌, ◌≤◌, ℕ, List, [], ◌++◌, length, take}
use Rattle.wire_line.specs.declared.line.TheConstants.{INPUT_LIMIT}
use Rattle.wire_line.specs.declared.source.Source as source
use Rattle.wire_line.specs.declared.sink.Sink as sink
use Rattle.wire_line.specs.Calls.{WhereLeft, WhereTaken, SameInput, SourceRose, SinkRose}
use Rattle.wire_line.specs.Lines.{lines_of, ended_lines}
use Rattle.line_run.specs.declared.answering.Answering as answering
use Rattle.line_run.specs.declared.ending.Ending.{Ending}
use Rattle.line_run.specs.declared.ending.Ending.TheVariants.{Done, Quit, SourceFault, SinkFault, NoMemory, Limit}
use Rattle.line_run.specs.Turns.{AreAnswered, QuitsAt}

abbrev pub status_of : Ending → ℕ
status_of Done = 0
status_of Quit = 0
status_of SourceFault = 3
status_of SinkFault = 4
status_of NoMemory = 5
status_of Limit = 7

module _ {A : Type 0} (a : answering.Ghosts A) (before after : A) where
  -- these lines were answered, and the text that answers them was written
  pub record Writes (lines : List (List ℕ)) (taken taken' : List ℕ) : Type 0 where
    pub text : List ℕ
    pub answered : AreAnswered a.answers a.answers_long before lines text after
    pub written : taken' ≡ taken ++ text

  -- the whole input was read and answered
  pub record AnswersAll (left left' taken taken' : List ℕ) : Type 0 where
    pub read : left' ≡ []
    pub writes : Writes (lines_of left) taken taken'

  -- Exactly the lines that ended in what was read are answered: by a line end, or by the end of the input.
  pub record AnswersRead (left left' taken taken' : List ℕ) : Type 0 where
    pub read : List ℕ
    pub all : left ≡ read ++ left'
    pub lines : List (List ℕ)
    pub ended : (lines ≡ ended_lines read) ⊎ ((left' ≡ []) × (lines ≡ lines_of read))
    pub writes : Writes lines taken taken'

  -- exactly the lines whose line end lies within the limit of the input are answered
  abbrev pub AnswersWithin : List ℕ → List ℕ → List ℕ → Type 0
  AnswersWithin left taken taken' = Writes (ended_lines (take INPUT_LIMIT left)) taken taken'

  -- Lines from the first one on were answered, the last of them has ended the run, and their text was written.
  pub record AnswersToQuit (left taken taken' : List ℕ) : Type 0 where
    pub lines : List (List ℕ)
    pub unread : List (List ℕ)
    pub all : lines_of left ≡ lines ++ unread
    pub text : List ℕ
    pub answered : QuitsAt a.answers a.answers_long before lines text after
    pub written : taken' ≡ taken ++ text

-- Lines from the first one on were answered, and of their text a front was written, and no other byte.
pub record WritesFront {A : Type 0} (a : answering.Ghosts A) (before : A) (left taken taken' : List ℕ) : Type 0 where
  pub lines : List (List ℕ)
  pub unread : List (List ℕ)
  pub all : lines_of left ≡ lines ++ unread
  pub text : List ℕ
  pub after : A
  pub answered : AreAnswered a.answers a.answers_long before lines text after ⊎ QuitsAt a.answers a.answers_long before lines text after
  pub unwritten : List ℕ
  pub front : taken' ++ unwritten ≡ taken ++ text

-- How many bytes were taken before this ending: more than the limit exactly where that is the cause.
abbrev pub IsEndingAfter : Ending → ℕ → Type 0
IsEndingAfter Limit taken = INPUT_LIMIT < taken
IsEndingAfter _ taken = taken ≤ INPUT_LIMIT

-- What was read, what was written at which ending, and which count rose.
pub record Run {A I O : Type 0} (a : answering.Ghosts A) (before after : A) (g : source.Ghosts I) (h : sink.Ghosts O)
    (input input' : I) (output output' : O) (ending : Ending) : Type 0 where
  pub same_input : SameInput g input input'
  pub done : ending ≡ Done → WhereLeft g input input' (λ left left'. WhereTaken h output output' (AnswersAll a before after left left'))
  pub quit : ending ≡ Quit → WhereLeft g input input' (λ left left'. WhereTaken h output output' (AnswersToQuit a before after left))
  pub source : ending ≡ SourceFault → SourceRose g input input'
  pub ended : ending ≡ SourceFault → WhereLeft g input input' (λ left left'. WhereTaken h output output' (AnswersRead a before after left left'))
  pub sink : ending ≡ SinkFault → SinkRose h output output'
  pub limit : WhereLeft g input input' (λ left left'. IsEndingAfter ending (length left - length left'))
  pub within : ending ≡ Limit → WhereLeft g input input' (λ left left'. WhereTaken h output output' (AnswersWithin a before after left))
  pub front : WhereLeft g input input' (λ left left'. WhereTaken h output output' (WritesFront a before left))
