-- What a reader of lines holds between two calls, and what each of its answers says.
use Rattle.std.specs.Prelude.{◌≡◌, ◌≢◌, ℕ, ◌+◌, ◌-◌, ◌<◌, ◌≤◌, Bool, true, false, List, [], ◌++◌, length, take, slice_range}
use Rattle.wire_line.specs.declared.line.Line.{Line}
use Rattle.wire_line.specs.declared.line.Line.TheVariants.{Whole, TooLong, End, Limit, Fault}
use Rattle.wire_line.specs.declared.line.LineSpan.{LineSpan}
use Rattle.wire_line.specs.declared.line.TheConstants.{LINE_LIMIT, INPUT_LIMIT}
use Rattle.wire_line.specs.Lines.{first_line, after_line, without_return, HasNoEnd}

-- What waits was taken from the source and not yet given as a line; taken is how many bytes were taken so far.
-- passing: the front of a line that is too long was dropped, and the rest of that line is still to be passed over.
-- room is the buffer's, behind what waits.
pub record Intake : Type 0 where
  pub waiting : List ℕ
  pub taken : ℕ
  pub buffer : List ℕ
  pub passing : Bool
  pub room : ℕ

-- how many of the bytes that wait and of those to come lie within the limit of the input
abbrev pub within_limit : Intake → ℕ
within_limit reader = INPUT_LIMIT + length reader.waiting - reader.taken

-- there are more than n bytes, and no line ends among the first n
pub record GoesPast (n : ℕ) (ahead : List ℕ) : Type 0 where
  pub more : n < length ahead
  pub no_end : HasNoEnd (take n ahead)

-- Of a line whose front was dropped: nothing was, or it is too long. The reader knows of it by `passing`.
abbrev pub IsDropped : (passing passing' : Bool) → (dropped : List ℕ) → Type 0
IsDropped passing false dropped = (passing ≡ false) × (dropped ≡ [])
IsDropped false true dropped = LINE_LIMIT < length dropped
IsDropped true true dropped = Unit {0}

-- All that was ahead still is, but for the front of a line that is too long.
pub record StillAhead (before after : Intake) (left left' : List ℕ) : Type 0 where
  pub dropped : List ℕ
  pub no_end : HasNoEnd dropped
  pub ahead : before.waiting ++ left ≡ dropped ++ (after.waiting ++ left')
  pub known : IsDropped before.passing after.passing dropped

-- The line in the span is the first of these lines, and it is given away with its line end.
pub record IsFirstLine (span : LineSpan) (before after : Intake) (ahead rest : List ℕ) : Type 0 where
  pub at_start : before.passing ≡ false
  pub there : ahead ≢ []
  pub short : length (first_line ahead) ≤ LINE_LIMIT
  pub text : slice_range after.buffer span.from span.to ≡ without_return (first_line ahead)
  pub behind : rest ≡ after_line ahead
  pub at_next : after.passing ≡ false

-- The first of these lines is too long, and all of it is passed over.
pub record IsTooLong (before after : Intake) (ahead rest : List ℕ) : Type 0 where
  pub long : before.passing ≡ false → LINE_LIMIT < length (first_line ahead)
  pub behind : rest ≡ after_line ahead
  pub at_next : after.passing ≡ false

-- There is no line any more.
pub record IsEnd (before : Intake) (ahead rest : List ℕ) : Type 0 where
  pub at_start : before.passing ≡ false
  pub nothing : ahead ≡ []
  pub still : rest ≡ []

-- What an answer says of the bytes ahead, those that wait and then those that the source has left.
abbrev pub Says : Line → (before after : Intake) → (left left' : List ℕ) → Type 0
Says (Whole span) before after left left' = IsFirstLine span before after (before.waiting ++ left) (after.waiting ++ left')
Says TooLong before after left left' = IsTooLong before after (before.waiting ++ left) (after.waiting ++ left')
Says End before after left left' = IsEnd before (before.waiting ++ left) (after.waiting ++ left')
Says Limit before after left left' = before.taken ≤ INPUT_LIMIT → GoesPast (within_limit before) (before.waiting ++ left)
Says Fault before after left left' = StillAhead before after left left'

-- a line waits with its line end, within the limit of the input
pub record HasLine (reader : Intake) : Type 0 where
  pub ended : length (first_line reader.waiting) < length reader.waiting
  pub within : reader.taken ≤ INPUT_LIMIT

-- the answer is a line, or that a line is too long
abbrev pub IsLine : Line → Type 0
IsLine (Whole span) = Unit {0}
IsLine TooLong = Unit {0}
IsLine End = ⊥
IsLine Limit = ⊥
IsLine Fault = ⊥

-- The line that waits is the answer: what the source has left makes no difference.
pub record GivesWaiting (answer : Line) (before after : Intake) : Type 0 where
  pub line : IsLine answer
  pub says : Says answer before after [] []

-- At a failure what waited still waits, in front of what came since, and no line end waits. Where the front of a line
-- that is too long was dropped, the reader knows that.
pub record StillWaits (before after : Intake) : Type 0 where
  pub waits : after.passing ≡ false → take (length before.waiting) after.waiting ≡ before.waiting
  pub no_line : HasNoEnd after.waiting

-- a span within a buffer, no longer than a line may be
pub record IsSpan (span : LineSpan) (buffer : List ℕ) : Type 0 where
  pub ordered : span.from ≤ span.to
  pub short : span.to ≤ span.from + LINE_LIMIT
  pub inside : span.to ≤ length buffer

-- P of the span, if the answer is one
abbrev pub IfWhole : Line → (LineSpan → Type 0) → Type 0
IfWhole (Whole span) P = P span
IfWhole _ P = Unit {0}

-- the answer is Limit exactly where more bytes were taken than the limit of the input
abbrev pub IsLimitAnswer : Line → ℕ → Type 0
IsLimitAnswer Limit taken = INPUT_LIMIT < taken
IsLimitAnswer _ taken = taken ≤ INPUT_LIMIT
