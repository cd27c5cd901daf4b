-- The part of a buffer that waits to be given as lines, and how the reader searches and fills it.
use Rattle.std.specs.Prelude.{◌≡◌, ℕ, ◌+◌, ◌<◌, ◌≤◌, List, [], ◌++◌, length, slice_range}
use Rattle.wire_line.specs.declared.stop.Stop.{Stop}
use Rattle.wire_line.specs.declared.stop.Stop.TheVariants as stop
use Rattle.wire_line.specs.declared.line.Line.{Line}
use Rattle.wire_line.specs.declared.line.Line.TheVariants.{Whole, TooLong, End, Limit, Fault}
use Rattle.wire_line.specs.declared.lines.TheConstants.{CAPACITY}
use Rattle.wire_line.specs.declared.line.TheConstants.{LINE_LIMIT, INPUT_LIMIT}
use Rattle.wire_line.specs.Lines.{HasNoEnd, first_line}
use Rattle.wire_line.specs.Intake.{Intake, GoesPast, within_limit}

-- a part of a buffer, from start to end, that waits; no line ends in what was searched of it
pub record IsPart (buffer : List ℕ) (start searched end taken : ℕ) : Type 0 where
  pub size : length buffer ≡ CAPACITY
  pub from_start : start ≤ searched
  pub to_end : searched ≤ end
  pub inside : end ≤ CAPACITY
  pub counted : end ≤ start + taken
  pub bounded : taken ≤ INPUT_LIMIT + 1
  pub no_end : HasNoEnd (slice_range buffer start searched)

-- the reader holds what it held, and more behind that; `taken` counts what is more
pub record Grows (before after : Intake) : Type 0 where
  pub more : List ℕ
  pub waiting : after.waiting ≡ before.waiting ++ more
  pub count : after.taken ≡ before.taken + length more
  pub passing : after.passing ≡ before.passing

-- what the source gave waits behind what waited
abbrev pub SameAhead : (before after : Intake) → (left left' : List ℕ) → Type 0
SameAhead before after left left' = after.waiting ++ left' ≡ before.waiting ++ left

-- bytes came, all of them within the limit of the input
pub record IsMore (before after : Intake) : Type 0 where
  pub some : before.taken < after.taken
  pub within : after.taken ≤ INPUT_LIMIT

-- why no bytes came that may be searched: none at the end or at a failure, and one behind the limit
abbrev pub IsDry : Stop → (before after : Intake) → Type 0
IsDry stop.Ended before after = after.taken ≡ before.taken
IsDry stop.Limit before after = (before.taken ≡ INPUT_LIMIT) × (after.taken ≡ INPUT_LIMIT + 1)
IsDry stop.Fault before after = after.taken ≡ before.taken

-- a line of this length waits with its line end
pub record IsFound (len : ℕ) (reader : Intake) : Type 0 where
  pub is : len ≡ length (first_line reader.waiting)
  pub ended : len < length reader.waiting
  pub within : reader.taken ≤ INPUT_LIMIT

-- what waits where no line end was found
abbrev pub IsStoppedBy : Stop → Intake → Type 0
IsStoppedBy stop.Ended reader =
    (reader.taken ≤ INPUT_LIMIT) × HasNoEnd reader.waiting × (length reader.waiting ≤ LINE_LIMIT)
IsStoppedBy stop.Limit reader = reader.taken ≡ INPUT_LIMIT + 1
IsStoppedBy stop.Fault reader = reader.taken ≤ INPUT_LIMIT

-- what is ahead where no line end was found
abbrev pub StopsBy : Stop → (before : Intake) → (left left' : List ℕ) → Type 0
StopsBy stop.Ended before left left' = left' ≡ []
StopsBy stop.Limit before left left' = GoesPast (within_limit before) (before.waiting ++ left)
StopsBy stop.Fault before left left' = Unit {0}

-- the answer at the end of the input
abbrev pub IsLastAnswer : Line → Type 0
IsLastAnswer (Whole span) = Unit {0}
IsLastAnswer TooLong = Unit {0}
IsLastAnswer End = Unit {0}
IsLastAnswer Limit = ⊥
IsLastAnswer Fault = ⊥
