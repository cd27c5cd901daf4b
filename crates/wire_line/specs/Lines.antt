-- The lines of some bytes. A line ends with a line end, byte 10; the last may lack it.
use Rattle.std.specs.Prelude.{◌≡◌, ℕ, List, [], ◌∷◌, ◌==◌, if◌then◌else◌}

-- what stands before the first line end: all of the bytes where there is none
abbrev pub first_line : List ℕ → List ℕ
first_line [] = []
first_line (b ∷ bytes) = if b == 10 then [] else (b ∷ first_line bytes)

-- what stands behind the first line end: nothing where there is none
abbrev pub after_line : List ℕ → List ℕ
after_line [] = []
after_line (b ∷ bytes) = if b == 10 then bytes else after_line bytes

-- no line ends among these bytes
abbrev pub HasNoEnd : List ℕ → Type 0
HasNoEnd bytes = first_line bytes ≡ bytes

-- a byte in front of the first of some lines
abbrev pub in_first : ℕ → List (List ℕ) → List (List ℕ)
in_first b [] = (b ∷ []) ∷ []
in_first b (line ∷ lines) = (b ∷ line) ∷ lines

-- The pieces that line ends end. An empty rest behind the last line end is no line.
abbrev pub lines_of : List ℕ → List (List ℕ)
lines_of [] = []
lines_of (b ∷ bytes) = if b == 10 then ([] ∷ lines_of bytes) else in_first b (lines_of bytes)

-- a byte in front of the first of some lines that end; where none does, it belongs to none
abbrev pub in_ended : ℕ → List (List ℕ) → List (List ℕ)
in_ended b [] = []
in_ended b (line ∷ lines) = (b ∷ line) ∷ lines

-- The pieces that line ends end, without what stands behind the last line end.
abbrev pub ended_lines : List ℕ → List (List ℕ)
ended_lines [] = []
ended_lines (b ∷ bytes) = if b == 10 then ([] ∷ ended_lines bytes) else in_ended b (ended_lines bytes)

-- the line without one carriage return, byte 13, at its end
abbrev pub without_return : List ℕ → List ℕ
without_return [] = []
without_return (b ∷ []) = if b == 13 then [] else (b ∷ [])
without_return (b ∷ c ∷ line) = b ∷ without_return (c ∷ line)
