-- The sessions of a script in the order in which they appeared first. A session's number is its place, and is its caller.
use Rattle.std.specs.Prelude.{ℕ, zero, suc, List, [], ◌∷◌, Option, None, if◌then◌else◌}
use Rattle.std.specs.Str.{bytes_eq}

-- a name, and the start of the session's open transaction
abbrev pub Entry : Type 0
Entry = List ℕ × Option ℕ

abbrev pub Roll : Type 0
Roll = List Entry

-- the number of a session; where it hasn't appeared yet the next one
abbrev pub number_of : List ℕ → Roll → ℕ
number_of name [] = zero
number_of name (e ∷ roll) = if bytes_eq name e.0 then zero else suc (number_of name roll)

-- the start of its open transaction; a session that hasn't appeared yet has none
abbrev pub running_of : List ℕ → Roll → Option ℕ
running_of name [] = None
running_of name (e ∷ roll) = if bytes_eq name e.0 then e.1 else running_of name roll

-- the session's transaction is this one now
abbrev pub with_running : List ℕ → Option ℕ → Roll → Roll
with_running name running [] = (name, running) ∷ []
with_running name running (e ∷ roll) =
    if bytes_eq name e.0 then ((e.0, running) ∷ roll) else e ∷ with_running name running roll

-- the start of the open transaction of the session with this number; there is none where no session has it
abbrev pub running_at : ℕ → Roll → Option ℕ
running_at n [] = None
running_at zero (e ∷ roll) = e.1
running_at (suc n) (e ∷ roll) = running_at n roll

-- the sessions, with one more where this one hasn't appeared yet
abbrev pub enrolled : List ℕ → Roll → Roll
enrolled name roll = with_running name (running_of name roll) roll

-- the transaction of the session with this number is this one now
abbrev pub with_running_at : ℕ → Option ℕ → Roll → Roll
with_running_at n running [] = []
with_running_at zero running (e ∷ roll) = (e.0, running) ∷ roll
with_running_at (suc n) running (e ∷ roll) = e ∷ with_running_at n running roll
