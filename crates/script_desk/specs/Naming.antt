-- The name of a session in front of a statement, and in front of each line of a reply.
use Rattle.std.specs.Prelude.{ℕ, ◌==◌, List, [], ◌∷◌, ◌++◌, Bool, false, ◌&&◌, ◌||◌, nat_lt, codes, length, Option, Some, None, if◌then◌else◌}
use Rattle.std.specs.List.{after_first, before_first, flat_map, list_all, position_or_len}
use Rattle.std.specs.Char.{is_ascii_digit, is_ascii_lowercase}
use Rattle.wire_line.specs.Lines.{lines_of}

abbrev pub is_colon : ℕ → Bool
is_colon b = b == 58

-- a letter from a to z, a digit or an underscore
abbrev pub is_name_byte : ℕ → Bool
is_name_byte b = is_ascii_lowercase b || is_ascii_digit b || (b == 95)

-- at most 15 of these bytes
abbrev pub is_name_rest : List ℕ → Bool
is_name_rest bytes = nat_lt (length bytes) 16 && list_all is_name_byte bytes

-- a letter from a to z, and the rest of a name
abbrev pub is_name : List ℕ → Bool
is_name [] = false
is_name (b ∷ bytes) = is_ascii_lowercase b && is_name_rest bytes

-- the name in front of the first colon, and the statement behind it
abbrev pub named : List ℕ → Option (List ℕ × List ℕ)
named line =
    if nat_lt (position_or_len is_colon line) (length line) && is_name (before_first is_colon line)
    then Some (before_first is_colon line, after_first is_colon line)
    else None

-- a line of a reply behind the name
abbrev pub prefixed : List ℕ → List ℕ → List ℕ
prefixed name line = (name ++ codes ": ") ++ (line ++ codes "\n")

-- each line of a reply behind the name
abbrev pub reply_lines : List ℕ → List ℕ → List ℕ
reply_lines name text = flat_map (prefixed name) (lines_of text)

-- the name of lines that are no session's
abbrev pub nobody : List ℕ
nobody = codes "-"
