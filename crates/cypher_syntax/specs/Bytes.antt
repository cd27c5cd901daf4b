-- Which bytes make blanks, comments, words and signs.
use Rattle.std.specs.Prelude.{ℕ, suc, ◌==◌, Bool, false, ◌&&◌, ◌||◌, not, List, [], ◌∷◌, if◌then◌else◌, codes, Option, Some, None, option_map}
use Rattle.std.specs.List.{list_any}
use Rattle.std.specs.Char.{is_ascii_alphabetic, is_ascii_alphanumeric}

-- a space, a tab, a carriage return or a line end
abbrev pub is_blank : ℕ → Bool
is_blank b = b == 32 || b == 9 || b == 13 || b == 10

-- a letter or `_`
abbrev pub begins_word : ℕ → Bool
begins_word b = is_ascii_alphabetic b || b == 95

-- a letter, a digit or `_`
abbrev pub continues_word : ℕ → Bool
continues_word b = is_ascii_alphanumeric b || b == 95

-- a single quote, a double quote or a backquote
abbrev pub is_quote : ℕ → Bool
is_quote b = b == 39 || b == 34 || b == 96

-- whether the first byte is this one
abbrev pub heads : ℕ → List ℕ → Bool
heads b [] = false
heads b (c ∷ bs) = c == b

-- SIGNS

-- the signs of one byte
abbrev pub short_signs : List ℕ
short_signs = codes "()[]{},;:.|+-*/%=<>"

abbrev pub is_sign : ℕ → Bool
is_sign b = list_any (λ s. b == s) short_signs

-- `<>`, `<=`, `>=` and `..`
abbrev pub is_long_sign : ℕ → ℕ → Bool
is_long_sign a b = (a == 60 && b == 62) || (a == 60 && b == 61) || (a == 62 && b == 61) || (a == 46 && b == 46)

-- how many bytes the longest sign that stands here has: 0 where none does
abbrev pub sign_len : List ℕ → ℕ
sign_len [] = 0
sign_len (a ∷ []) = if is_sign a then 1 else 0
sign_len (a ∷ b ∷ bs) = if is_long_sign a b then 2 else if is_sign a then 1 else 0

-- COMMENTS

-- all but a line end
abbrev pub within_line : ℕ → Bool
within_line b = not (b == 10)

-- how many bytes there are up to the first `*/`, with it
abbrev pub closed_len : List ℕ → Option ℕ
closed_len [] = None
closed_len (b ∷ bs) = if b == 42 && heads 47 bs then Some 2 else option_map suc (closed_len bs)
