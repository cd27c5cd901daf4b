-- Integers: how they are spelled, and which are in range.
use Rattle.std.specs.Prelude.{ℕ, ◌+◌, ◌-◌, ◌*◌, ◌^◌, ◌==◌, nat_lt, Bool, false, ◌&&◌, not, List, [], ◌∷◌, drop, fold, if◌then◌else◌, Option, Some, None, pos}
use Rattle.std.specs.List.{list_all}
use Rattle.std.specs.Char.{is_ascii_digit, is_ascii_hexdigit}
use Rattle.cypher_syntax.specs.declared.token.What.{What}
use Rattle.cypher_syntax.specs.declared.token.What.TheVariants.{Int, IntMin}

-- what a digit stands for, a hexadecimal one too
abbrev pub digit_of : ℕ → ℕ
digit_of b = if nat_lt b 58 then b - 48 else if nat_lt b 71 then b - 55 else b - 87

-- the number that digits stand for in a base, from the left
abbrev pub value_in : ℕ → List ℕ → ℕ
value_in base digits = fold (λ n b. n * base + digit_of b) 0 digits

-- digits, and no zero in front of others
abbrev pub is_decimal : List ℕ → Bool
is_decimal [] = false
is_decimal (c ∷ []) = is_ascii_digit c
is_decimal (c ∷ d ∷ digits) = not (c == 48) && list_all is_ascii_digit (c ∷ d ∷ digits)

-- `0x`, and at least one hexadecimal digit
abbrev pub is_hexadecimal : List ℕ → Bool
is_hexadecimal [] = false
is_hexadecimal (c ∷ []) = false
is_hexadecimal (c ∷ d ∷ []) = false
is_hexadecimal (c ∷ d ∷ e ∷ digits) = c == 48 && d == 120 && list_all is_ascii_hexdigit (e ∷ digits)

-- the number that is spelled so
abbrev pub numeral_of : List ℕ → Option ℕ
numeral_of word =
    if is_hexadecimal word then Some (value_in 16 (drop 2 word))
    else if is_decimal word then Some (value_in 10 word)
    else None

-- the token of a number: 2 ^ 63 is one of its own, and none is greater
abbrev pub integer_of : ℕ → Option What
integer_of n = if nat_lt n (2 ^ 63) then Some (Int (pos n)) else if n == 2 ^ 63 then Some IntMin else None
