-- What stands between quotes: names between backquotes, strings between single or double ones.
use Rattle.std.specs.Prelude.{ℕ, zero, suc, ◌+◌, ◌-◌, ◌==◌, Bool, ◌&&◌, ◌||◌, not, List, [], ◌∷◌, ◌++◌, length, take, if◌then◌else◌, Option, Some, None, nat_lt}
use Rattle.std.specs.List.{list_all}
use Rattle.std.specs.Char.{is_ascii_hexdigit, encode_utf8}
use Rattle.cypher_syntax.specs.declared.lexer.quotes.Part.{Part}
use Rattle.cypher_syntax.specs.declared.lexer.quotes.Part.TheVariants.{Closes, Char, Broken}
use Rattle.cypher_syntax.specs.Bytes.{heads}
use Rattle.cypher_syntax.specs.Numerals.{value_in}

-- a byte that stands for itself: in a name all but a backquote, in a string all but its quote and a backslash
abbrev pub is_plain : ℕ → ℕ → Bool
is_plain quote b = not (b == quote || (b == 92 && not (quote == 96)))

-- a number that is a character
abbrev pub is_scalar : ℕ → Bool
is_scalar n = nat_lt n 0xD800 || (nat_lt 0xDFFF n && nat_lt n 0x11_0000)

-- a character by so many hexadecimal digits, which stand behind `\u` or `\U`
abbrev pub scalar_of : ℕ → List ℕ → Part
scalar_of count bytes =
    if length (take count bytes) == count && list_all is_ascii_hexdigit (take count bytes) && is_scalar (value_in 16 (take count bytes))
    then Char (value_in 16 (take count bytes)) (count + 2)
    else Broken

-- a character by a letter or a sign behind a backslash
abbrev pub simple_of : ℕ → Part
simple_of b =
    if b == 92 then Char 92 2
    else if b == 39 then Char 39 2
    else if b == 34 then Char 34 2
    else if b == 98 then Char 8 2
    else if b == 102 then Char 12 2
    else if b == 110 then Char 10 2
    else if b == 114 then Char 13 2
    else if b == 116 then Char 9 2
    else Broken

-- what an escape stands for, by what stands behind its backslash
abbrev pub escape_of : List ℕ → Part
escape_of [] = Broken
escape_of (b ∷ bytes) = if b == 117 then scalar_of 4 bytes else if b == 85 then scalar_of 8 bytes else simple_of b

-- Its own quote ends it, but a doubled backquote is one.
abbrev pub quote_of : ℕ → List ℕ → Part
quote_of quote bytes = if quote == 96 && heads 96 bytes then Char 96 2 else Closes

-- what stands at the front between quotes, where it doesn't stand for itself
abbrev pub part_of : ℕ → List ℕ → Part
part_of quote [] = Broken
part_of quote (b ∷ bytes) = if b == quote then quote_of quote bytes else escape_of bytes

-- a text, and how many bytes it takes with the quote that ends it
abbrev pub Ended : Type 0
Ended = Option (List ℕ × ℕ)

-- a text with more in front of it, which took so many bytes
abbrev pub further : List ℕ → ℕ → Ended → Ended
further front k None = None
further front k (Some (text, n)) = Some (front ++ text, n + k)

abbrev pub with_part : Part → (ℕ → Ended) → Ended
with_part Closes rest = Some ([], 1)
with_part (Char c n) rest = further (encode_utf8 c) 1 (rest (n - 1))
with_part Broken rest = None

-- What the bytes up to the quote stand for. So many bytes at the front belong to a part in front of them.
unfoldable pub inside : ℕ → ℕ → List ℕ → Ended
inside quote skip [] = None
inside quote (suc skip) (b ∷ bytes) = further [] 1 (inside quote skip bytes)
inside quote zero (b ∷ bytes) =
    if is_plain quote b then further (b ∷ []) 1 (inside quote zero bytes)
    else with_part (part_of quote (b ∷ bytes)) (λ skip. inside quote skip bytes)
