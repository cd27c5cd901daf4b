-- The tokens of a text.
use Rattle.std.specs.Prelude.{ℕ, zero, suc, ◌+◌, ◌-◌, ◌==◌, ◌&&◌, List, [], ◌∷◌, ◌++◌, take, drop, if◌then◌else◌, Option, Some, None, option_and_then}
use Rattle.std.specs.List.{prefix_len}
use Rattle.std.specs.Char.{is_ascii_digit}
use Rattle.cypher_syntax.specs.declared.token.Token.{Token}
use Rattle.cypher_syntax.specs.declared.token.What.{What}
use Rattle.cypher_syntax.specs.declared.token.What.TheVariants as what
use Rattle.cypher_syntax.specs.declared.lexer.front.Front.{Front}
use Rattle.cypher_syntax.specs.declared.lexer.front.Front.TheVariants.{Gap, Made, Fault}
use Rattle.cypher_syntax.specs.Bytes.{is_blank, begins_word, continues_word, is_quote, heads, sign_len, within_line, closed_len}
use Rattle.cypher_syntax.specs.Numerals.{numeral_of, integer_of}
use Rattle.cypher_syntax.specs.Quotes.{Ended, inside}

-- a token of so many bytes, if there is one
abbrev pub made : Option What → ℕ → Front
made None n = Fault
made (Some w) n = Made w n

-- An integer takes all letters, digits and `_` that follow.
abbrev pub number_front : List ℕ → Front
number_front bytes =
    let n = prefix_len continues_word bytes in
    made (option_and_then integer_of (numeral_of (take n bytes))) n

-- A name isn't empty.
abbrev pub name_front : Ended → Front
name_front None = Fault
name_front (Some ([], n)) = Fault
name_front (Some (b ∷ text, n)) = Made (what.Quoted (b ∷ text)) (n + 1)

abbrev pub text_front : Ended → Front
text_front None = Fault
text_front (Some (text, n)) = Made (what.Text text) (n + 1)

-- a quote, and what stands behind it
abbrev pub quote_front : ℕ → List ℕ → Front
quote_front quote bytes = if quote == 96 then name_front (inside 96 0 bytes) else text_front (inside quote 0 bytes)

-- a comment between `/*` and `*/`, by what stands behind the `/*`
abbrev pub closed_front : Option ℕ → Front
closed_front None = Fault
closed_front (Some n) = Gap (n + 2)

abbrev pub sign_front : ℕ → Front
sign_front zero = Fault
sign_front (suc n) = Made what.Sign (suc n)

-- a comment or a sign
abbrev pub slash_front : List ℕ → Front
slash_front [] = Fault
slash_front (b ∷ bytes) =
    if b == 47 && heads 47 bytes then Gap (prefix_len within_line (b ∷ bytes))
    else if b == 47 && heads 42 bytes then closed_front (closed_len (drop 1 bytes))
    else sign_front (sign_len (b ∷ bytes))

-- white space or a comment, or a token that begins with no quote
unfoldable pub unquoted_front : List ℕ → Front
unquoted_front [] = Fault
unquoted_front (b ∷ bytes) =
    if is_blank b then Gap (prefix_len is_blank (b ∷ bytes))
    else if begins_word b then Made what.Word (prefix_len continues_word (b ∷ bytes))
    else if is_ascii_digit b then number_front (b ∷ bytes)
    else slash_front (b ∷ bytes)

-- What stands at the front of a text: white space or a comment, a token, or neither.
unfoldable pub front_of : List ℕ → Front
front_of [] = Fault
front_of (b ∷ bytes) = if is_quote b then quote_front b bytes else unquoted_front (b ∷ bytes)

-- tokens, and the place behind them where no token stands, if there is one
pub record Lexed : Type 0 where
  pub tokens : List Token
  pub fault : Option ℕ

abbrev pub with_token : Token → Lexed → Lexed
with_token t rest = record { tokens = t ∷ rest.tokens; fault = rest.fault }

-- with these tokens in front
abbrev pub after_tokens : List Token → Lexed → Lexed
after_tokens front rest = record { tokens = front ++ rest.tokens; fault = rest.fault }

abbrev pub after_front : ℕ → Front → (ℕ → Lexed) → Lexed
after_front at (Gap n) rest = rest (n - 1)
after_front at (Made w n) rest = with_token (record { what = w; from = at; to = at + n }) (rest (n - 1))
after_front at Fault rest = record { tokens = []; fault = Some at }

-- The tokens of bytes that stand at a place. So many bytes at the front belong to what stands in front of them.
unfoldable pub lexed_from : ℕ → ℕ → List ℕ → Lexed
lexed_from at skip [] = record { tokens = []; fault = None }
lexed_from at (suc skip) (b ∷ bytes) = lexed_from (at + 1) skip bytes
lexed_from at zero (b ∷ bytes) = after_front at (front_of (b ∷ bytes)) (λ skip. lexed_from (at + 1) skip bytes)

abbrev pub lexed : List ℕ → Lexed
lexed text = lexed_from 0 0 text
