-- Texts that were worked out by hand, computed as bytes: their tokens, and where they stand.
use Rattle.std.proofs.Common.{◌≡◌, ℕ, pos, [], ◌∷◌, refl}
use Rattle.std.specs.Prelude.{codes}
use Rattle.cypher_syntax.specs.Quotes.{inside}
use Rattle.cypher_syntax.specs.Lexing.{unquoted_front, front_of, lexed_from}
use Rattle.cypher_parse.specs.declared.kind.Kind.{Kind}
use Rattle.cypher_parse.specs.declared.kind.Kind.TheVariants as k
use Rattle.cypher_parse.specs.declared.lexeme.Lexeme.{Lexeme}
use Rattle.cypher_parse.specs.declared.lexeme.Payload.{Payload}
use Rattle.cypher_parse.specs.declared.lexeme.Payload.TheVariants as payload
use Rattle.cypher_parse.specs.Spelling.{kind_of}
use Rattle.cypher_parse.specs.Texts.{lexemes}

abbrev at : ℕ → Kind → Payload → Lexeme
at place kind carried = record { kind = kind; payload = carried; place = place }

-- words and signs in any case, and names with theirs
words : lexemes (codes "ReTurn Abc.<=..") ≡ at 0 k.Return (payload.Name (codes "ReTurn")) ∷ at 7 k.Name (payload.Name (codes "Abc")) ∷ at 10 k.Point payload.Bare ∷ at 11 k.LessOrEqual payload.Bare ∷ at 13 k.TwoPoints payload.Bare ∷ []
unfolding lexemes kind_of lexed_from front_of unquoted_front
words = refl

-- a quoted keyword is a name, and keywords and names of functions are their own
quoted : lexemes (codes "`as` as COUNT") ≡ at 0 k.Name (payload.Name (codes "as")) ∷ at 5 k.As (payload.Name (codes "as")) ∷ at 8 k.CountWord (payload.Name (codes "COUNT")) ∷ []
unfolding lexemes kind_of lexed_from front_of unquoted_front inside
quoted = refl

-- numbers and texts
values : lexemes (codes "0x1f'a''b' 9223372036854775808 7") ≡ at 0 k.Integer (payload.Integer (pos 31)) ∷ at 4 k.Quote (payload.Text (codes "a")) ∷ at 7 k.Quote (payload.Text (codes "b")) ∷ at 11 k.LeastMagnitude payload.Bare ∷ at 31 k.Integer (payload.Integer (pos 7)) ∷ []
unfolding lexemes kind_of lexed_from front_of unquoted_front inside
values = refl

-- what begins no token is the last, and nothing behind it is read
fault : lexemes (codes "/**/ a 01 b") ≡ at 5 k.Name (payload.Name (codes "a")) ∷ at 7 k.Unknown payload.Bare ∷ []
unfolding lexemes kind_of lexed_from front_of unquoted_front inside
fault = refl

-- white space and comments alone
gaps : lexemes (codes "/* a */ // b") ≡ []
unfolding lexemes kind_of lexed_from front_of unquoted_front inside
gaps = refl
