-- What a printed name, text or number is read as.
use Rattle.std.specs.Prelude.{◌≡◌, ℕ, ◌+◌, ◌==◌, ◌&&◌, ◌||◌, not, Bool, true, List, [], ◌∷◌, ◌++◌, length, Some, pos}
use Rattle.cypher_syntax.specs.declared.token.What.{What}
use Rattle.cypher_syntax.specs.Bytes.{continues_word, is_long_sign}
use Rattle.cypher_syntax.specs.Lexing.{with_token, lexed_from}
use Rattle.cypher_parse.specs.declared.kind.Kind.{Kind}
use Rattle.cypher_parse.specs.declared.kind.Kind.TheVariants as k
use Rattle.cypher_parse.specs.declared.lexeme.Lexeme.{Lexeme}
use Rattle.cypher_parse.specs.Languages.{is_of}
use Rattle.cypher_parse.specs.Words.{name_of, integer_of, text_of}
use Rattle.cypher_parse.specs.Spelling.{kind_of}
use Rattle.cypher_parse.specs.Texts.{or_name, or_unknown, lexeme_of}

-- behind a word or number: nothing, or what doesn't go on with it
abbrev pub parts_word : List ℕ → Bool
parts_word [] = true
parts_word (b ∷ bytes) = not (continues_word b)

-- behind a name, which may stand between backquotes
abbrev pub parts_name : List ℕ → Bool
parts_name [] = true
parts_name (b ∷ bytes) = not (continues_word b || b == 96)

-- behind a sign of one byte: nothing, or what makes no longer sign and no comment with it
abbrev pub parts_sign : ℕ → List ℕ → Bool
parts_sign a [] = true
parts_sign a (b ∷ bytes) = not (is_long_sign a b || (a == 47 && (b == 47 || b == 42)))

-- In front of these bytes what is printed is one token, whose place and spelling make it such a token of the grammar, and
-- the tokens behind it are theirs.
abbrev pub IsReadAs : (Lexeme → Type 0) → List ℕ → List ℕ → Type 0
IsReadAs IsSuch printed behind =
    (w : What)
    × ((at : ℕ) → lexed_from at 0 (printed ++ behind) ≡ with_token (record { what = w; from = at; to = at + length printed }) (lexed_from (at + length printed) 0 behind))
    × ((place : ℕ) → IsSuch (lexeme_of w printed place))

-- one of these kinds, with this name
abbrev pub IsNamed : List Kind → List ℕ → Lexeme → Type 0
IsNamed kinds name t = (is_of kinds t ≡ true) × (name_of t ≡ Some name)

abbrev pub IsText : List ℕ → Lexeme → Type 0
IsText text t = (t.kind ≡ k.Quote) × (text_of t ≡ Some text)

abbrev pub IsNumber : ℕ → Lexeme → Type 0
IsNumber n t = (t.kind ≡ k.Integer) × (integer_of t ≡ Some (pos n))

-- the magnitude of the least integer
abbrev pub IsLeast : Lexeme → Type 0
IsLeast t = t.kind ≡ k.LeastMagnitude

-- a keyword, or a name
abbrev pub IsWordOf : List ℕ → Lexeme → Type 0
IsWordOf word t = (t.kind ≡ or_name (kind_of word)) × (name_of t ≡ Some word)

abbrev pub IsSignOf : List ℕ → Lexeme → Type 0
IsSignOf sign t = t.kind ≡ or_unknown (kind_of sign)
