-- From a text to its tokens as the grammar sees them.
use Rattle.std.specs.Prelude.{ℕ, ◌<◌, ◌≤◌, List, [], ◌∷◌, ◌++◌, length, map, slice_range, Option, Some, None}
use Rattle.cypher_syntax.specs.declared.token.Token.{Token}
use Rattle.cypher_syntax.specs.declared.token.What.{What}
use Rattle.cypher_syntax.specs.declared.token.What.TheVariants as what
use Rattle.cypher_syntax.specs.Lexing.{Lexed, lexed}
use Rattle.cypher_syntax.specs.Spans.{IsSpelling}
use Rattle.cypher_parse.specs.declared.kind.Kind.{Kind}
use Rattle.cypher_parse.specs.declared.kind.Kind.TheVariants as k
use Rattle.cypher_parse.specs.declared.lexeme.Lexeme.{Lexeme}
use Rattle.cypher_parse.specs.declared.lexeme.Payload.TheVariants as payload
use Rattle.cypher_parse.specs.Languages.{Tokens}
use Rattle.cypher_parse.specs.Spelling.{kind_of}

-- a word that has no kind of its own is a name
abbrev pub or_name : Option Kind → Kind
or_name None = k.Name
or_name (Some kind) = kind

abbrev pub or_unknown : Option Kind → Kind
or_unknown None = k.Unknown
or_unknown (Some kind) = kind

-- a token that is spelled so, at a place
abbrev pub lexeme_of : What → List ℕ → ℕ → Lexeme
lexeme_of what.Word bytes place = record { kind = or_name (kind_of bytes); payload = payload.Name bytes; place = place }
lexeme_of (what.Quoted name) bytes place = record { kind = k.Name; payload = payload.Name name; place = place }
lexeme_of (what.Int n) bytes place = record { kind = k.Integer; payload = payload.Integer n; place = place }
lexeme_of what.IntMin bytes place = record { kind = k.LeastMagnitude; payload = payload.Bare; place = place }
lexeme_of (what.Text text) bytes place = record { kind = k.Quote; payload = payload.Text text; place = place }
lexeme_of what.Sign bytes place = record { kind = or_unknown (kind_of bytes); payload = payload.Bare; place = place }

abbrev pub lexeme : List ℕ → Token → Lexeme
lexeme text t = lexeme_of t.what (slice_range text t.from t.to) t.from

-- what begins no token, if there is such a place
abbrev pub unknown_at : Option ℕ → Tokens
unknown_at None = []
unknown_at (Some place) = record { kind = k.Unknown; payload = payload.Bare; place = place } ∷ []

abbrev pub lexemes_in : List ℕ → Lexed → Tokens
lexemes_in text found = map (lexeme text) found.tokens ++ unknown_at found.fault

-- The tokens of a text. Where something stands in it that begins no token, white space or comment, it is the last of them.
unfoldable pub lexemes : List ℕ → Tokens
lexemes text = lexemes_in text (lexed text)

-- ---- spans

-- the token's slice is a part of the text, and is how such a token is written
abbrev pub IsSpan : List ℕ → Token → Type 0
IsSpan text t = (t.from < t.to) × (t.to ≤ length text) × IsSpelling t.what (slice_range text t.from t.to)

abbrev pub AreSpans : List ℕ → List Token → Type 0
AreSpans text [] = Unit {0}
AreSpans text (t ∷ ts) = IsSpan text t × AreSpans text ts
