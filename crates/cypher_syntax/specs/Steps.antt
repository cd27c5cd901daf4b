-- What the reader of tokens does at a place, and what its answer says of the text.
use Rattle.std.specs.Prelude.{◌≡◌, ℕ, ◌+◌, List, [], ◌∷◌, ◌++◌, Option, Some, None}
use Rattle.cypher_syntax.specs.declared.token.Token.{Token}
use Rattle.cypher_syntax.specs.declared.token.TokenRefused.{TokenRefused}
use Rattle.cypher_syntax.specs.declared.token.TokenRefused.TheVariants.{Place, NoMemory}
use Rattle.cypher_syntax.specs.declared.lexer.front.Front.{Front}
use Rattle.cypher_syntax.specs.declared.lexer.front.Front.TheVariants.{Gap, Made, Fault}
use Rattle.cypher_syntax.specs.Lexing.{lexed}

-- What stands at a place is passed: so many bytes, and behind the tokens it stands itself if it is one.
abbrev pub Stepped : ℕ → Front → (old new : List Token) → Option ℕ → Type 0
Stepped at (Gap n) old new passed = (passed ≡ Some n) × (new ≡ old)
Stepped at (Made w n) old new passed = (passed ≡ Some n) × (new ≡ old ++ record { what = w; from = at; to = at + n } ∷ [])
Stepped at Fault old new passed = (passed ≡ None) × (new ≡ old)

-- these are all the tokens of a text without a fault
abbrev pub IsWhole : List ℕ → List Token → Type 0
IsWhole text tokens = lexed text ≡ record { tokens = tokens; fault = None }

-- the first fault of a text, and the tokens before it
abbrev pub IsRefusal : List ℕ → TokenRefused → Type 0
IsRefusal text (Place place before) = lexed text ≡ record { tokens = before; fault = Some place }
IsRefusal text NoMemory = Unit {0}
