-- What a function that parses answers: the parser's outcome, unless memory fails.
use Rattle.std.specs.Prelude.{◌≡◌, true, false, List, Result, Ok, Err}
use Rattle.cypher_parse.specs.declared.kind.Kind.{Kind}
use Rattle.cypher_parse.specs.declared.lexeme.Lexeme.{Lexeme}
use Rattle.cypher_parse.specs.declared.stop.Stop.{Stop}
use Rattle.cypher_parse.specs.declared.stop.Stop.TheVariants.{NoMemory, Syntax, TooDeep}
use Rattle.cypher_parse.specs.Languages.{Tokens}
use Rattle.cypher_parse.specs.Parsers.{Outcome, Done, Fault, one}

abbrev pub Stopped : {A : Type 0} → Outcome A → Stop → Tokens → Type 0
Stopped outcome NoMemory new = Unit {0}
Stopped outcome Syntax new = outcome ≡ Fault false new
Stopped outcome TooDeep new = outcome ≡ Fault true new

abbrev pub Reads : {A : Type 0} → Outcome A → Result A Stop → Tokens → Type 0
Reads outcome (Ok a) new = outcome ≡ Done a new
Reads outcome (Err e) new = Stopped outcome e new

-- what is made of what was read, unless memory fails
abbrev pub Made : {A B : Type 0} → (A → B) → Result A Stop → Result B Stop → Type 0
Made f (Ok a) (Ok b) = b ≡ f a
Made f (Ok a) (Err e) = e ≡ NoMemory
Made f (Err e) (Ok b) = ⊥
Made f (Err e) (Err e') = e' ≡ e

-- a token of these kinds was passed, and else the next token is a fault
abbrev pub Passed : List Kind → Tokens → Result (Unit {0}) Stop → Tokens → Type 0
Passed kinds old (Ok u) new = (t : Lexeme) × (one kinds old ≡ Done t new)
Passed kinds old (Err e) new = (e ≡ Syntax) × (one kinds old ≡ Fault false new)
