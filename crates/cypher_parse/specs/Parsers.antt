-- Parsers of the sentences of languages.
use Rattle.std.specs.Prelude.{ℕ, zero, suc, Bool, true, false, if◌then◌else◌, List, [], ◌∷◌, length, Option, Some, None}
use Rattle.cypher_parse.specs.declared.kind.Kind.{Kind}
use Rattle.cypher_parse.specs.declared.kind.Kind.TheVariants as k
use Rattle.cypher_parse.specs.declared.lexeme.Lexeme.{Lexeme}
use Rattle.cypher_parse.specs.Languages.{Tokens, is_of}

pub data Outcome (A : Type 0) : Type 0 where
  -- a sentence was read, and this is left
  Done : (a : A) (rest : Tokens) → Outcome A
  -- no sentence goes on with the first token of what is left; is it because of the depth?
  Fault : (is_deep : Bool) (rest : Tokens) → Outcome A

abbrev pub Parser : Type 0 → Type 0
Parser A = Tokens → Outcome A

abbrev pub and_then : {A B : Type 0} → Outcome A → (A → Parser B) → Outcome B
and_then (Done a rest) f = f a rest
and_then (Fault k rest) f = Fault k rest

abbrev pub head : Tokens → Option Lexeme
head [] = None
head (t ∷ ts) = Some t

abbrev pub some_of : List Kind → Option Lexeme → Bool
some_of kinds None = false
some_of kinds (Some t) = is_of kinds t

-- whether a token of these kinds comes next
abbrev pub heads : List Kind → Tokens → Bool
heads kinds ts = some_of kinds (head ts)

abbrev pub one : List Kind → Parser Lexeme
one kinds [] = Fault false []
one kinds (t ∷ ts) = if is_of kinds t then Done t ts else Fault false (t ∷ ts)

-- the value, or a fault at its token
abbrev pub carried : {A : Type 0} → Option A → Lexeme → Parser A
carried None t ts = Fault false (t ∷ ts)
carried (Some a) t ts = Done a ts

abbrev pub valued : {A : Type 0} → List Kind → (Lexeme → Option A) → Parser A
valued kinds of [] = Fault false []
valued kinds of (t ∷ ts) = if is_of kinds t then carried (of t) t ts else Fault false (t ∷ ts)

abbrev pub seq : {A B : Type 0} → Parser A → Parser B → Parser (A × B)
seq p q ts = and_then (p ts) (λ a rest. and_then (q rest) (λ b rest. Done (a, b) rest))

abbrev pub bind : {A B : Type 0} → Parser A → (A → Parser B) → Parser B
bind p q ts = and_then (p ts) q

abbrev pub map_out : {A B : Type 0} → (A → B) → Parser A → Parser B
map_out f p ts = and_then (p ts) (λ a rest. Done (f a) rest)

abbrev pub after : {A : Type 0} → List Kind → Parser A → Parser A
after kinds p = map_out (λ p. p.1) (seq (one kinds) p)

abbrev pub before : {A : Type 0} → Parser A → List Kind → Parser A
before p kinds = map_out (λ p. p.0) (seq p (one kinds))

abbrev pub empty : {A : Type 0} → A → Parser A
empty none ts = Done none ts

abbrev pub alt : {A : Type 0} → List Kind → Parser A → Parser A → Parser A
alt first p q ts = if heads first ts then p ts else q ts

abbrev pub opt : {A : Type 0} → List Kind → A → Parser A → Parser A
opt first none p = alt first p (empty none)

-- nothing where a token of these kinds comes next, and else a sentence
abbrev pub unless : {A : Type 0} → List Kind → A → Parser A → Parser A
unless kinds none p = alt kinds (empty none) p

-- The number bounds the turns, and each turn takes a token.
abbrev pub many_in : {A : Type 0} → ℕ → List Kind → Parser A → Parser (List A)
many_in zero first p ts = if heads first ts then Fault false ts else Done [] ts
many_in (suc n) first p ts =
    if heads first ts then and_then (p ts) (λ a rest. and_then (many_in n first p rest) (λ items rest. Done (a ∷ items) rest)) else Done [] ts

abbrev pub many : {A : Type 0} → List Kind → Parser A → Parser (List A)
many first p ts = many_in (length ts) first p ts

abbrev pub chain : {A B : Type 0} → Parser A → List Kind → Parser B → Parser (A × List B)
chain p first q = seq p (many first q)

abbrev pub some1 : {A : Type 0} → List Kind → Parser A → Parser (List A)
some1 first p = map_out (λ p. p.0 ∷ p.1) (chain p first p)

abbrev pub listed : {A : Type 0} → List Kind → Parser A → Parser (List A)
listed kinds p = map_out (λ p. p.0 ∷ p.1) (chain p kinds (after kinds p))

-- one or more, with a comma between any two
abbrev pub between_commas : {A : Type 0} → Parser A → Parser (List A)
between_commas p = listed (k.Comma ∷ []) p

-- any number, each behind a comma
abbrev pub behind_commas : {A : Type 0} → Parser A → Parser (List A)
behind_commas p = many (k.Comma ∷ []) (after (k.Comma ∷ []) p)

abbrev pub enter : {A B : Type 0} → Bool → List Kind → (A → B) → Parser A → Parser B
enter false opening f p ts = Fault true ts
enter true opening f p ts = map_out f (after opening p) ts
