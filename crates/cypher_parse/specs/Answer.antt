-- What a parser has to answer, in the words of the grammar. A rule is given at each number of tokens that may be open at once.
use Rattle.std.specs.Prelude.{◌≡◌, ℕ, [], ◌∷◌, ◌++◌, Result, Ok, Err}
use Rattle.cypher_parse.specs.declared.error.ParseRefused.{ParseRefused}
use Rattle.cypher_parse.specs.declared.error.ParseRefused.TheVariants.{NoMemory, Syntax, TooDeep}
use Rattle.cypher_parse.specs.declared.lexeme.Lexeme.{Lexeme}
use Rattle.cypher_parse.specs.declared.stop.Stop.{Stop}
use Rattle.cypher_parse.specs.declared.stop.Stop.TheVariants as stop
use Rattle.cypher_parse.specs.Languages.{Tokens, Lang}

-- some sentence begins with these tokens
abbrev pub Begins : {A : Type 0} → Lang A → Tokens → Type 0
Begins {A} L front = (s : Tokens) × (a : A) × L (front ++ s) a

-- a sentence, however deep
abbrev pub Deep : {A : Type 0} → (ℕ → Lang A) → Lang A
Deep L ts a = (n : ℕ) × L n ts a

-- where the next token stands, or the text's end
abbrev pub place_of : ℕ → Tokens → ℕ
place_of end [] = end
place_of end (t ∷ ts) = t.place

-- The tokens up to the next begin no sentence. Where there is no next one, they are none.
abbrev pub EndsAt : {A : Type 0} → Lang A → Tokens → Tokens → Type 0
EndsAt {A} L front [] = (a : A) → L front a → ⊥
EndsAt L front (t ∷ back) = Begins L (front ++ t ∷ []) → ⊥

-- the first place that no sentence goes on with
abbrev pub IsSyntax : {A : Type 0} → (ℕ → Lang A) → ℕ → Tokens → ℕ → Type 0
IsSyntax L end ts place = (front : Tokens) × (rest : Tokens) × (ts ≡ front ++ rest) × (place_of end rest ≡ place) × Begins (L 64) front × EndsAt (Deep L) front rest

-- the first place where more than 64 tokens are open
abbrev pub IsTooDeep : {A : Type 0} → (ℕ → Lang A) → Tokens → ℕ → Type 0
IsTooDeep L ts place = (front : Tokens) × (t : Lexeme) × (back : Tokens) × (ts ≡ front ++ t ∷ back) × (t.place ≡ place) × Begins (L 64) front × Begins (L 65) (front ++ t ∷ []) × (Begins (L 64) (front ++ t ∷ []) → ⊥)

abbrev pub IsAnswer : {A : Type 0} → (ℕ → Lang A) → ℕ → Tokens → Result A ParseRefused → Type 0
IsAnswer L end ts (Ok x) = L 64 ts x
IsAnswer L end ts (Err NoMemory) = Unit {0}
IsAnswer L end ts (Err (Syntax place)) = IsSyntax L end ts place
IsAnswer L end ts (Err (TooDeep place)) = IsTooDeep L ts place

abbrev pub refused : Stop → ℕ → ParseRefused
refused stop.NoMemory place = NoMemory
refused stop.Syntax place = Syntax place
refused stop.TooDeep place = TooDeep place

-- the tree, unless memory was wanting
abbrev pub IsTree : {A : Type 0} → A → Result A ParseRefused → Type 0
IsTree x (Ok y) = y ≡ x
IsTree x (Err NoMemory) = Unit {0}
IsTree x (Err (Syntax place)) = ⊥
IsTree x (Err (TooDeep place)) = ⊥

-- one answer, unless memory was wanting
abbrev pub IsSame : {A : Type 0} → Result A ParseRefused → Result A ParseRefused → Type 0
IsSame (Err NoMemory) b = Unit {0}
IsSame a (Err NoMemory) = Unit {0}
IsSame a b = a ≡ b
