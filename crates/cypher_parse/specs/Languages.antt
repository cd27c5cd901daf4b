-- Languages: which tokens are a sentence, with which value.
use Rattle.std.specs.Prelude.{◌≡◌, ◌⊎◌, Bool, true, false, List, [], ◌∷◌, ◌++◌, Option, Some}
use Rattle.cypher_parse.specs.declared.kind.Kind.{Kind}
use Rattle.cypher_parse.specs.declared.lexeme.Lexeme.{Lexeme}
use Rattle.cypher_parse.specs.Kinds.{number, member}

abbrev pub Tokens : Type 0
Tokens = List Lexeme

abbrev pub Lang : Type 0 → Type 1
Lang A = Tokens → A → Type 0

-- whether the token is of one of these kinds
abbrev pub is_of : List Kind → Lexeme → Bool
is_of kinds t = member (number t.kind) kinds

-- one token of these kinds
abbrev pub One : List Kind → Lang Lexeme
One kinds ts t = (ts ≡ t ∷ []) × (is_of kinds t ≡ true)

-- one token of these kinds that carries a value
abbrev pub Valued : {A : Type 0} → List Kind → (Lexeme → Option A) → Lang A
Valued kinds of ts a = (t : Lexeme) × (ts ≡ t ∷ []) × (is_of kinds t ≡ true) × (of t ≡ Some a)

-- a sentence, and then one of the second language
abbrev pub Seq : {A B : Type 0} → Lang A → Lang B → Lang (A × B)
Seq L M ts p = (front : Tokens) × (back : Tokens) × (ts ≡ front ++ back) × L front p.0 × M back p.1

-- a sentence, and then one of a language that its value picks
abbrev pub Bind : {A B : Type 0} → Lang A → (A → Lang B) → Lang B
Bind {A} L M ts b = (a : A) × (front : Tokens) × (back : Tokens) × (ts ≡ front ++ back) × L front a × M a back b

abbrev pub Map : {A B : Type 0} → (A → B) → Lang A → Lang B
Map {A} f L ts b = (a : A) × L ts a × (f a ≡ b)

-- behind one token of these kinds
abbrev pub After : {A : Type 0} → List Kind → Lang A → Lang A
After kinds L = Map (λ p. p.1) (Seq (One kinds) L)

-- in front of one token of these kinds
abbrev pub Before : {A : Type 0} → Lang A → List Kind → Lang A
Before L kinds = Map (λ p. p.0) (Seq L (One kinds))

-- nothing
abbrev pub Empty : {A : Type 0} → A → Lang A
Empty none ts a = (ts ≡ []) × (none ≡ a)

abbrev pub Alt : {A : Type 0} → Lang A → Lang A → Lang A
Alt L M ts a = L ts a ⊎ M ts a

-- a sentence or nothing
abbrev pub Opt : {A : Type 0} → A → Lang A → Lang A
Opt none L = Alt L (Empty none)

-- any number of sentences
abbrev pub Many : {A : Type 0} → Lang A → Lang (List A)
Many L ts [] = ts ≡ []
Many L ts (a ∷ items) = (front : Tokens) × (back : Tokens) × (ts ≡ front ++ back) × L front a × Many L back items

-- a sentence, and any number of further ones
abbrev pub Chain : {A B : Type 0} → Lang A → Lang B → Lang (A × List B)
Chain L M = Seq L (Many M)

-- one sentence or more
abbrev pub Some1 : {A : Type 0} → Lang A → Lang (List A)
Some1 L = Map (λ p. p.0 ∷ p.1) (Chain L L)

-- one sentence or more, with a token of these kinds between any two
abbrev pub Listed : {A : Type 0} → List Kind → Lang A → Lang (List A)
Listed kinds L = Map (λ p. p.0 ∷ p.1) (Chain L (After kinds L))

-- What opens a level, behind its opening token. It has no sentence where no level is left.
abbrev pub Enter : {A B : Type 0} → Bool → List Kind → (A → B) → Lang A → Lang B
Enter false opening f L ts b = ⊥
Enter true opening f L ts b = Map f (After opening L) ts b
