-- What the tokens of a printed part are to the grammar.
use Rattle.std.specs.Prelude.{◌≡◌, ℕ, ◌+◌, ◌<◌, true, List, [], ◌∷◌, ◌++◌, length, map, Option, Some, None}
use Rattle.cypher_syntax.specs.declared.token.Token.{Token}
use Rattle.cypher_syntax.specs.Lexing.{after_tokens, lexed_from}
use Rattle.cypher_syntax.specs.declared.tree.expr.Expr.{Expr}
use Rattle.cypher_syntax.specs.declared.tree.pattern.EdgePattern.{EdgePattern}
use Rattle.cypher_syntax.specs.declared.tree.pattern.NodePattern.{NodePattern}
use Rattle.cypher_syntax.specs.declared.tree.pattern.Pattern.{Pattern}
use Rattle.cypher_syntax.specs.declared.tree.clause.MatchClause.{MatchClause}
use Rattle.cypher_syntax.specs.declared.tree.clause.Unwind.{Unwind}
use Rattle.cypher_syntax.specs.declared.tree.clause.Clause.{Clause}
use Rattle.cypher_syntax.specs.declared.tree.clause.Clause.TheVariants as clause
use Rattle.cypher_parse.specs.Languages.{Lang}
use Rattle.cypher_parse.specs.Texts.{lexeme}
use Rattle.cypher_print.specs.Pieces.{written}
use Rattle.cypher_print.specs.Printed.{expr}
use Rattle.cypher_print.specs.ReadBack.{parts_name}

-- Behind any bytes and in front of these, the tokens of what is printed are a sentence of the language with this value, and
-- the tokens behind it are theirs.
abbrev pub IsSentence : {A : Type 0} → Lang A → A → List ℕ → List ℕ → Type 0
IsSentence L a printed behind =
    (before : List ℕ)
    → (tokens : List Token)
    × (lexed_from (length before) 0 (printed ++ behind) ≡ after_tokens tokens (lexed_from (length before + length printed) 0 behind))
    × L (map (lexeme (before ++ (printed ++ behind))) tokens) a

-- each is such
abbrev pub All : {X : Type 0} → (X → Type 0) → List X → Type 0
All P [] = Unit {0}
All P (x ∷ xs) = P x × All P xs

-- a name isn't empty
abbrev pub IsName : List ℕ → Type 0
IsName n = 0 < length n

abbrev pub IsNameOrNone : Option (List ℕ) → Type 0
IsNameOrNone None = Unit {0}
IsNameOrNone (Some n) = IsName n

-- ---- over a language of expressions

-- the tokens of the printed expression are a sentence of the language, and the expression is its value
abbrev pub IsReadIn : Lang Expr → Expr → Type 0
IsReadIn E x = (behind : List ℕ) → parts_name behind ≡ true → IsSentence E x (written [] (expr x 0)) behind

abbrev pub IsEntry : Lang Expr → List ℕ × Expr → Type 0
IsEntry E p = IsName p.0 × IsReadIn E p.1

abbrev pub IsMapOrNone : Lang Expr → Option (List (List ℕ × Expr)) → Type 0
IsMapOrNone E None = Unit {0}
IsMapOrNone E (Some ps) = All (IsEntry E) ps

abbrev pub IsVertex : Lang Expr → NodePattern → Type 0
IsVertex E n = IsNameOrNone n.name × All IsName n.labels × IsMapOrNone E n.map

abbrev pub IsEdge : Lang Expr → EdgePattern → Type 0
IsEdge E e = IsNameOrNone e.name × All IsName e.kinds × IsMapOrNone E e.map

abbrev pub IsPattern : Lang Expr → Pattern → Type 0
IsPattern E p = IsVertex E p.first × All (λ s. IsEdge E s.0 × IsVertex E s.1) p.steps

abbrev pub IsFilter : Lang Expr → Option Expr → Type 0
IsFilter E None = Unit {0}
IsFilter E (Some x) = IsReadIn E x

abbrev pub IsMatch : Lang Expr → MatchClause → Type 0
IsMatch E m = ((0 < length m.patterns) × All (IsPattern E) m.patterns) × IsFilter E m.filter

abbrev pub IsUnwind : Lang Expr → Unwind → Type 0
IsUnwind E u = IsReadIn E u.list × IsName u.name

-- a clause that reads
abbrev pub IsReading : Lang Expr → Clause → Type 0
IsReading E (clause.Match m) = IsMatch E m
IsReading E (clause.Unwind u) = IsUnwind E u
IsReading E (clause.Update u) = ⊥
