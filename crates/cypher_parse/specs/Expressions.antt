-- The grammar of expressions. What opens a level counts the levels that are left.
use Rattle.std.specs.Prelude.{ℕ, zero, suc, ℤ, negsuc, Bool, true, false, List, [], ◌∷◌, ◌++◌, Option, Some, None}
use Rattle.graph_value.specs.declared.value.Value.TheVariants as value
use Rattle.cypher_syntax.specs.declared.tree.expr.Expr.{Expr}
use Rattle.cypher_syntax.specs.declared.tree.expr.Expr.TheVariants as tree
use Rattle.cypher_syntax.specs.declared.tree.expr.PredOp.{PredOp}
use Rattle.cypher_syntax.specs.declared.tree.expr.PredOp.TheVariants as test
use Rattle.cypher_syntax.specs.declared.tree.expr.PostOp.{PostOp}
use Rattle.cypher_syntax.specs.declared.tree.expr.PostOp.TheVariants as step
use Rattle.cypher_syntax.specs.declared.tree.operators.SumOp.TheVariants.{Plus, Minus}
use Rattle.cypher_syntax.specs.declared.tree.operators.Fun.TheVariants as fun
use Rattle.cypher_syntax.specs.declared.tree.operators.AggFun.TheVariants as agg
use Rattle.cypher_parse.specs.declared.kind.Kind.{Kind}
use Rattle.cypher_parse.specs.declared.kind.Kind.TheVariants as k
use Rattle.cypher_parse.specs.declared.kinds.TheConstants.{PLAIN_NAMES, SINGLE_FUNCTIONS, AGGREGATES, NAMES, SCHEMA_NAMES, COMPARISONS, PRODUCT_SIGNS, SUM_SIGNS}
use Rattle.cypher_parse.specs.Words.{name_of, integer_of, text_of, function_of, comparison_of, sum_sign_of, product_sign_of, function_for, aggregate_for}
use Rattle.cypher_parse.specs.Languages.{Lang, One, Valued, Seq, Map, After, Before, Empty, Alt, Opt, Many, Chain, Some1, Listed, Enter}

-- The expressions inside one more opening token, where one may be opened.
pub record Inside : Type 1 where
  pub left : Bool
  pub expr : Lang Expr
  pub not : Lang Expr
  pub unary : Lang Expr

-- ---- the nodes of the tree

-- a chain of one operand is that operand
abbrev pub joined : (List Expr → Expr) → Expr × List Expr → Expr
joined node (a, []) = a
joined node (a, b ∷ rest) = node (a ∷ b ∷ rest)

abbrev pub chained : {A : Type 0} → (Expr → List A → Expr) → Expr × List A → Expr
chained node (a, []) = a
chained node (a, b ∷ rest) = node a (b ∷ rest)

abbrev pub flat : {A : Type 0} → List (List A) → List A
flat [] = []
flat (xs ∷ rest) = xs ++ flat rest

abbrev pub posted : Expr × (List PostOp × List (List PostOp)) → Expr
posted p = chained tree.Post (p.0, p.1.0 ++ flat p.1.1)

-- a function's word that no parenthesis follows is a name
abbrev pub called : {A : Type 0} → (Kind → A → Expr) → (Kind × List ℕ) × Option A → Expr
called node (f, None) = tree.Var f.1
called node (f, Some a) = node f.0 a

abbrev pub counted : Option (Bool × Expr) → Expr
counted None = tree.CountRows
counted (Some p) = tree.Agg agg.Count p.0 p.1

abbrev pub cased : Option Expr × (List (Expr × Expr) × Option Expr) → Expr
cased p = tree.Case p.0 p.1.0 p.1.1

-- ---- words

abbrev pub Name : Lang (List ℕ)
Name = Valued NAMES name_of

abbrev pub Schema : Lang (List ℕ)
Schema = Valued SCHEMA_NAMES name_of

abbrev pub Integer : Lang ℤ
Integer = Valued (k.Integer ∷ []) integer_of

-- whether the word stands here
abbrev pub Flag : Kind → Lang Bool
Flag kind = Opt false (Map (λ t. true) (One (kind ∷ [])))

abbrev pub Labels : Lang (List (List ℕ))
Labels = Some1 (After (k.Colon ∷ []) Schema)

-- behind an atom or a step
abbrev pub Tests : Lang (List PostOp)
Tests = Opt [] (Map (λ names. step.Labels names ∷ []) Labels)

-- ---- atoms

abbrev pub Literal : Lang Expr
Literal =
    Alt (Map (λ z. tree.Lit (value.Int z)) Integer)
    (Alt (Map (λ t. tree.Lit (value.Text t)) (Valued (k.Quote ∷ []) text_of))
    (Alt (Map (λ t. tree.Lit (value.Bool true)) (One (k.True ∷ [])))
    (Alt (Map (λ t. tree.Lit (value.Bool false)) (One (k.False ∷ [])))
    (Map (λ t. tree.Lit value.Null) (One (k.Null ∷ []))))))

module _ (l : Inside) where
  -- a function's name, and between parentheses what it is given; or a name
  abbrev pub Called : {A : Type 0} → List Kind → (Kind → A → Expr) → Lang A → Lang Expr
  Called kinds node Arguments =
      Map (called node) (Seq (Valued kinds function_of) (Alt (Enter l.left (k.LeftParen ∷ []) Some (Before Arguments (k.RightParen ∷ []))) (Empty None)))

  -- DISTINCT or nothing, and the expression
  abbrev pub Operand : Lang (Bool × Expr)
  Operand = Seq (Flag k.Distinct) l.expr

  unfoldable pub Call : Lang Expr
  Call =
      Alt (Called SINGLE_FUNCTIONS (λ f x. tree.Call (function_for f) (x ∷ [])) l.expr)
      (Alt (Called (k.RangeWord ∷ []) (λ f p. tree.Call fun.Range (p.0 ∷ p.1 ∷ [])) (Seq l.expr (After (k.Comma ∷ []) l.expr)))
      (Alt (Called (k.CoalesceWord ∷ []) (λ f xs. tree.Call fun.Coalesce xs) (Listed (k.Comma ∷ []) l.expr))
      (Alt (Called (k.CountWord ∷ []) (λ f o. counted o) (Alt (Map (λ t. None) (One (k.Star ∷ []))) (Map Some Operand)))
      (Called AGGREGATES (λ f p. tree.Agg (aggregate_for f) p.0 p.1) Operand))))

  -- what stands behind `[`: expressions, or none
  abbrev pub Elements : Lang (List Expr)
  Elements = Before (Opt [] (Listed (k.Comma ∷ []) l.expr)) (k.RightBracket ∷ [])

  abbrev pub When : Lang (Expr × Expr)
  When = Seq (After (k.When ∷ []) l.expr) (After (k.Then ∷ []) l.expr)

  -- what stands behind CASE
  abbrev pub Cases : Lang (Option Expr × (List (Expr × Expr) × Option Expr))
  Cases = Seq (Opt None (Map Some l.expr)) (Seq (Some1 When) (Before (Opt None (Map Some (After (k.Else ∷ []) l.expr))) (k.End ∷ [])))

  unfoldable pub Atom : Lang Expr
  Atom =
      Alt (Enter l.left (k.LeftParen ∷ []) (λ x. x) (Before l.expr (k.RightParen ∷ [])))
      (Alt (Enter l.left (k.LeftBracket ∷ []) tree.List Elements)
      (Alt (Enter l.left (k.Case ∷ []) cased Cases)
      (Alt (Map tree.Var (Valued PLAIN_NAMES name_of))
      (Alt Literal Call))))

  -- ---- what stands behind an atom

  abbrev pub Step : Lang PostOp
  Step =
      Alt (Enter l.left (k.LeftBracket ∷ []) step.At (Before l.expr (k.RightBracket ∷ [])))
      (Map step.Prop (After (k.Point ∷ []) Schema))

  -- A test of labels stands behind an atom or a step: labels side by side are one test.
  unfoldable pub Post : Lang Expr
  Post = Map posted (Seq Atom (Seq Tests (Many (Map (λ p. p.0 ∷ p.1) (Seq Step Tests)))))

  -- ---- operators

  -- behind a minus: the least integer, or an operand
  abbrev pub Negative : Lang Expr
  Negative = Alt (Map (λ t. tree.Lit (value.Int (negsuc 9223372036854775807))) (One (k.LeastMagnitude ∷ []))) (Map (tree.Sign Minus) l.unary)

  unfoldable pub Unary : Lang Expr
  Unary = Alt (Enter l.left (k.Minus ∷ []) (λ x. x) Negative) (Alt (Enter l.left (k.Plus ∷ []) (tree.Sign Plus) l.unary) Post)

  unfoldable pub Product : Lang Expr
  Product = Map (chained tree.Prod) (Chain Unary (Seq (Map (λ t. product_sign_of t.kind) (One PRODUCT_SIGNS)) Unary))

  unfoldable pub Sum : Lang Expr
  Sum = Map (chained tree.Sum) (Chain Product (Seq (Map (λ t. sum_sign_of t.kind) (One SUM_SIGNS)) Product))

  unfoldable pub Test : Lang PredOp
  Test =
      Alt (Map test.OneOf (After (k.In ∷ []) Sum))
      (Alt (Map test.Starts (After (k.Starts ∷ []) (After (k.With ∷ []) Sum)))
      (Alt (Map test.Ends (After (k.Ends ∷ []) (After (k.With ∷ []) Sum)))
      (Alt (Map test.Contains (After (k.Contains ∷ []) Sum))
      (After (k.Is ∷ []) (Alt (After (k.Not ∷ []) (Map (λ t. test.IsNotNull) (One (k.Null ∷ [])))) (Map (λ t. test.IsNull) (One (k.Null ∷ []))))))))

  unfoldable pub Predicate : Lang Expr
  Predicate = Map (chained tree.Pred) (Chain Sum Test)

  unfoldable pub Comparison : Lang Expr
  Comparison = Map (chained tree.Cmp) (Chain Predicate (Seq (Map (λ t. comparison_of t.kind) (One COMPARISONS)) Predicate))

  unfoldable pub Not : Lang Expr
  Not = Alt (Enter l.left (k.Not ∷ []) tree.Not l.not) Comparison

  unfoldable pub And : Lang Expr
  And = Map (joined tree.And) (Chain Not (After (k.And ∷ []) Not))

  unfoldable pub Xor : Lang Expr
  Xor = Map (joined tree.Xor) (Chain And (After (k.Xor ∷ []) And))

  unfoldable pub Or : Lang Expr
  Or = Map (joined tree.Or) (Chain Xor (After (k.Or ∷ []) Xor))

-- ---- levels

abbrev pub Nothing : Lang Expr
Nothing ts x = ⊥

-- what may stand inside one more opening token, where so many may be open at once
unfoldable pub At : ℕ → Inside
At zero = record { left = false; expr = Nothing; not = Nothing; unary = Nothing }
At (suc n) = record { left = true; expr = Or (At n); not = Not (At n); unary = Unary (At n) }

-- an expression in which at most so many tokens are open at once
abbrev pub Expression : ℕ → Lang Expr
Expression n = Or (At n)
