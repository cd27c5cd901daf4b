-- The parsers of the rules of expressions, each beside its rule of the grammar.
use Rattle.std.specs.Prelude.{ℕ, zero, suc, ℤ, negsuc, Bool, true, false, List, [], ◌∷◌, ◌++◌, Option, Some, None}
use Rattle.graph_value.specs.declared.value.Value.TheVariants as value
use Rattle.cypher_syntax.specs.declared.tree.expr.Expr.{Expr}
use Rattle.cypher_syntax.specs.declared.tree.expr.Expr.TheVariants as tree
use Rattle.cypher_syntax.specs.declared.tree.expr.PredOp.{PredOp}
use Rattle.cypher_syntax.specs.declared.tree.expr.PredOp.TheVariants as test
use Rattle.cypher_syntax.specs.declared.tree.expr.PostOp.{PostOp}
use Rattle.cypher_syntax.specs.declared.tree.expr.PostOp.TheVariants as step
use Rattle.cypher_syntax.specs.declared.tree.operators.CmpOp.{CmpOp}
use Rattle.cypher_syntax.specs.declared.tree.operators.SumOp.{SumOp}
use Rattle.cypher_syntax.specs.declared.tree.operators.SumOp.TheVariants.{Plus, Minus}
use Rattle.cypher_syntax.specs.declared.tree.operators.ProdOp.{ProdOp}
use Rattle.cypher_syntax.specs.declared.tree.operators.Fun.TheVariants as fun
use Rattle.cypher_parse.specs.declared.kind.Kind.{Kind}
use Rattle.cypher_parse.specs.declared.kind.Kind.TheVariants as k
use Rattle.cypher_parse.specs.declared.kinds.TheConstants.{PLAIN_NAMES, SINGLE_FUNCTIONS, AGGREGATES, NAMES, SCHEMA_NAMES, COMPARISONS, PRODUCT_SIGNS, SUM_SIGNS, PREDICATE_WORDS, STEP_SIGNS, LITERALS}
use Rattle.cypher_parse.specs.Words.{name_of, integer_of, text_of, function_of, comparison_of, sum_sign_of, product_sign_of, function_for, aggregate_for}
use Rattle.cypher_parse.specs.Expressions.{joined, chained, flat, posted, called, counted, cased}
use Rattle.cypher_parse.specs.Parsers.{Parser, Fault, one, valued, seq, map_out, after, before, empty, alt, opt, unless, many, some1, listed, enter}

-- the parsers inside one more opening token, where one may be opened
pub record Inner : Type 0 where
  pub left : Bool
  pub expr : Parser Expr
  pub not : Parser Expr
  pub unary : Parser Expr

-- ---- words

abbrev pub name : Parser (List ℕ)
name = valued NAMES name_of

abbrev pub schema : Parser (List ℕ)
schema = valued SCHEMA_NAMES name_of

abbrev pub integer : Parser ℤ
integer = valued (k.Integer ∷ []) integer_of

abbrev pub flag : Kind → Parser Bool
flag kind = opt (kind ∷ []) false (map_out (λ t. true) (one (kind ∷ [])))

unfoldable pub labels : Parser (List (List ℕ))
labels = some1 (k.Colon ∷ []) (after (k.Colon ∷ []) schema)

unfoldable pub labels_more : Parser (List (List ℕ))
labels_more = many (k.Colon ∷ []) (after (k.Colon ∷ []) schema)

-- ---- atoms

unfoldable pub literal : Parser Expr
literal =
    alt (k.Integer ∷ []) (map_out (λ z. tree.Lit (value.Int z)) integer)
    (alt (k.Quote ∷ []) (map_out (λ t. tree.Lit (value.Text t)) (valued (k.Quote ∷ []) text_of))
    (alt (k.True ∷ []) (map_out (λ t. tree.Lit (value.Bool true)) (one (k.True ∷ [])))
    (alt (k.False ∷ []) (map_out (λ t. tree.Lit (value.Bool false)) (one (k.False ∷ [])))
    (map_out (λ t. tree.Lit value.Null) (one (k.Null ∷ []))))))

-- behind a minus: the least integer, or an operand
unfoldable pub behind_minus : Parser Expr → Parser Expr
behind_minus operand =
    alt (k.LeastMagnitude ∷ []) (map_out (λ t. tree.Lit (value.Int (negsuc 9223372036854775807))) (one (k.LeastMagnitude ∷ [])))
    (map_out (tree.Sign Minus) operand)

-- behind IS
unfoldable pub null_test : Parser PredOp
null_test = alt (k.Not ∷ []) (after (k.Not ∷ []) (map_out (λ t. test.IsNotNull) (one (k.Null ∷ [])))) (map_out (λ t. test.IsNull) (one (k.Null ∷ [])))

-- DISTINCT or nothing, and the expression
unfoldable pub operand : Parser Expr → Parser (Bool × Expr)
operand expr = seq (flag k.Distinct) expr

unfoldable pub range_bounds : Parser Expr → Parser (Expr × Expr)
range_bounds expr = seq expr (after (k.Comma ∷ []) expr)

unfoldable pub list : Parser Expr → Parser (List Expr)
list expr = listed (k.Comma ∷ []) expr

unfoldable pub list_more : Parser Expr → Parser (List Expr)
list_more expr = many (k.Comma ∷ []) (after (k.Comma ∷ []) expr)

unfoldable pub counted_rows : Parser Expr → Parser (Option (Bool × Expr))
counted_rows expr = alt (k.Star ∷ []) (map_out (λ t. None) (one (k.Star ∷ []))) (map_out Some (operand expr))

-- behind `[`
unfoldable pub elements : Parser Expr → Parser (List Expr)
elements expr = before (unless (k.RightBracket ∷ []) [] (list expr)) (k.RightBracket ∷ [])

unfoldable pub when : Parser Expr → Parser (Expr × Expr)
when expr = seq (after (k.When ∷ []) expr) (after (k.Then ∷ []) expr)

unfoldable pub whens : Parser Expr → Parser (List (Expr × Expr))
whens expr = some1 (k.When ∷ []) (when expr)

unfoldable pub whens_more : Parser Expr → Parser (List (Expr × Expr))
whens_more expr = many (k.When ∷ []) (when expr)

unfoldable pub case_operand : Parser Expr → Parser (Option Expr)
case_operand expr = unless (k.When ∷ []) None (map_out Some expr)

unfoldable pub case_otherwise : Parser Expr → Parser (Option Expr)
case_otherwise expr = opt (k.Else ∷ []) None (map_out Some (after (k.Else ∷ []) expr))

-- behind CASE
unfoldable pub cases : Parser Expr → Parser (Option Expr × (List (Expr × Expr) × Option Expr))
cases expr = seq (case_operand expr) (seq (whens expr) (before (case_otherwise expr) (k.End ∷ [])))

-- behind an atom or a step
unfoldable pub tests : Parser (List PostOp)
tests = opt (k.Colon ∷ []) [] (map_out (λ names. step.Labels names ∷ []) labels)

module _ (l : Inner) where
  abbrev pub applied : {A : Type 0} → List Kind → (Kind → A → Expr) → Parser A → Parser Expr
  applied kinds node arguments =
      map_out (called node) (seq (valued kinds function_of) (alt (k.LeftParen ∷ []) (enter l.left (k.LeftParen ∷ []) Some (before arguments (k.RightParen ∷ []))) (empty None)))

  unfoldable pub single_call : Parser Expr
  single_call = applied SINGLE_FUNCTIONS (λ f x. tree.Call (function_for f) (x ∷ [])) l.expr

  unfoldable pub range_call : Parser Expr
  range_call = applied (k.RangeWord ∷ []) (λ f p. tree.Call fun.Range (p.0 ∷ p.1 ∷ [])) (range_bounds l.expr)

  unfoldable pub coalesce_call : Parser Expr
  coalesce_call = applied (k.CoalesceWord ∷ []) (λ f xs. tree.Call fun.Coalesce xs) (list l.expr)

  unfoldable pub count_call : Parser Expr
  count_call = applied (k.CountWord ∷ []) (λ f o. counted o) (counted_rows l.expr)

  unfoldable pub aggregate_call : Parser Expr
  aggregate_call = applied AGGREGATES (λ f p. tree.Agg (aggregate_for f) p.0 p.1) (operand l.expr)

  unfoldable pub call : Parser Expr
  call =
      alt SINGLE_FUNCTIONS single_call
      (alt (k.RangeWord ∷ []) range_call
      (alt (k.CoalesceWord ∷ []) coalesce_call
      (alt (k.CountWord ∷ []) count_call
      aggregate_call)))

  unfoldable pub atom : Parser Expr
  atom =
      alt (k.LeftParen ∷ []) (enter l.left (k.LeftParen ∷ []) (λ x. x) (before l.expr (k.RightParen ∷ [])))
      (alt (k.LeftBracket ∷ []) (enter l.left (k.LeftBracket ∷ []) tree.List (elements l.expr))
      (alt (k.Case ∷ []) (enter l.left (k.Case ∷ []) cased (cases l.expr))
      (alt PLAIN_NAMES (map_out tree.Var (valued PLAIN_NAMES name_of))
      (alt LITERALS literal call))))

  -- ---- what stands behind an atom

  unfoldable pub next : Parser PostOp
  next =
      alt (k.LeftBracket ∷ []) (enter l.left (k.LeftBracket ∷ []) step.At (before l.expr (k.RightBracket ∷ [])))
      (map_out step.Prop (after (k.Point ∷ []) schema))

  unfoldable pub turn : Parser (List PostOp)
  turn = map_out (λ p. p.0 ∷ p.1) (seq next tests)

  unfoldable pub steps : Parser (List PostOp)
  steps = map_out (λ p. p.0 ++ flat p.1) (seq tests (many STEP_SIGNS turn))

  unfoldable pub post : Parser Expr
  post = map_out posted (seq atom (seq tests (many STEP_SIGNS turn)))

  -- ---- operators

  abbrev pub negative : Parser Expr
  negative = behind_minus l.unary

  unfoldable pub unary : Parser Expr
  unary =
      alt (k.Minus ∷ []) (enter l.left (k.Minus ∷ []) (λ x. x) negative)
      (alt (k.Plus ∷ []) (enter l.left (k.Plus ∷ []) (tree.Sign Plus) l.unary) post)

  unfoldable pub product_turn : Parser (ProdOp × Expr)
  product_turn = seq (map_out (λ t. product_sign_of t.kind) (one PRODUCT_SIGNS)) unary

  unfoldable pub product_more : Parser (List (ProdOp × Expr))
  product_more = many PRODUCT_SIGNS product_turn

  unfoldable pub product : Parser Expr
  product = map_out (chained tree.Prod) (seq unary product_more)

  unfoldable pub sum_turn : Parser (SumOp × Expr)
  sum_turn = seq (map_out (λ t. sum_sign_of t.kind) (one SUM_SIGNS)) product

  unfoldable pub sum_more : Parser (List (SumOp × Expr))
  sum_more = many SUM_SIGNS sum_turn

  unfoldable pub sum : Parser Expr
  sum = map_out (chained tree.Sum) (seq product sum_more)

  unfoldable pub test_behind : Parser PredOp
  test_behind =
      alt (k.In ∷ []) (map_out test.OneOf (after (k.In ∷ []) sum))
      (alt (k.Starts ∷ []) (map_out test.Starts (after (k.Starts ∷ []) (after (k.With ∷ []) sum)))
      (alt (k.Ends ∷ []) (map_out test.Ends (after (k.Ends ∷ []) (after (k.With ∷ []) sum)))
      (alt (k.Contains ∷ []) (map_out test.Contains (after (k.Contains ∷ []) sum))
      (after (k.Is ∷ []) null_test))))

  unfoldable pub predicate_more : Parser (List PredOp)
  predicate_more = many PREDICATE_WORDS test_behind

  unfoldable pub predicate : Parser Expr
  predicate = map_out (chained tree.Pred) (seq sum predicate_more)

  unfoldable pub comparison_turn : Parser (CmpOp × Expr)
  comparison_turn = seq (map_out (λ t. comparison_of t.kind) (one COMPARISONS)) predicate

  unfoldable pub comparison_more : Parser (List (CmpOp × Expr))
  comparison_more = many COMPARISONS comparison_turn

  unfoldable pub comparison : Parser Expr
  comparison = map_out (chained tree.Cmp) (seq predicate comparison_more)

  unfoldable pub negation : Parser Expr
  negation = alt (k.Not ∷ []) (enter l.left (k.Not ∷ []) tree.Not l.not) comparison

  unfoldable pub conjunction_more : Parser (List Expr)
  conjunction_more = many (k.And ∷ []) (after (k.And ∷ []) negation)

  unfoldable pub conjunction : Parser Expr
  conjunction = map_out (joined tree.And) (seq negation conjunction_more)

  unfoldable pub exclusive_more : Parser (List Expr)
  exclusive_more = many (k.Xor ∷ []) (after (k.Xor ∷ []) conjunction)

  unfoldable pub exclusive : Parser Expr
  exclusive = map_out (joined tree.Xor) (seq conjunction exclusive_more)

  unfoldable pub disjunction_more : Parser (List Expr)
  disjunction_more = many (k.Or ∷ []) (after (k.Or ∷ []) exclusive)

  unfoldable pub disjunction : Parser Expr
  disjunction = map_out (joined tree.Or) (seq exclusive disjunction_more)

-- ---- levels

abbrev pub nothing : Parser Expr
nothing ts = Fault false ts

unfoldable pub at : ℕ → Inner
at zero = record { left = false; expr = nothing; not = nothing; unary = nothing }
at (suc n) = record { left = true; expr = disjunction (at n); not = negation (at n); unary = unary (at n) }

abbrev pub expression : ℕ → Parser Expr
expression n = disjunction (at n)

-- an expression of a query
abbrev pub limited : Parser Expr
limited = expression 64
