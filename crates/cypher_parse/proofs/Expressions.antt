-- The parser of expressions is exact at each number of levels.
use Rattle.std.proofs.Common.{◌≡◌, pos, negsuc, Bool, true, false, List, [], ◌∷◌, ◌++◌, Some, None, refl}
use Rattle.cypher_syntax.specs.declared.tree.expr.Expr.{Expr}
use Rattle.cypher_syntax.specs.declared.tree.expr.Expr.TheVariants as tree
use Rattle.cypher_syntax.specs.declared.tree.expr.PredOp.TheVariants as test
use Rattle.cypher_syntax.specs.declared.tree.expr.PostOp.TheVariants as step
use Rattle.cypher_syntax.specs.declared.tree.operators.SumOp.TheVariants.{Plus, Minus}
use Rattle.cypher_syntax.specs.declared.tree.operators.Fun.TheVariants as fun
use Rattle.graph_value.specs.declared.value.Value.TheVariants as value
use Rattle.cypher_parse.specs.declared.kind.Kind.{Kind}
use Rattle.cypher_parse.specs.declared.kind.Kind.TheVariants as k
use Rattle.cypher_parse.specs.declared.kinds.TheConstants.{PLAIN_NAMES, SINGLE_FUNCTIONS, AGGREGATES, NAMES, SCHEMA_NAMES, COMPARISONS, PRODUCT_SIGNS, SUM_SIGNS, PREDICATE_WORDS, STEP_SIGNS, LITERALS}
use Rattle.cypher_parse.specs.declared.lexeme.Lexeme.{Lexeme}
use Rattle.cypher_parse.specs.declared.lexeme.Payload.TheVariants as payload
use Rattle.cypher_parse.specs.Kinds.{disjoint, subset}
use Rattle.cypher_parse.specs.Words.{name_of, integer_of, text_of, function_of, comparison_of, sum_sign_of, product_sign_of, function_for, aggregate_for}
use Rattle.cypher_parse.specs.Languages.{Lang, is_of, One, Seq, Map}
use Rattle.cypher_parse.specs.Parsers.{Parser}
use Rattle.cypher_parse.specs.Expressions.{Inside, joined, chained, posted, called, counted, cased, Name, Schema, Integer, Flag, Labels, Literal, Called, Operand, Call, Elements, When, Cases, Atom, Tests, Step, Post, Negative, Unary, Product, Sum, Test, Predicate, Comparison, Not, And, Xor, Or}
use Rattle.cypher_parse.specs.ExpressionParsers.{Inner, name, schema, integer, flag, labels, literal, applied, operand, range_bounds, list, counted_rows, single_call, range_call, coalesce_call, count_call, aggregate_call, call, elements, when, whens, case_operand, case_otherwise, cases, atom, tests, next, turn, post, behind_minus, negative, null_test, unary, product_turn, product_more, product, sum_turn, sum_more, sum, test_behind, predicate_more, predicate, comparison_turn, comparison_more, comparison, negation, conjunction_more, conjunction, exclusive_more, exclusive, disjunction_more, disjunction}
use Rattle.cypher_parse.proofs.Exact.{Shape, one_shape, seq_shape, alt_shape, many_shape, empty_shape}
use Rattle.cypher_parse.proofs.Tied.{Tied, tied_one, tied_valued, tied_seq, tied_map, tied_empty, tied_alt, tied_many, tied_within, tied_after, tied_before, tied_opt, tied_chain, tied_some1, tied_listed, tied_enter, tied_unless, after_shape}

-- ---- what rules begin with, and what goes on with them

abbrev functions : List Kind
functions = SINGLE_FUNCTIONS ++ k.RangeWord ∷ k.CoalesceWord ∷ k.CountWord ∷ [] ++ AGGREGATES

abbrev operands : List Kind
operands = k.LeftParen ∷ k.LeftBracket ∷ k.Case ∷ [] ++ PLAIN_NAMES ++ LITERALS ++ functions

abbrev behind_post : List Kind
behind_post = k.LeftParen ∷ k.Colon ∷ STEP_SIGNS

abbrev behind_sum : List Kind
behind_sum = behind_post ++ PRODUCT_SIGNS ++ SUM_SIGNS

abbrev behind_comparison : List Kind
behind_comparison = behind_sum ++ PREDICATE_WORDS ++ COMPARISONS

abbrev pub call_shape : Shape
call_shape = record { first = functions; empty = false; more = k.LeftParen ∷ [] }

abbrev pub atom_shape : Shape
atom_shape = record { first = operands; empty = false; more = k.LeftParen ∷ [] }

abbrev pub post_shape : Shape
post_shape = record { first = operands; empty = false; more = behind_post }

abbrev pub unary_shape : Shape
unary_shape = record { first = SUM_SIGNS ++ operands; empty = false; more = behind_post }

abbrev pub product_shape : Shape
product_shape = record { first = SUM_SIGNS ++ operands; empty = false; more = behind_post ++ PRODUCT_SIGNS }

abbrev pub sum_shape : Shape
sum_shape = record { first = SUM_SIGNS ++ operands; empty = false; more = behind_sum }

abbrev pub test_shape : Shape
test_shape = record { first = PREDICATE_WORDS; empty = false; more = behind_sum }

abbrev pub predicate_shape : Shape
predicate_shape = record { first = SUM_SIGNS ++ operands; empty = false; more = behind_sum ++ PREDICATE_WORDS }

abbrev pub comparison_shape : Shape
comparison_shape = record { first = SUM_SIGNS ++ operands; empty = false; more = behind_comparison }

abbrev pub not_shape : Shape
not_shape = record { first = k.Not ∷ SUM_SIGNS ++ operands; empty = false; more = behind_comparison }

abbrev pub and_shape : Shape
and_shape = record { first = k.Not ∷ SUM_SIGNS ++ operands; empty = false; more = k.And ∷ behind_comparison }

abbrev pub xor_shape : Shape
xor_shape = record { first = k.Not ∷ SUM_SIGNS ++ operands; empty = false; more = k.Xor ∷ k.And ∷ behind_comparison }

abbrev pub or_shape : Shape
or_shape = record { first = k.Not ∷ SUM_SIGNS ++ operands; empty = false; more = k.Or ∷ k.Xor ∷ k.And ∷ behind_comparison }

abbrev pub turn_shape : Shape
turn_shape = record { first = STEP_SIGNS; empty = false; more = k.Colon ∷ [] }

abbrev pub when_shape : Shape
when_shape = seq_shape (after_shape (k.When ∷ []) or_shape) (after_shape (k.Then ∷ []) or_shape)

-- ---- tokens that carry something

abbrev named : Kind → Lexeme
named kind = record { kind = kind; payload = payload.Name (97 ∷ []); place = 0 }

pub tied_name : {b : Bool} → Tied b Name Name name name (one_shape NAMES)
tied_name = tied_valued NAMES name_of (named k.Name) (97 ∷ []) refl refl

pub tied_schema : {b : Bool} → Tied b Schema Schema schema schema (one_shape SCHEMA_NAMES)
tied_schema = tied_valued SCHEMA_NAMES name_of (named k.Name) (97 ∷ []) refl refl

pub tied_integer : {b : Bool} → Tied b Integer Integer integer integer (one_shape (k.Integer ∷ []))
tied_integer = tied_valued (k.Integer ∷ []) integer_of (record { kind = k.Integer; payload = payload.Integer (pos 0); place = 0 }) (pos 0) refl refl

pub tied_flag : {b : Bool} (kind : Kind) → subset (kind ∷ []) (kind ∷ []) ≡ true → Tied b (Flag kind) (Flag kind) (flag kind) (flag kind) (alt_shape (kind ∷ []) (one_shape (kind ∷ [])) empty_shape)
tied_flag kind itself = tied_opt (kind ∷ []) false (tied_map (λ t. true) (tied_one kind [])) refl itself

abbrev labels_shape : Shape
labels_shape = record { first = k.Colon ∷ []; empty = false; more = k.Colon ∷ [] }

pub tied_labels : {b : Bool} → Tied b Labels Labels labels labels labels_shape
unfolding labels
tied_labels = tied_within labels_shape (tied_some1 (k.Colon ∷ []) (tied_after k.Colon [] tied_schema) refl refl refl) refl refl refl

pub tied_literal : {b : Bool} → Tied b Literal Literal literal literal (one_shape LITERALS)
unfolding literal
tied_literal = tied_within (one_shape LITERALS)
    (tied_alt (k.Integer ∷ []) (tied_map (λ z. tree.Lit (value.Int z)) tied_integer)
    (tied_alt (k.Quote ∷ []) (tied_map (λ t. tree.Lit (value.Text t)) (tied_valued (k.Quote ∷ []) text_of (record { kind = k.Quote; payload = payload.Text []; place = 0 }) [] refl refl))
    (tied_alt (k.True ∷ []) (tied_map (λ t. tree.Lit (value.Bool true)) (tied_one k.True []))
    (tied_alt (k.False ∷ []) (tied_map (λ t. tree.Lit (value.Bool false)) (tied_one k.False []))
    (tied_map (λ t. tree.Lit value.Null) (tied_one k.Null [])) refl refl refl) refl refl refl) refl refl refl) refl refl refl)
    refl refl refl

-- ---- the rules at a level and at the next

module _ (b : Bool) (E E' N N' U U' : Lang Expr) (e e' n n' u u' : Parser Expr) (TE : Tied b E E' e e' or_shape) (TN : Tied b N N' n n' not_shape) (TU : Tied b U U' u u' unary_shape) where
  abbrev l : Inside
  l = record { left = b; expr = E; not = N; unary = U }

  abbrev l' : Inside
  l' = record { left = true; expr = E'; not = N'; unary = U' }

  abbrev m : Inner
  m = record { left = b; expr = e; not = n; unary = u }

  abbrev m' : Inner
  m' = record { left = true; expr = e'; not = n'; unary = u' }

  abbrev called_shape : List Kind → Shape → Shape
  called_shape kinds s = seq_shape (one_shape kinds) (alt_shape (k.LeftParen ∷ []) (after_shape (k.LeftParen ∷ []) (seq_shape s (one_shape (k.RightParen ∷ [])))) empty_shape)

  -- a function's word, and perhaps what stands between parentheses
  tied_called : {A : Type 0} {X X' : Lang A} {p p' : Parser A} {s : Shape} (kinds : List Kind) (node : Kind → A → Expr) (kind : Kind) → is_of kinds (named kind) ≡ true → Tied b X X' p p' s → disjoint (k.RightParen ∷ []) s.more ≡ true
      → Tied true (Called l kinds node X) (Called l' kinds node X') (applied m kinds node p) (applied m' kinds node p') (called_shape kinds s)
  tied_called kinds node kind is T clear =
      tied_map (called node) (tied_seq (tied_valued kinds function_of (named kind) (kind, 97 ∷ []) is refl) (tied_enter k.LeftParen Some (tied_before k.RightParen [] T clear) (tied_empty None) refl refl) refl)

  abbrev operand_shape : Shape
  operand_shape = seq_shape (alt_shape (k.Distinct ∷ []) (one_shape (k.Distinct ∷ [])) empty_shape) or_shape

  tied_operand : Tied b (Operand l) (Operand l') (operand e) (operand e') operand_shape
  unfolding operand
  tied_operand = tied_seq (tied_flag k.Distinct refl) TE refl

  tied_single : Tied true (Called l SINGLE_FUNCTIONS (λ f x. tree.Call (function_for f) (x ∷ [])) E) (Called l' SINGLE_FUNCTIONS (λ f x. tree.Call (function_for f) (x ∷ [])) E') (single_call m) (single_call m') (called_shape SINGLE_FUNCTIONS or_shape)
  unfolding single_call
  tied_single = tied_called SINGLE_FUNCTIONS (λ f x. tree.Call (function_for f) (x ∷ [])) k.IdWord refl TE refl

  tied_call : Tied true (Call l) (Call l') (call m) (call m') call_shape
  unfolding Call call range_call coalesce_call count_call aggregate_call list range_bounds counted_rows
  tied_call = tied_within call_shape
      (tied_alt SINGLE_FUNCTIONS tied_single
      (tied_alt (k.RangeWord ∷ []) (tied_called (k.RangeWord ∷ []) (λ f p. tree.Call fun.Range (p.0 ∷ p.1 ∷ [])) k.RangeWord refl (tied_seq TE (tied_after k.Comma [] TE) refl) refl)
      (tied_alt (k.CoalesceWord ∷ []) (tied_called (k.CoalesceWord ∷ []) (λ f xs. tree.Call fun.Coalesce xs) k.CoalesceWord refl (tied_listed k.Comma TE refl refl refl) refl)
      (tied_alt (k.CountWord ∷ []) (tied_called (k.CountWord ∷ []) (λ f o. counted o) k.CountWord refl (tied_alt (k.Star ∷ []) (tied_map (λ t. None) (tied_one k.Star [])) (tied_map Some tied_operand) refl refl refl) refl)
      (tied_called AGGREGATES (λ f p. tree.Agg (aggregate_for f) p.0 p.1) k.SumWord refl tied_operand refl)
      refl refl refl) refl refl refl) refl refl refl) refl refl refl)
      refl refl refl

  tied_elements : Tied b (Elements l) (Elements l') (elements e) (elements e') (alt_shape (k.RightBracket ∷ []) (one_shape (k.RightBracket ∷ [])) (seq_shape (seq_shape or_shape (many_shape (k.Comma ∷ []) (after_shape (k.Comma ∷ []) or_shape))) (one_shape (k.RightBracket ∷ []))))
  unfolding elements list
  tied_elements = tied_map (λ p. p.0) (tied_unless (k.RightBracket ∷ []) [] (tied_listed k.Comma TE refl refl refl) (tied_one k.RightBracket []) refl refl refl refl)

  pub tied_when : Tied b (When l) (When l') (when e) (when e') when_shape
  unfolding when
  tied_when = tied_seq (tied_after k.When [] TE) (tied_after k.Then [] TE) refl

  abbrev else_shape : Shape
  else_shape = seq_shape (alt_shape (k.Else ∷ []) (after_shape (k.Else ∷ []) or_shape) empty_shape) (one_shape (k.End ∷ []))

  abbrev cases_shape : Shape
  cases_shape = record { first = k.When ∷ or_shape.first; empty = false; more = [] }

  tied_cases : Tied b (Cases l) (Cases l') (cases e) (cases e') cases_shape
  unfolding cases case_operand case_otherwise whens
  tied_cases = tied_within cases_shape
      (tied_unless (k.When ∷ []) None (tied_map Some TE)
      (tied_seq (tied_some1 (k.When ∷ []) tied_when refl refl refl) (tied_before k.End [] (tied_opt (k.Else ∷ []) None (tied_map Some (tied_after k.Else [] TE)) refl refl) refl) refl)
      refl refl refl refl)
      refl refl refl

  tied_atom : Tied true (Atom l) (Atom l') (atom m) (atom m') atom_shape
  unfolding Atom atom
  tied_atom = tied_within atom_shape
      (tied_enter k.LeftParen (λ x. x) (tied_before k.RightParen [] TE refl)
      (tied_enter k.LeftBracket tree.List tied_elements
      (tied_enter k.Case cased tied_cases
      (tied_alt PLAIN_NAMES (tied_map tree.Var (tied_valued PLAIN_NAMES name_of (named k.Name) (97 ∷ []) refl refl))
      (tied_alt LITERALS tied_literal tied_call refl refl refl) refl refl refl) refl refl) refl refl) refl refl)
      refl refl refl

  tied_tests : Tied true Tests Tests tests tests (alt_shape (k.Colon ∷ []) labels_shape empty_shape)
  unfolding tests
  tied_tests = tied_opt (k.Colon ∷ []) [] (tied_map (λ names. step.Labels names ∷ []) tied_labels) refl refl

  pub tied_turn : Tied true (Map (λ p. p.0 ∷ p.1) (Seq (Step l) Tests)) (Map (λ p. p.0 ∷ p.1) (Seq (Step l') Tests)) (turn m) (turn m') turn_shape
  unfolding turn next
  tied_turn = tied_within turn_shape
      (tied_map (λ p. p.0 ∷ p.1) (tied_seq (tied_enter k.LeftBracket step.At (tied_before k.RightBracket [] TE refl) (tied_map step.Prop (tied_after k.Point [] tied_schema)) refl refl) tied_tests refl))
      refl refl refl

  pub tied_post : Tied true (Post l) (Post l') (post m) (post m') post_shape
  unfolding Post post
  tied_post = tied_within post_shape (tied_map posted (tied_seq tied_atom (tied_seq tied_tests (tied_many STEP_SIGNS tied_turn refl refl refl) refl) refl)) refl refl refl

  tied_negative : Tied b (Negative l) (Negative l') (negative m) (negative m') (alt_shape (k.LeastMagnitude ∷ []) (one_shape (k.LeastMagnitude ∷ [])) unary_shape)
  unfolding behind_minus
  tied_negative = tied_alt (k.LeastMagnitude ∷ []) (tied_map (λ t. tree.Lit (value.Int (negsuc 9223372036854775807))) (tied_one k.LeastMagnitude [])) (tied_map (tree.Sign Minus) TU) refl refl refl

  pub tied_unary : Tied true (Unary l) (Unary l') (unary m) (unary m') unary_shape
  unfolding Unary unary
  tied_unary = tied_within unary_shape
      (tied_enter k.Minus (λ x. x) tied_negative (tied_enter k.Plus (tree.Sign Plus) TU tied_post refl refl) refl refl)
      refl refl refl

  pub tied_product_turn : Tied true (Seq (Map (λ t. product_sign_of t.kind) (One PRODUCT_SIGNS)) (Unary l)) (Seq (Map (λ t. product_sign_of t.kind) (One PRODUCT_SIGNS)) (Unary l')) (product_turn m) (product_turn m') (seq_shape (one_shape PRODUCT_SIGNS) unary_shape)
  unfolding product_turn
  tied_product_turn = tied_seq (tied_map (λ t. product_sign_of t.kind) (tied_one k.Star (k.Slash ∷ k.Percent ∷ []))) tied_unary refl

  pub tied_product : Tied true (Product l) (Product l') (product m) (product m') product_shape
  unfolding Product product product_more
  tied_product = tied_within product_shape (tied_map (chained tree.Prod) (tied_chain PRODUCT_SIGNS tied_unary tied_product_turn refl refl refl refl)) refl refl refl

  pub tied_sum_turn : Tied true (Seq (Map (λ t. sum_sign_of t.kind) (One SUM_SIGNS)) (Product l)) (Seq (Map (λ t. sum_sign_of t.kind) (One SUM_SIGNS)) (Product l')) (sum_turn m) (sum_turn m') (seq_shape (one_shape SUM_SIGNS) product_shape)
  unfolding sum_turn
  tied_sum_turn = tied_seq (tied_map (λ t. sum_sign_of t.kind) (tied_one k.Plus (k.Minus ∷ []))) tied_product refl

  pub tied_sum : Tied true (Sum l) (Sum l') (sum m) (sum m') sum_shape
  unfolding Sum sum sum_more
  tied_sum = tied_within sum_shape (tied_map (chained tree.Sum) (tied_chain SUM_SIGNS tied_product tied_sum_turn refl refl refl refl)) refl refl refl

  pub tied_test : Tied true (Test l) (Test l') (test_behind m) (test_behind m') test_shape
  unfolding Test test_behind null_test
  tied_test = tied_within test_shape
      (tied_alt (k.In ∷ []) (tied_map test.OneOf (tied_after k.In [] tied_sum))
      (tied_alt (k.Starts ∷ []) (tied_map test.Starts (tied_after k.Starts [] (tied_after k.With [] tied_sum)))
      (tied_alt (k.Ends ∷ []) (tied_map test.Ends (tied_after k.Ends [] (tied_after k.With [] tied_sum)))
      (tied_alt (k.Contains ∷ []) (tied_map test.Contains (tied_after k.Contains [] tied_sum))
      (tied_after k.Is [] (tied_alt (k.Not ∷ []) (tied_after k.Not [] (tied_map (λ t. test.IsNotNull) (tied_one k.Null []))) (tied_map (λ t. test.IsNull) (tied_one k.Null [])) refl refl refl))
      refl refl refl) refl refl refl) refl refl refl) refl refl refl)
      refl refl refl

  pub tied_predicate : Tied true (Predicate l) (Predicate l') (predicate m) (predicate m') predicate_shape
  unfolding Predicate predicate predicate_more
  tied_predicate = tied_within predicate_shape (tied_map (chained tree.Pred) (tied_chain PREDICATE_WORDS tied_sum tied_test refl refl refl refl)) refl refl refl

  pub tied_comparison_turn : Tied true (Seq (Map (λ t. comparison_of t.kind) (One COMPARISONS)) (Predicate l)) (Seq (Map (λ t. comparison_of t.kind) (One COMPARISONS)) (Predicate l')) (comparison_turn m) (comparison_turn m') (seq_shape (one_shape COMPARISONS) predicate_shape)
  unfolding comparison_turn
  tied_comparison_turn = tied_seq (tied_map (λ t. comparison_of t.kind) (tied_one k.Equal (k.NotEqual ∷ k.Less ∷ k.LessOrEqual ∷ k.Greater ∷ k.GreaterOrEqual ∷ []))) tied_predicate refl

  pub tied_comparison : Tied true (Comparison l) (Comparison l') (comparison m) (comparison m') comparison_shape
  unfolding Comparison comparison comparison_more
  tied_comparison = tied_within comparison_shape (tied_map (chained tree.Cmp) (tied_chain COMPARISONS tied_predicate tied_comparison_turn refl refl refl refl)) refl refl refl

  pub tied_negation : Tied true (Not l) (Not l') (negation m) (negation m') not_shape
  unfolding Not negation
  tied_negation = tied_within not_shape (tied_enter k.Not tree.Not TN tied_comparison refl refl) refl refl refl

  pub tied_conjunction : Tied true (And l) (And l') (conjunction m) (conjunction m') and_shape
  unfolding And conjunction conjunction_more
  tied_conjunction = tied_within and_shape (tied_map (joined tree.And) (tied_chain (k.And ∷ []) tied_negation (tied_after k.And [] tied_negation) refl refl refl refl)) refl refl refl

  pub tied_exclusive : Tied true (Xor l) (Xor l') (exclusive m) (exclusive m') xor_shape
  unfolding Xor exclusive exclusive_more
  tied_exclusive = tied_within xor_shape (tied_map (joined tree.Xor) (tied_chain (k.Xor ∷ []) tied_conjunction (tied_after k.Xor [] tied_conjunction) refl refl refl refl)) refl refl refl

  pub tied_disjunction : Tied true (Or l) (Or l') (disjunction m) (disjunction m') or_shape
  unfolding Or disjunction disjunction_more
  tied_disjunction = tied_within or_shape (tied_map (joined tree.Or) (tied_chain (k.Or ∷ []) tied_exclusive (tied_after k.Or [] tied_exclusive) refl refl refl refl)) refl refl refl
