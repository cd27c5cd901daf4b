-- The rules of expressions at each number of levels.
use Rattle.std.proofs.Common.{◌≡◌, ℕ, zero, suc, Bool, true, false, [], ◌∷◌, refl}
use Rattle.std.proofs.lemmas.Bool.{false≢true}
use Rattle.cypher_syntax.specs.declared.tree.expr.Expr.{Expr}
use Rattle.cypher_parse.specs.declared.kind.Kind.TheVariants as k
use Rattle.cypher_parse.specs.declared.kinds.TheConstants.{COMPARISONS, PRODUCT_SIGNS, SUM_SIGNS, LITERALS}
use Rattle.cypher_parse.specs.Kinds.{subset}
use Rattle.cypher_parse.specs.Words.{comparison_of, sum_sign_of, product_sign_of}
use Rattle.cypher_parse.specs.Languages.{Lang, One, Seq, Map, After}
use Rattle.cypher_parse.specs.Parsers.{Parser}
use Rattle.cypher_parse.specs.Expressions.{Inside, Literal, Tests, Step, Unary, Product, Test, Predicate, Not, And, Xor, Or, Nothing, At}
use Rattle.cypher_parse.specs.ExpressionParsers.{Inner, literal, when, turn, unary, product_turn, sum_turn, test_behind, comparison_turn, negation, conjunction, exclusive, disjunction, nothing, at}
use Rattle.cypher_parse.proofs.Exact.{Shape, Exact, one_shape, seq_shape}
use Rattle.cypher_parse.proofs.Tied.{Tied, tied_within, tied_after, tied_seq}
use Rattle.cypher_parse.proofs.Expressions.{or_shape, xor_shape, and_shape, not_shape, predicate_shape, product_shape, unary_shape, test_shape, turn_shape, when_shape, tied_literal, tied_turn, tied_unary, tied_product_turn, tied_sum_turn, tied_test, tied_comparison_turn, tied_negation, tied_conjunction, tied_exclusive, tied_disjunction}

-- what is needed of a level and the next
pub record Rules (l l' : Inside) (m m' : Inner) : Type 0 where
  pub or : Tied true (Or l) (Or l') (disjunction m) (disjunction m') or_shape
  pub xor : Tied true (Xor l) (Xor l') (exclusive m) (exclusive m') xor_shape
  pub and : Tied true (And l) (And l') (conjunction m) (conjunction m') and_shape
  pub not : Tied true (Not l) (Not l') (negation m) (negation m') not_shape
  pub unary : Tied true (Unary l) (Unary l') (unary m) (unary m') unary_shape
  pub comparison_turn : Tied true (Seq (Map (λ t. comparison_of t.kind) (One COMPARISONS)) (Predicate l)) (Seq (Map (λ t. comparison_of t.kind) (One COMPARISONS)) (Predicate l')) (comparison_turn m) (comparison_turn m') (seq_shape (one_shape COMPARISONS) predicate_shape)
  pub sum_turn : Tied true (Seq (Map (λ t. sum_sign_of t.kind) (One SUM_SIGNS)) (Product l)) (Seq (Map (λ t. sum_sign_of t.kind) (One SUM_SIGNS)) (Product l')) (sum_turn m) (sum_turn m') (seq_shape (one_shape SUM_SIGNS) product_shape)
  pub product_turn : Tied true (Seq (Map (λ t. product_sign_of t.kind) (One PRODUCT_SIGNS)) (Unary l)) (Seq (Map (λ t. product_sign_of t.kind) (One PRODUCT_SIGNS)) (Unary l')) (product_turn m) (product_turn m') (seq_shape (one_shape PRODUCT_SIGNS) unary_shape)
  pub test : Tied true (Test l) (Test l') (test_behind m) (test_behind m') test_shape
  pub turn : Tied true (Map (λ p. p.0 ∷ p.1) (Seq (Step l) Tests)) (Map (λ p. p.0 ∷ p.1) (Seq (Step l') Tests)) (turn m) (turn m') turn_shape

module _ (b : Bool) (E E' N N' U U' : Lang Expr) (e e' n n' u u' : Parser Expr) (TE : Tied b E E' e e' or_shape) (TN : Tied b N N' n n' not_shape) (TU : Tied b U U' u u' unary_shape) where
  rules_of : Rules (record { left = b; expr = E; not = N; unary = U }) (record { left = true; expr = E'; not = N'; unary = U' }) (record { left = b; expr = e; not = n; unary = u }) (record { left = true; expr = e'; not = n'; unary = u' })
  rules_of = record {
    or = tied_disjunction b E E' N N' U U' e e' n n' u u' TE TN TU;
    xor = tied_exclusive b E E' N N' U U' e e' n n' u u' TE TN TU;
    and = tied_conjunction b E E' N N' U U' e e' n n' u u' TE TN TU;
    not = tied_negation b E E' N N' U U' e e' n n' u u' TE TN TU;
    unary = tied_unary b E E' N N' U U' e e' n n' u u' TE TN TU;
    comparison_turn = tied_comparison_turn b E E' N N' U U' e e' n n' u u' TE TN TU;
    sum_turn = tied_sum_turn b E E' N N' U U' e e' n n' u u' TE TN TU;
    product_turn = tied_product_turn b E E' N N' U U' e e' n n' u u' TE TN TU;
    test = tied_test b E E' N N' U U' e e' n n' u u' TE TN TU;
    turn = tied_turn b E E' N N' U U' e e' n n' u u' TE TN TU;
  }

-- where no level is left, nothing is asked of the first
no_level : {L : Lang Expr} {p : Parser Expr} {s : Shape} → Exact L p s → Tied false Nothing L nothing p s
no_level E = record { high = E; low = λ h. absurd (false≢true h); deeper = λ h. absurd (false≢true h); opens = λ h. absurd (false≢true h) }

literals : (s : Shape) → subset (one_shape LITERALS).first s.first ≡ true → subset [] s.more ≡ true → Tied false Nothing Literal nothing literal s
literals s first more = no_level (tied_within {b = true} s tied_literal first refl more).high

-- without a level: the deeper language may be any
lowest : Rules (At zero) (record { left = true; expr = Literal; not = Literal; unary = Literal }) (at zero) (record { left = true; expr = literal; not = literal; unary = literal })
unfolding At at
lowest = rules_of false Nothing Literal Nothing Literal Nothing Literal nothing literal nothing literal nothing literal (literals or_shape refl refl) (literals not_shape refl refl) (literals unary_shape refl refl)

pub rules : (n : ℕ) → Rules (At n) (At (suc n)) (at n) (at (suc n))
unfolding At at
rules zero = rules_of false Nothing (Or (At 0)) Nothing (Not (At 0)) Nothing (Unary (At 0)) nothing (disjunction (at 0)) nothing (negation (at 0)) nothing (unary (at 0))
    (no_level (lowest.or.low refl)) (no_level (lowest.not.low refl)) (no_level (lowest.unary.low refl))
rules (suc n) = let below = rules n in
    rules_of true (Or (At n)) (Or (At (suc n))) (Not (At n)) (Not (At (suc n))) (Unary (At n)) (Unary (At (suc n))) (disjunction (at n)) (disjunction (at (suc n))) (negation (at n)) (negation (at (suc n))) (unary (at n)) (unary (at (suc n))) below.or below.not below.unary

pub when_at : (n : ℕ) → Tied true (Seq (After (k.When ∷ []) (Or (At n))) (After (k.Then ∷ []) (Or (At n)))) (Seq (After (k.When ∷ []) (Or (At (suc n)))) (After (k.Then ∷ []) (Or (At (suc n))))) (when (disjunction (at n))) (when (disjunction (at (suc n)))) when_shape
unfolding when
when_at n = let level = rules n in tied_seq (tied_after k.When [] level.or) (tied_after k.Then [] level.or) refl
