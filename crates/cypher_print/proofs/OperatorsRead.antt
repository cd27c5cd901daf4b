-- Printed operators between operands are read with these operands.
use Rattle.std.proofs.Common.{ℕ, ◌≤◌, [], ◌∷◌, codes, refl, ap, arith}
use Rattle.cypher_syntax.specs.declared.tree.expr.Expr.{Expr}
use Rattle.cypher_syntax.specs.declared.tree.expr.Expr.TheVariants as tree
use Rattle.cypher_syntax.specs.declared.tree.expr.PredOp.{PredOp}
use Rattle.cypher_syntax.specs.declared.tree.operators.CmpOp.{CmpOp}
use Rattle.cypher_syntax.specs.declared.tree.operators.CmpOp.TheVariants as cmp
use Rattle.cypher_syntax.specs.declared.tree.operators.SumOp.{SumOp}
use Rattle.cypher_syntax.specs.declared.tree.operators.SumOp.TheVariants as sum
use Rattle.cypher_syntax.specs.declared.tree.operators.ProdOp.{ProdOp}
use Rattle.cypher_syntax.specs.declared.tree.operators.ProdOp.TheVariants as prod
use Rattle.cypher_parse.specs.declared.kind.Kind.TheVariants as k
use Rattle.cypher_parse.specs.declared.kinds.TheConstants.{COMPARISONS, PRODUCT_SIGNS, SUM_SIGNS}
use Rattle.cypher_parse.specs.Words.{comparison_of, sum_sign_of, product_sign_of}
use Rattle.cypher_parse.specs.Languages.{One, Seq, Map, After}
use Rattle.cypher_parse.specs.Expressions.{Inside, joined, chained, Unary, Product, Sum, Test, Predicate, Comparison, Not, And, Xor, Or, At}
use Rattle.cypher_print.specs.Pieces.{cmp_text, sum_text, prod_text}
use Rattle.cypher_print.specs.Printed.{level_at, expr, pred}
use Rattle.cypher_print.proofs.PrintLemmas.{print-Or, print-Xor, print-And, print-Cmp, print-Pred, print-Sum, print-Prod}
use Rattle.cypher_print.proofs.Holds.{Holds, anything, of_seq, of_after}
use Rattle.cypher_print.proofs.PiecesRead.{Read, Apart, begins, seq_sure, after_sure}
use Rattle.cypher_print.proofs.PlacedRead.{Ready, at_level}
use Rattle.cypher_print.proofs.ChainsRead.{chain}
use Rattle.cypher_print.proofs.OperatorSigns.{comparison, sum_sign, product_sign}
use Rattle.cypher_print.proofs.ExpressionWords.{or_word, xor_word, and_word}

-- a test behind an operand, wherever so many tokens may be open at once as at n
abbrev pub ReadyTest : ℕ → PredOp → Type 0
ReadyTest n t = Apart (pred t) × ((m : ℕ) → n ≤ m → Read (Test (At m)) t (pred t))

apart_comparison : (op : CmpOp) (x : Expr) → Apart (cmp_text op ∷ expr x 5)
apart_comparison cmp.Eq x = begins 32 (codes "= ") (expr x 5) refl
apart_comparison cmp.Ne x = begins 32 (codes "<> ") (expr x 5) refl
apart_comparison cmp.Lt x = begins 32 (codes "< ") (expr x 5) refl
apart_comparison cmp.Le x = begins 32 (codes "<= ") (expr x 5) refl
apart_comparison cmp.Gt x = begins 32 (codes "> ") (expr x 5) refl
apart_comparison cmp.Ge x = begins 32 (codes ">= ") (expr x 5) refl

apart_sum : (op : SumOp) (x : Expr) → Apart (sum_text op ∷ expr x 7)
apart_sum sum.Plus x = begins 32 (codes "+ ") (expr x 7) refl
apart_sum sum.Minus x = begins 32 (codes "- ") (expr x 7) refl

apart_product : (op : ProdOp) (x : Expr) → Apart (prod_text op ∷ expr x 8)
apart_product prod.Times x = begins 32 (codes "* ") (expr x 8) refl
apart_product prod.Over x = begins 32 (codes "/ ") (expr x 8) refl
apart_product prod.Rest x = begins 32 (codes "% ") (expr x 8) refl

module _ (n : ℕ) (l : Inside) where
  pub product_ready : Holds (Unary l) (Ready 8 n) → Holds (Product l) (Ready 7 n)
  unfolding Product
  product_ready first =
      chain 7 (omega arith) (ProdOp × Expr) (λ l. Seq (Map (λ t. product_sign_of t.kind) (One PRODUCT_SIGNS)) (Unary l)) (chained tree.Prod) (λ p. prod_text p.0 ∷ expr p.1 8)
      (λ a. refl) (λ a b bs. ap level_at (tree.outs-Prod a (b ∷ bs))) (λ a b bs. print-Prod a (b ∷ bs)) (λ l ts x u. u)
      n l (λ p. Unit {0} × Ready 8 n p.1) (λ p g m more. seq_sure (product_sign p.0) (at_level 8 n m p.1 (omega arith) more g.1)) (λ p g. apart_product p.0 p.1)
      first (of_seq anything first)

  pub sum_ready : Holds (Product l) (Ready 7 n) → Holds (Sum l) (Ready 6 n)
  unfolding Sum
  sum_ready first =
      chain 6 (omega arith) (SumOp × Expr) (λ l. Seq (Map (λ t. sum_sign_of t.kind) (One SUM_SIGNS)) (Product l)) (chained tree.Sum) (λ p. sum_text p.0 ∷ expr p.1 7)
      (λ a. refl) (λ a b bs. ap level_at (tree.outs-Sum a (b ∷ bs))) (λ a b bs. print-Sum a (b ∷ bs)) (λ l ts x u. u)
      n l (λ p. Unit {0} × Ready 7 n p.1) (λ p g m more. seq_sure (sum_sign p.0) (at_level 7 n m p.1 (omega arith) more g.1)) (λ p g. apart_sum p.0 p.1)
      first (of_seq anything first)

  pub predicate_ready : Holds (Sum l) (Ready 6 n) → Holds (Test l) (ReadyTest n) → Holds (Predicate l) (Ready 5 n)
  unfolding Predicate
  predicate_ready first next =
      chain 5 (omega arith) PredOp Test (chained tree.Pred) pred
      (λ a. refl) (λ a b bs. ap level_at (tree.outs-Pred a (b ∷ bs))) (λ a b bs. print-Pred a (b ∷ bs)) (λ l ts x u. u)
      n l (ReadyTest n) (λ t g. g.1) (λ t g. g.0)
      first next

  pub comparison_ready : Holds (Predicate l) (Ready 5 n) → Holds (Comparison l) (Ready 4 n)
  unfolding Comparison
  comparison_ready first =
      chain 4 (omega arith) (CmpOp × Expr) (λ l. Seq (Map (λ t. comparison_of t.kind) (One COMPARISONS)) (Predicate l)) (chained tree.Cmp) (λ p. cmp_text p.0 ∷ expr p.1 5)
      (λ a. refl) (λ a b bs. ap level_at (tree.outs-Cmp a (b ∷ bs))) (λ a b bs. print-Cmp a (b ∷ bs)) (λ l ts x u. u)
      n l (λ p. Unit {0} × Ready 5 n p.1) (λ p g m more. seq_sure (comparison p.0) (at_level 5 n m p.1 (omega arith) more g.1)) (λ p g. apart_comparison p.0 p.1)
      first (of_seq anything first)

  pub and_ready : Holds (Not l) (Ready 3 n) → Holds (And l) (Ready 2 n)
  unfolding And
  and_ready first =
      chain 2 (omega arith) Expr (λ l. After (k.And ∷ []) (Not l)) (joined tree.And) (λ x. codes " AND " ∷ expr x 3)
      (λ a. refl) (λ a b bs. ap level_at (tree.outs-And (a ∷ b ∷ bs))) (λ a b bs. print-And (a ∷ b ∷ bs)) (λ l ts x u. u)
      n l (Ready 3 n) (λ x g m more. after_sure and_word (at_level 3 n m x (omega arith) more g)) (λ x g. begins 32 (codes "AND ") (expr x 3) refl)
      first (of_after (k.And ∷ []) first)

  pub xor_ready : Holds (And l) (Ready 2 n) → Holds (Xor l) (Ready 1 n)
  unfolding Xor
  xor_ready first =
      chain 1 (omega arith) Expr (λ l. After (k.Xor ∷ []) (And l)) (joined tree.Xor) (λ x. codes " XOR " ∷ expr x 2)
      (λ a. refl) (λ a b bs. ap level_at (tree.outs-Xor (a ∷ b ∷ bs))) (λ a b bs. print-Xor (a ∷ b ∷ bs)) (λ l ts x u. u)
      n l (Ready 2 n) (λ x g m more. after_sure xor_word (at_level 2 n m x (omega arith) more g)) (λ x g. begins 32 (codes "XOR ") (expr x 2) refl)
      first (of_after (k.Xor ∷ []) first)

  pub or_ready : Holds (Xor l) (Ready 1 n) → Holds (Or l) (Ready 0 n)
  unfolding Or
  or_ready first =
      chain 0 (omega arith) Expr (λ l. After (k.Or ∷ []) (Xor l)) (joined tree.Or) (λ x. codes " OR " ∷ expr x 1)
      (λ a. refl) (λ a b bs. ap level_at (tree.outs-Or (a ∷ b ∷ bs))) (λ a b bs. print-Or (a ∷ b ∷ bs)) (λ l ts x u. u)
      n l (Ready 1 n) (λ x g m more. after_sure or_word (at_level 1 n m x (omega arith) more g)) (λ x g. begins 32 (codes "OR ") (expr x 1) refl)
      first (of_after (k.Or ∷ []) first)
