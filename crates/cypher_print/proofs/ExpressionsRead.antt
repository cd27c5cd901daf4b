-- A printed expression is read as that expression.
use Rattle.std.proofs.Common.{ℕ, zero, suc, ◌≤◌, arith}
use Rattle.std.proofs.lemmas.Bool.{false≢true}
use Rattle.cypher_syntax.specs.declared.tree.expr.Expr.{Expr}
use Rattle.cypher_parse.specs.Expressions.{Inside, Not, Or, At, Expression}
use Rattle.cypher_print.specs.Sentences.{IsReadIn}
use Rattle.cypher_print.proofs.Holds.{Holds, weaker}
use Rattle.cypher_print.proofs.PlacedRead.{Ready, at_level}
use Rattle.cypher_print.proofs.InsideRead.{Within, WithinAt, Opened}
use Rattle.cypher_print.proofs.AtomsRead.{atoms_ready}
use Rattle.cypher_print.proofs.StepsRead.{post_ready}
use Rattle.cypher_print.proofs.SignsRead.{unary_ready, negation_ready}
use Rattle.cypher_print.proofs.TestsRead.{test_ready}
use Rattle.cypher_print.proofs.OperatorsRead.{product_ready, sum_ready, predicate_ready, comparison_ready, and_ready, xor_ready, or_ready}
use Rattle.cypher_parse.specs.Expressions.{Unary, Sum}

module _ (n : ℕ) (l : Inside) (o : Opened n l) where
  unary : Holds (Unary l) (Ready 8 n)
  unary = unary_ready n l o (post_ready n l o (atoms_ready n l o))

  sum : Holds (Sum l) (Ready 6 n)
  sum = sum_ready n l (product_ready n l unary)

  negation : Holds (Not l) (Ready 3 n)
  negation = negation_ready n l o (comparison_ready n l (predicate_ready n l sum (test_ready n l sum)))

  disjunction : Holds (Or l) (Ready 0 n)
  disjunction = or_ready n l (xor_ready n l (and_ready n l negation))

within : (n : ℕ) (x : Expr) → Ready 0 n x → Within (suc n) x
within n x r m more = let far : n ≤ m = omega (arith, more) in r.bare m far

within_at : (level n : ℕ) (x : Expr) → level ≤ 10 → Ready level n x → WithinAt level (suc n) x
within_at level n x top r m more = let far : n ≤ m = omega (arith, more) in at_level level n m x top far r

opened : (n : ℕ) → Opened n (At n)
unfolding At
opened zero = record {
  some = λ h. absurd (false≢true h);
  operand = record { holds = λ ts x real l. absurd l };
  negated = record { holds = λ ts x real l. absurd l };
  signed = record { holds = λ ts x real l. absurd l };
}
opened (suc n) = record {
  some = λ h. omega arith;
  operand = weaker (within n) (disjunction n (At n) (opened n));
  negated = weaker (λ x. within_at 3 n x (omega arith)) (negation n (At n) (opened n));
  signed = weaker (λ x. within_at 8 n x (omega arith)) (unary n (At n) (opened n));
}

-- what a text's tokens give is read from its printed form, and no more tokens are open at once there
pub expressions : (n : ℕ) → Holds (Expression n) (IsReadIn (Expression n))
expressions n = weaker (λ x r. (at_level 0 n n x (omega arith) (omega arith) r).reads) (disjunction n (At n) (opened n))
