-- Expressions whose values are known.
use Rattle.std.proofs.Common.{◌≡◌, ℤ, pos, negsuc, [], ◌∷◌, Ok, Err, refl}
use Rattle.graph_value.specs.declared.value.Value.{Value}
use Rattle.graph_value.specs.declared.value.Value.TheVariants as value
use Rattle.graph_value.proofs.Levels.{int_level}
use Rattle.cypher_syntax.specs.declared.tree.expr.Expr as exprs
use Rattle.cypher_syntax.specs.declared.tree.expr.Expr.{Expr, fold-roll-Expr}
use Rattle.cypher_syntax.specs.declared.tree.expr.Expr.TheVariants as e
use Rattle.cypher_syntax.specs.declared.tree.expr.Expr.TheOpen.{Expr-F}
use Rattle.cypher_syntax.specs.declared.tree.operators.ProdOp.TheVariants.{Over, Rest}
use Rattle.cypher_syntax.specs.declared.tree.operators.SumOp.TheVariants.{Plus}
use Rattle.graph_record.specs.Graph.{Graph}
use Rattle.expr_eval.specs.declared.refused.EvalRefused.TheVariants.{Overflow, ZeroDivisor}
use Rattle.expr_eval.specs.Eval.{Step, expr_level, post_level, pred_level, eval_of}
use Rattle.expr_eval.specs.Numbers.{summed, multiplied}
use Rattle.expr_eval.specs.Outcome.{Outcome}
use Rattle.expr_eval.specs.Row.{Row}
use Rattle.expr_eval.proofs.Nodes.{eval_sum, eval_prod}

eval_lit : (g : Graph) (row : Row) (v : Value) → eval_of g row (e.Lit v) ≡ Ok v
unfolding exprs.roll-Expr exprs.out-Expr denote.Hole.Carrier.roll
eval_lit g row v = fold-roll-Expr (Outcome Value) Step Step (expr_level g row) (post_level g) pred_level (Expr-F.Lit v)

abbrev int : ℤ → Expr
int n = e.Lit (value.Int n)

-- -9223372036854775808 % -1
least_rest : (g : Graph) (row : Row) → eval_of g row (e.Prod (int (negsuc 9223372036854775807)) ((Rest, int (negsuc 0)) ∷ [])) ≡ Ok (value.Int (pos 0))
unfolding multiplied
least_rest g row =
    rw (
      eval_prod g row (int (negsuc 9223372036854775807)) ((Rest, int (negsuc 0)) ∷ []),
      eval_lit g row (value.Int (negsuc 9223372036854775807)),
      eval_lit g row (value.Int (negsuc 0)),
      int_level (negsuc 9223372036854775807),
      int_level (negsuc 0),
    ) refl

-- 1 / 0
no_divisor : (g : Graph) (row : Row) → eval_of g row (e.Prod (int (pos 1)) ((Over, int (pos 0)) ∷ [])) ≡ Err ZeroDivisor
unfolding multiplied
no_divisor g row =
    rw (
      eval_prod g row (int (pos 1)) ((Over, int (pos 0)) ∷ []),
      eval_lit g row (value.Int (pos 1)),
      eval_lit g row (value.Int (pos 0)),
      int_level (pos 1),
      int_level (pos 0),
    ) refl

-- 9223372036854775807 + 1
too_great : (g : Graph) (row : Row) → eval_of g row (e.Sum (int (pos 9223372036854775807)) ((Plus, int (pos 1)) ∷ [])) ≡ Err Overflow
unfolding summed
too_great g row =
    rw (
      eval_sum g row (int (pos 9223372036854775807)) ((Plus, int (pos 1)) ∷ []),
      eval_lit g row (value.Int (pos 9223372036854775807)),
      eval_lit g row (value.Int (pos 1)),
      int_level (pos 9223372036854775807),
      int_level (pos 1),
    ) refl
