-- The value of a node by those of its parts.
use Rattle.std.proofs.Common.{◌≡◌, List, Option, Some, None, sym, ap, ◌∙◌}
use Rattle.cypher_syntax.specs.declared.tree.expr.Expr.{Expr, fold-roll-Expr}
use Rattle.cypher_syntax.specs.declared.tree.expr.Expr.TheOpen.{Expr-F}
use Rattle.cypher_syntax.specs.declared.tree.expr.Expr.TheVariants as e
use Rattle.cypher_syntax.specs.declared.tree.operators.CmpOp.{CmpOp}
use Rattle.cypher_syntax.specs.declared.tree.operators.ProdOp.{ProdOp}
use Rattle.cypher_syntax.specs.declared.tree.operators.SumOp.{SumOp}
use Rattle.graph_record.specs.Graph.{Graph}
use Rattle.graph_value.specs.declared.value.Value.{Value}
use Rattle.expr_eval.specs.Eval.{Step, expr_level, post_level, pred_level, eval_of, compared_of, summed_of, multiplied_of, optional_of, chosen_of, otherwise_of}
use Rattle.expr_eval.specs.Outcome.{Outcome, and_then}
use Rattle.expr_eval.specs.Row.{Row}

pub eval_cmp : (g : Graph) (row : Row) (x : Expr) (xs : List (CmpOp × Expr)) → eval_of g row (e.Cmp x xs) ≡ and_then (eval_of g row x) (λ v. compared_of g row v xs)
eval_cmp g row x xs =
    ap (eval_of g row) (sym (e.rolls-Cmp x xs))
    ∙ fold-roll-Expr (Outcome Value) Step Step (expr_level g row) (post_level g) pred_level (Expr-F.Cmp x xs)

pub eval_sum : (g : Graph) (row : Row) (x : Expr) (xs : List (SumOp × Expr)) → eval_of g row (e.Sum x xs) ≡ and_then (eval_of g row x) (λ v. summed_of g row v xs)
eval_sum g row x xs =
    ap (eval_of g row) (sym (e.rolls-Sum x xs))
    ∙ fold-roll-Expr (Outcome Value) Step Step (expr_level g row) (post_level g) pred_level (Expr-F.Sum x xs)

pub eval_prod : (g : Graph) (row : Row) (x : Expr) (xs : List (ProdOp × Expr)) → eval_of g row (e.Prod x xs) ≡ and_then (eval_of g row x) (λ v. multiplied_of g row v xs)
eval_prod g row x xs =
    ap (eval_of g row) (sym (e.rolls-Prod x xs))
    ∙ fold-roll-Expr (Outcome Value) Step Step (expr_level g row) (post_level g) pred_level (Expr-F.Prod x xs)

pub eval_case : (g : Graph) (row : Row) (of : Option Expr) (ws : List (Expr × Expr)) (other : Option Expr)
    → eval_of g row (e.Case of ws other) ≡ and_then (optional_of g row of) (λ first. and_then (chosen_of g row first ws) (λ v. otherwise_of g row v other))
eval_case g row None ws None =
    ap (eval_of g row) (sym (e.rolls-Case None ws None))
    ∙ fold-roll-Expr (Outcome Value) Step Step (expr_level g row) (post_level g) pred_level (Expr-F.Case None ws None)
eval_case g row None ws (Some b) =
    ap (eval_of g row) (sym (e.rolls-Case None ws (Some b)))
    ∙ fold-roll-Expr (Outcome Value) Step Step (expr_level g row) (post_level g) pred_level (Expr-F.Case None ws (Some b))
eval_case g row (Some a) ws None =
    ap (eval_of g row) (sym (e.rolls-Case (Some a) ws None))
    ∙ fold-roll-Expr (Outcome Value) Step Step (expr_level g row) (post_level g) pred_level (Expr-F.Case (Some a) ws None)
eval_case g row (Some a) ws (Some b) =
    ap (eval_of g row) (sym (e.rolls-Case (Some a) ws (Some b)))
    ∙ fold-roll-Expr (Outcome Value) Step Step (expr_level g row) (post_level g) pred_level (Expr-F.Case (Some a) ws (Some b))
