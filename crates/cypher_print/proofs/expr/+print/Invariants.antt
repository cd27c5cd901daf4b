use Rattle.std.proofs.Common.{◌≡◌, ◌∷◌, drop}
use Rattle.std.specs.List.{flat_map}
use Rattle.cypher_syntax.specs.declared.tree.expr.Expr.{Expr}
use Rattle.cypher_syntax.specs.declared.tree.operators.CmpOp.{CmpOp}
use Rattle.cypher_syntax.specs.declared.tree.operators.SumOp.{SumOp}
use Rattle.cypher_syntax.specs.declared.tree.operators.ProdOp.{ProdOp}
use Rattle.cypher_print.specs.Pieces.{written, cmp_text, sum_text, prod_text}
use Rattle.cypher_print.specs.Printed.{expr, post, pred, branch}
use Rattle.cypher_print.proofs.expr.+print.Given as goal

abbrev pub invariant-listed-loop-e : goal.invariant-listed-loop-e
invariant-listed-loop-e l = written l.out (flat_map (λ (e : Expr). l.separator ∷ expr e l.need) (drop l.e-index l.rest)) ≡ written l.initial.out (flat_map (λ (e : Expr). l.separator ∷ expr e l.need) l.rest)

abbrev pub invariant-compared-loop-p : goal.invariant-compared-loop-p
invariant-compared-loop-p l = written l.out (flat_map (λ (p : CmpOp × Expr). cmp_text p.0 ∷ expr p.1 5) (drop l.p-index l.rest)) ≡ written l.fn.out (flat_map (λ (p : CmpOp × Expr). cmp_text p.0 ∷ expr p.1 5) l.rest)

abbrev pub invariant-added-loop-p : goal.invariant-added-loop-p
invariant-added-loop-p l = written l.out (flat_map (λ (p : SumOp × Expr). sum_text p.0 ∷ expr p.1 7) (drop l.p-index l.rest)) ≡ written l.fn.out (flat_map (λ (p : SumOp × Expr). sum_text p.0 ∷ expr p.1 7) l.rest)

abbrev pub invariant-multiplied-loop-p : goal.invariant-multiplied-loop-p
invariant-multiplied-loop-p l = written l.out (flat_map (λ (p : ProdOp × Expr). prod_text p.0 ∷ expr p.1 8) (drop l.p-index l.rest)) ≡ written l.fn.out (flat_map (λ (p : ProdOp × Expr). prod_text p.0 ∷ expr p.1 8) l.rest)

abbrev pub invariant-branches-loop-when : goal.invariant-branches-loop-when
invariant-branches-loop-when l = written l.out (flat_map branch (drop l.when-index l.whens)) ≡ written l.fn.out (flat_map branch l.whens)

abbrev pub invariant-tests-loop-t : goal.invariant-tests-loop-t
invariant-tests-loop-t l = written l.out (flat_map pred (drop l.t-index l.tests)) ≡ written l.fn.out (flat_map pred l.tests)

abbrev pub invariant-posts-loop-a : goal.invariant-posts-loop-a
invariant-posts-loop-a l = written l.out (flat_map post (drop l.a-index l.posts)) ≡ written l.fn.out (flat_map post l.posts)
