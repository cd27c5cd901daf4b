use Rattle.std.proofs.Common.{◌∙◌, ◌++◌, ap, refl}
use Rattle.std.specs.List.{flat_map}
use Rattle.cypher_check.specs.Marks.{expr_marks, pred_marks, post_marks, pair_marks, optional_marks, aggregate_marks, inner}
use Rattle.cypher_check.specs.Faults.{first_fault, refusal_of, refused}
use Rattle.cypher_check.proofs.Walks.{found, passed, goes_on, stays, both_none, first_some, listed, marks-Agg, marks-Case, marks-Cmp, marks-Sum, marks-Prod, marks-Pred, marks-Post}
use Rattle.cypher_check.proofs.names.expr.+names.Goals as goal

pub exprs-returns-in-Some : goal.exprs-returns-in-Some
exprs-returns-in-Some t c =
    found (λ e. expr_marks e c.args.place) c.args.scope.now c.args.items.now c.loop-e.e-index c.e-item.result (refusal_of c.in-Some.fault)
    c.loop-e-test.true c.e-item.is c.loop-e.invariant c.in-Some.ensures

pub exprs-loop-e-preserved : goal.exprs-loop-e-preserved
exprs-loop-e-preserved t c =
    passed (λ e. expr_marks e c.args.place) c.args.scope.now c.args.items.now c.loop-e.e-index c.e-item.result
    c.loop-e-test.true c.e-item.is c.loop-e.invariant c.in_default.ensures

pub compared-returns-in-Some : goal.compared-returns-in-Some
compared-returns-in-Some t c =
    found (λ p. expr_marks p.1 c.args.place) c.args.scope.now c.args.rest.now c.loop-p.p-index c.p-item.result (refusal_of c.in-Some.fault)
    c.loop-p-test.true c.p-item.is c.loop-p.invariant c.in-Some.ensures

pub compared-loop-p-preserved : goal.compared-loop-p-preserved
compared-loop-p-preserved t c =
    passed (λ p. expr_marks p.1 c.args.place) c.args.scope.now c.args.rest.now c.loop-p.p-index c.p-item.result
    c.loop-p-test.true c.p-item.is c.loop-p.invariant c.in_default.ensures

pub added-returns-in-Some : goal.added-returns-in-Some
added-returns-in-Some t c =
    found (λ p. expr_marks p.1 c.args.place) c.args.scope.now c.args.rest.now c.loop-p.p-index c.p-item.result (refusal_of c.in-Some.fault)
    c.loop-p-test.true c.p-item.is c.loop-p.invariant c.in-Some.ensures

pub added-loop-p-preserved : goal.added-loop-p-preserved
added-loop-p-preserved t c =
    passed (λ p. expr_marks p.1 c.args.place) c.args.scope.now c.args.rest.now c.loop-p.p-index c.p-item.result
    c.loop-p-test.true c.p-item.is c.loop-p.invariant c.in_default.ensures

pub multiplied-returns-in-Some : goal.multiplied-returns-in-Some
multiplied-returns-in-Some t c =
    found (λ p. expr_marks p.1 c.args.place) c.args.scope.now c.args.rest.now c.loop-p.p-index c.p-item.result (refusal_of c.in-Some.fault)
    c.loop-p-test.true c.p-item.is c.loop-p.invariant c.in-Some.ensures

pub multiplied-loop-p-preserved : goal.multiplied-loop-p-preserved
multiplied-loop-p-preserved t c =
    passed (λ p. expr_marks p.1 c.args.place) c.args.scope.now c.args.rest.now c.loop-p.p-index c.p-item.result
    c.loop-p-test.true c.p-item.is c.loop-p.invariant c.in_default.ensures

pub tests-returns-in-Some : goal.tests-returns-in-Some
tests-returns-in-Some t c =
    found (λ t. pred_marks t c.args.place) c.args.scope.now c.args.tests.now c.loop-t.t-index c.t-item.result (refusal_of c.in-Some.fault)
    c.loop-t-test.true c.t-item.is c.loop-t.invariant c.in-Some.ensures

pub tests-loop-t-preserved : goal.tests-loop-t-preserved
tests-loop-t-preserved t c =
    passed (λ t. pred_marks t c.args.place) c.args.scope.now c.args.tests.now c.loop-t.t-index c.t-item.result
    c.loop-t-test.true c.t-item.is c.loop-t.invariant c.in_default.ensures

pub posts-returns-in-Some : goal.posts-returns-in-Some
posts-returns-in-Some t c =
    found (λ a. post_marks a c.args.place) c.args.scope.now c.args.posts.now c.loop-a.a-index c.a-item.result (refusal_of c.in-Some.fault)
    c.loop-a-test.true c.a-item.is c.loop-a.invariant c.in-Some.ensures

pub posts-loop-a-preserved : goal.posts-loop-a-preserved
posts-loop-a-preserved t c =
    passed (λ a. post_marks a c.args.place) c.args.scope.now c.args.posts.now c.loop-a.a-index c.a-item.result
    c.loop-a-test.true c.a-item.is c.loop-a.invariant c.in_default.ensures

pub expr-returns-in-None-expr : goal.expr-returns-in-None-expr
expr-returns-in-None-expr t c =
    let s = c.args.scope.now in
    let v = c.in-Cmp in
    both_none s (expr_marks c.args.e.now c.args.place) (expr_marks v.first c.args.place) (flat_map (λ q. expr_marks q.1 c.args.place) v.rest) (refused c.compared.result)
    (ap (λ x. expr_marks x c.args.place) v.is ∙ marks-Cmp v.first v.rest c.args.place)
    (c.in-None-expr.ensures ∙ ap (λ x. first_fault s (expr_marks x c.args.place)) c.get-in-Cmp.ensures)
    (c.compared.ensures ∙ ap (λ xs. first_fault s (flat_map (λ q. expr_marks q.1 c.args.place) xs)) c.as_slice-in-None-expr.ensures)

pub expr-returns-in-Some-expr : goal.expr-returns-in-Some-expr
expr-returns-in-Some-expr t c =
    let s = c.args.scope.now in
    let v = c.in-Cmp in
    first_some s (expr_marks c.args.e.now c.args.place) (expr_marks v.first c.args.place) (flat_map (λ q. expr_marks q.1 c.args.place) v.rest) (refusal_of c.in-Some-expr.fault)
    (ap (λ x. expr_marks x c.args.place) v.is ∙ marks-Cmp v.first v.rest c.args.place)
    (c.in-Some-expr.ensures ∙ ap (λ x. first_fault s (expr_marks x c.args.place)) c.get-in-Cmp.ensures)

pub expr-returns-in-None-expr-2 : goal.expr-returns-in-None-expr-2
expr-returns-in-None-expr-2 t c =
    let s = c.args.scope.now in
    let v = c.in-Sum in
    both_none s (expr_marks c.args.e.now c.args.place) (expr_marks v.first c.args.place) (flat_map (λ q. expr_marks q.1 c.args.place) v.rest) (refused c.added.result)
    (ap (λ x. expr_marks x c.args.place) v.is ∙ marks-Sum v.first v.rest c.args.place)
    (c.in-None-expr-2.ensures ∙ ap (λ x. first_fault s (expr_marks x c.args.place)) c.get-in-Sum.ensures)
    (c.added.ensures ∙ ap (λ xs. first_fault s (flat_map (λ q. expr_marks q.1 c.args.place) xs)) c.as_slice-in-None-expr-2.ensures)

pub expr-returns-in-Some-expr-2 : goal.expr-returns-in-Some-expr-2
expr-returns-in-Some-expr-2 t c =
    let s = c.args.scope.now in
    let v = c.in-Sum in
    first_some s (expr_marks c.args.e.now c.args.place) (expr_marks v.first c.args.place) (flat_map (λ q. expr_marks q.1 c.args.place) v.rest) (refusal_of c.in-Some-expr-2.fault)
    (ap (λ x. expr_marks x c.args.place) v.is ∙ marks-Sum v.first v.rest c.args.place)
    (c.in-Some-expr-2.ensures ∙ ap (λ x. first_fault s (expr_marks x c.args.place)) c.get-in-Sum.ensures)

pub expr-returns-in-None-expr-3 : goal.expr-returns-in-None-expr-3
expr-returns-in-None-expr-3 t c =
    let s = c.args.scope.now in
    let v = c.in-Prod in
    both_none s (expr_marks c.args.e.now c.args.place) (expr_marks v.first c.args.place) (flat_map (λ q. expr_marks q.1 c.args.place) v.rest) (refused c.multiplied.result)
    (ap (λ x. expr_marks x c.args.place) v.is ∙ marks-Prod v.first v.rest c.args.place)
    (c.in-None-expr-3.ensures ∙ ap (λ x. first_fault s (expr_marks x c.args.place)) c.get-in-Prod.ensures)
    (c.multiplied.ensures ∙ ap (λ xs. first_fault s (flat_map (λ q. expr_marks q.1 c.args.place) xs)) c.as_slice-in-None-expr-3.ensures)

pub expr-returns-in-Some-expr-3 : goal.expr-returns-in-Some-expr-3
expr-returns-in-Some-expr-3 t c =
    let s = c.args.scope.now in
    let v = c.in-Prod in
    first_some s (expr_marks c.args.e.now c.args.place) (expr_marks v.first c.args.place) (flat_map (λ q. expr_marks q.1 c.args.place) v.rest) (refusal_of c.in-Some-expr-3.fault)
    (ap (λ x. expr_marks x c.args.place) v.is ∙ marks-Prod v.first v.rest c.args.place)
    (c.in-Some-expr-3.ensures ∙ ap (λ x. first_fault s (expr_marks x c.args.place)) c.get-in-Prod.ensures)

pub expr-returns-in-None-expr-4 : goal.expr-returns-in-None-expr-4
expr-returns-in-None-expr-4 t c =
    let s = c.args.scope.now in
    let v = c.in-Pred in
    both_none s (expr_marks c.args.e.now c.args.place) (expr_marks v.first c.args.place) (flat_map (λ t. pred_marks t c.args.place) v.rest) (refused c.tests.result)
    (ap (λ x. expr_marks x c.args.place) v.is ∙ marks-Pred v.first v.rest c.args.place)
    (c.in-None-expr-4.ensures ∙ ap (λ x. first_fault s (expr_marks x c.args.place)) c.get-in-Pred.ensures)
    (c.tests.ensures ∙ ap (λ xs. first_fault s (flat_map (λ t. pred_marks t c.args.place) xs)) c.as_slice-in-None-expr-4.ensures)

pub expr-returns-in-Some-expr-4 : goal.expr-returns-in-Some-expr-4
expr-returns-in-Some-expr-4 t c =
    let s = c.args.scope.now in
    let v = c.in-Pred in
    first_some s (expr_marks c.args.e.now c.args.place) (expr_marks v.first c.args.place) (flat_map (λ t. pred_marks t c.args.place) v.rest) (refusal_of c.in-Some-expr-4.fault)
    (ap (λ x. expr_marks x c.args.place) v.is ∙ marks-Pred v.first v.rest c.args.place)
    (c.in-Some-expr-4.ensures ∙ ap (λ x. first_fault s (expr_marks x c.args.place)) c.get-in-Pred.ensures)

pub expr-returns-in-None-expr-5 : goal.expr-returns-in-None-expr-5
expr-returns-in-None-expr-5 t c =
    let s = c.args.scope.now in
    let v = c.in-Post in
    both_none s (expr_marks c.args.e.now c.args.place) (expr_marks v.first c.args.place) (flat_map (λ t. post_marks t c.args.place) v.rest) (refused c.posts.result)
    (ap (λ x. expr_marks x c.args.place) v.is ∙ marks-Post v.first v.rest c.args.place)
    (c.in-None-expr-5.ensures ∙ ap (λ x. first_fault s (expr_marks x c.args.place)) c.get-in-Post.ensures)
    (c.posts.ensures ∙ ap (λ xs. first_fault s (flat_map (λ t. post_marks t c.args.place) xs)) c.as_slice-in-None-expr-5.ensures)

pub expr-returns-in-Some-expr-5 : goal.expr-returns-in-Some-expr-5
expr-returns-in-Some-expr-5 t c =
    let s = c.args.scope.now in
    let v = c.in-Post in
    first_some s (expr_marks c.args.e.now c.args.place) (expr_marks v.first c.args.place) (flat_map (λ t. post_marks t c.args.place) v.rest) (refusal_of c.in-Some-expr-5.fault)
    (ap (λ x. expr_marks x c.args.place) v.is ∙ marks-Post v.first v.rest c.args.place)
    (c.in-Some-expr-5.ensures ∙ ap (λ x. first_fault s (expr_marks x c.args.place)) c.get-in-Post.ensures)

pub expr-returns-in-None : goal.expr-returns-in-None
expr-returns-in-None t c =
    let s = c.args.scope.now in
    let v = c.in-Agg in
    both_none s (expr_marks c.args.e.now c.args.place) (aggregate_marks c.args.place) (expr_marks v.of (inner c.args.place)) (refused c.expr.result)
    (ap (λ x. expr_marks x c.args.place) v.is ∙ marks-Agg v.fun v.distinct v.of c.args.place)
    (c.in-None.ensures s)
    (c.expr.ensures ∙ ap (λ x. first_fault s (expr_marks x c.inner.result)) c.get.ensures ∙ ap (λ q. first_fault s (expr_marks v.of q)) c.inner.ensures)

pub expr-returns-in-Some : goal.expr-returns-in-Some
expr-returns-in-Some t c =
    let s = c.args.scope.now in
    let v = c.in-Agg in
    first_some s (expr_marks c.args.e.now c.args.place) (aggregate_marks c.args.place) (expr_marks v.of (inner c.args.place)) (refusal_of c.in-Some.fault)
    (ap (λ x. expr_marks x c.args.place) v.is ∙ marks-Agg v.fun v.distinct v.of c.args.place)
    (c.in-Some.ensures s)

pub expr-returns-in-None-pairs : goal.expr-returns-in-None-pairs
expr-returns-in-None-pairs t c =
    let s = c.args.scope.now in
    let v = c.in-Case in
    let p = c.args.place in
    let before = optional_marks v.of p in
    let middle = flat_map (λ w. pair_marks w p) v.whens in
    both_none s (expr_marks c.args.e.now p) (before ++ middle) (optional_marks v.other p) (refused c.option-in-None-pairs.result)
    (ap (λ x. expr_marks x p) v.is ∙ marks-Case v.of v.whens v.other p)
    (both_none s (before ++ middle) before middle _ refl c.in-None-option.ensures (c.in-None-pairs.ensures ∙ ap (λ xs. first_fault s (flat_map (λ w. pair_marks w p) xs)) c.as_slice.ensures))
    c.option-in-None-pairs.ensures

pub expr-returns-in-Some-pairs : goal.expr-returns-in-Some-pairs
expr-returns-in-Some-pairs t c =
    let s = c.args.scope.now in
    let v = c.in-Case in
    let p = c.args.place in
    let before = optional_marks v.of p in
    let middle = flat_map (λ w. pair_marks w p) v.whens in
    first_some s (expr_marks c.args.e.now p) (before ++ middle) (optional_marks v.other p) (refusal_of c.in-Some-pairs.fault)
    (ap (λ x. expr_marks x p) v.is ∙ marks-Case v.of v.whens v.other p)
    (both_none s (before ++ middle) before middle _ refl c.in-None-option.ensures (c.in-Some-pairs.ensures ∙ ap (λ xs. first_fault s (flat_map (λ w. pair_marks w p) xs)) c.as_slice.ensures))

pub expr-returns-in-Some-option : goal.expr-returns-in-Some-option
expr-returns-in-Some-option t c =
    let s = c.args.scope.now in
    let v = c.in-Case in
    let p = c.args.place in
    let before = optional_marks v.of p in
    let middle = flat_map (λ w. pair_marks w p) v.whens in
    first_some s (expr_marks c.args.e.now p) (before ++ middle) (optional_marks v.other p) (refusal_of c.in-Some-option.fault)
    (ap (λ x. expr_marks x p) v.is ∙ marks-Case v.of v.whens v.other p)
    (first_some s (before ++ middle) before middle (refusal_of c.in-Some-option.fault) refl c.in-Some-option.ensures)

pub expr-returns-in-List : goal.expr-returns-in-List
expr-returns-in-List t c =
    c.exprs.ensures ∙ ap (λ xs. first_fault c.args.scope.now (flat_map (λ e. expr_marks e c.args.place) xs)) c.as_slice-in-List.ensures
    ∙ ap (first_fault c.args.scope.now) (listed c.args.e.now c.in-List.items c.args.place c.in-List.is)

pub pairs-returns-in-Some : goal.pairs-returns-in-Some
pairs-returns-in-Some t c =
    let s = c.args.scope.now in
    let w = c.when-item.result in
    found (λ w. pair_marks w c.args.place) s c.args.whens.now c.loop-when.when-index w (refusal_of c.in-Some.fault)
    c.loop-when-test.true c.when-item.is c.loop-when.invariant
    (stays s (expr_marks w.0 c.args.place) (expr_marks w.1 c.args.place) (refusal_of c.in-Some.fault) c.in-Some.ensures)

pub pairs-returns-in-Some-expr : goal.pairs-returns-in-Some-expr
pairs-returns-in-Some-expr t c =
    let s = c.args.scope.now in
    let w = c.when-item.result in
    found (λ w. pair_marks w c.args.place) s c.args.whens.now c.loop-when.when-index w (refusal_of c.in-Some-expr.fault)
    c.loop-when-test.true c.when-item.is c.loop-when.invariant
    (c.in-Some-expr.ensures ∙ goes_on s (expr_marks w.0 c.args.place) (expr_marks w.1 c.args.place) c.in_default.ensures)

pub pairs-loop-when-preserved : goal.pairs-loop-when-preserved
pairs-loop-when-preserved t c =
    let s = c.args.scope.now in
    let w = c.when-item.result in
    passed (λ w. pair_marks w c.args.place) s c.args.whens.now c.loop-when.when-index w
    c.loop-when-test.true c.when-item.is c.loop-when.invariant
    (c.in_default-expr.ensures ∙ goes_on s (expr_marks w.0 c.args.place) (expr_marks w.1 c.args.place) c.in_default.ensures)
