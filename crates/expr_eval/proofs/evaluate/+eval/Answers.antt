use Rattle.std.proofs.Common.{◌≡◌, suc, ◌+◌, drop, true, false, Some, sym, ap, ◌∙◌, add-one}
use Rattle.cypher_syntax.specs.declared.tree.expr.Expr.TheVariants as e
use Rattle.expr_eval.specs.Eval.{some, eval_of, compared_of, summed_of, multiplied_of, optional_of, chosen_of, otherwise_of}
use Rattle.expr_eval.specs.Outcome.{and_then}
use Rattle.expr_eval.proofs.Chosen.{tried}
use Rattle.expr_eval.proofs.Nodes.{eval_cmp, eval_sum, eval_prod, eval_case}
use Rattle.expr_eval.proofs.Turns.{opens, goes, stops, finishes, passes, turns, ends}
use Rattle.expr_eval.proofs.evaluate.+eval.Goals as goal

pub eval-returns-in_ok-value-in-Cmp : goal.eval-returns-in_ok-value-in-Cmp
eval-returns-in_ok-value-in-Cmp g t c =
    let S = g.G.GraphRead.stands in
    let F = g.G.GraphRead.follows in
    let L = g.met.G.GraphRead in
    let row = c.args.row.now in
    let first = c.get-in-Cmp.result.now in
    let rest = c.as_slice-in-Cmp.result.now in
    let is : c.args.expr.now ≡ e.Cmp first rest = c.in-Cmp.is ∙ ap (λ x. e.Cmp x c.in-Cmp.rest) (sym c.get-in-Cmp.ensures) ∙ ap (e.Cmp first) (sym c.as_slice-in-Cmp.ensures) in
    finishes S F L.itself L.onward (λ w. eval_of w row c.args.expr.now) (λ w. compared_of w row c.in_ok-value-in-Cmp.value rest) _ _ _ _
    (opens S F L.itself L.onward (λ w. eval_of w row c.args.expr.now) (λ w. eval_of w row first) (λ v w. compared_of w row v rest) _ _ c.in_ok-value-in-Cmp.value
    (λ w. ap (eval_of w row) is ∙ eval_cmp w row first rest)
    c.in_ok-value-in-Cmp.ensures)
    c.comparisons.ensures

pub eval-returns-in_ok-value-in-Sum : goal.eval-returns-in_ok-value-in-Sum
eval-returns-in_ok-value-in-Sum g t c =
    let S = g.G.GraphRead.stands in
    let F = g.G.GraphRead.follows in
    let L = g.met.G.GraphRead in
    let row = c.args.row.now in
    let first = c.get-in-Sum.result.now in
    let rest = c.as_slice-in-Sum.result.now in
    let is : c.args.expr.now ≡ e.Sum first rest = c.in-Sum.is ∙ ap (λ x. e.Sum x c.in-Sum.rest) (sym c.get-in-Sum.ensures) ∙ ap (e.Sum first) (sym c.as_slice-in-Sum.ensures) in
    finishes S F L.itself L.onward (λ w. eval_of w row c.args.expr.now) (λ w. summed_of w row c.in_ok-value-in-Sum.value rest) _ _ _ _
    (opens S F L.itself L.onward (λ w. eval_of w row c.args.expr.now) (λ w. eval_of w row first) (λ v w. summed_of w row v rest) _ _ c.in_ok-value-in-Sum.value
    (λ w. ap (eval_of w row) is ∙ eval_sum w row first rest)
    c.in_ok-value-in-Sum.ensures)
    c.sums.ensures

pub eval-returns-in_ok-value-in-Prod : goal.eval-returns-in_ok-value-in-Prod
eval-returns-in_ok-value-in-Prod g t c =
    let S = g.G.GraphRead.stands in
    let F = g.G.GraphRead.follows in
    let L = g.met.G.GraphRead in
    let row = c.args.row.now in
    let first = c.get-in-Prod.result.now in
    let rest = c.as_slice-in-Prod.result.now in
    let is : c.args.expr.now ≡ e.Prod first rest = c.in-Prod.is ∙ ap (λ x. e.Prod x c.in-Prod.rest) (sym c.get-in-Prod.ensures) ∙ ap (e.Prod first) (sym c.as_slice-in-Prod.ensures) in
    finishes S F L.itself L.onward (λ w. eval_of w row c.args.expr.now) (λ w. multiplied_of w row c.in_ok-value-in-Prod.value rest) _ _ _ _
    (opens S F L.itself L.onward (λ w. eval_of w row c.args.expr.now) (λ w. eval_of w row first) (λ v w. multiplied_of w row v rest) _ _ c.in_ok-value-in-Prod.value
    (λ w. ap (eval_of w row) is ∙ eval_prod w row first rest)
    c.in_ok-value-in-Prod.ensures)
    c.products.ensures

pub eval-returns-in_ok-chosen-in-Case : goal.eval-returns-in_ok-chosen-in-Case
eval-returns-in_ok-chosen-in-Case g t c =
    let S = g.G.GraphRead.stands in
    let F = g.G.GraphRead.follows in
    let L = g.met.G.GraphRead in
    let row = c.args.row.now in
    let of = c.in-Case.of in
    let whens = c.as_slice-in-Case.result.now in
    let other = c.in-Case.other in
    let is : c.args.expr.now ≡ e.Case of whens other = c.in-Case.is ∙ ap (λ ws. e.Case of ws other) (sym c.as_slice-in-Case.ensures) in
    let first = c.in_ok-first-in-Case.first in
    let begun = opens S F L.itself L.onward (λ w. eval_of w row c.args.expr.now) (λ w. optional_of w row of) (λ f w. and_then (chosen_of w row f whens) (λ v. otherwise_of w row v other)) _ _ first
    (λ w. ap (eval_of w row) is ∙ eval_case w row of whens other) c.in_ok-first-in-Case.ensures in
    finishes S F L.itself L.onward (λ w. eval_of w row c.args.expr.now) (λ w. otherwise_of w row c.in_ok-chosen-in-Case.chosen other) _ _ _ _
    (goes S F L.itself L.onward (λ w. eval_of w row c.args.expr.now) (λ w. chosen_of w row first whens) (λ v w. otherwise_of w row v other) _ _ _ c.in_ok-chosen-in-Case.chosen begun c.in_ok-chosen-in-Case.ensures)
    c.otherwise.ensures

pub eval-returns-in_err-chosen-in-Case : goal.eval-returns-in_err-chosen-in-Case
eval-returns-in_err-chosen-in-Case g t c =
    let S = g.G.GraphRead.stands in
    let F = g.G.GraphRead.follows in
    let L = g.met.G.GraphRead in
    let row = c.args.row.now in
    let of = c.in-Case.of in
    let whens = c.as_slice-in-Case.result.now in
    let other = c.in-Case.other in
    let is : c.args.expr.now ≡ e.Case of whens other = c.in-Case.is ∙ ap (λ ws. e.Case of ws other) (sym c.as_slice-in-Case.ensures) in
    let first = c.in_ok-first-in-Case.first in
    let begun = opens S F L.itself L.onward (λ w. eval_of w row c.args.expr.now) (λ w. optional_of w row of) (λ f w. and_then (chosen_of w row f whens) (λ v. otherwise_of w row v other)) _ _ first
    (λ w. ap (eval_of w row) is ∙ eval_case w row of whens other) c.in_ok-first-in-Case.ensures in
    let refused = c.in_err-chosen-in-Case.field-0.0 in
    passes S F L.itself L.onward (λ w. eval_of w row c.args.expr.now) _ _ _ refused c.from_residual-in_err-chosen-in-Case.ensures.1
    (stops S F L.itself L.onward (λ w. eval_of w row c.args.expr.now) (λ w. chosen_of w row first whens) (λ v w. otherwise_of w row v other) _ _ _ refused begun c.in_err-chosen-in-Case.ensures)

pub chosen-returns-then-branch : goal.chosen-returns-then-branch
chosen-returns-then-branch g t c =
    let S = g.G.GraphRead.stands in
    let F = g.G.GraphRead.follows in
    let L = g.met.G.GraphRead in
    let row = c.args.row.now in
    let first = c.args.first.now in
    let whens = c.args.whens.now in
    let i = c.loop-condition.condition-index in
    let when = c.loop-condition-item.result in
    ends S F L.itself L.onward (λ w. chosen_of w row first whens) _ _ (Some c.in_ok-eval-2.field-0)
    (goes S F L.itself L.onward (λ w. chosen_of w row first whens) (λ w. eval_of w row when.1) (λ v w. some v) _ _ _ c.in_ok-eval-2.field-0
    (tried S F L.itself L.onward row first whens i when _ _ _ c.in_ok-eval.field-0 c.in_ok-holds.field-0 true c.loop-condition-test.true c.loop-condition-item.is c.loop-condition.invariant c.in_ok-eval.ensures c.in_ok-holds.ensures c.if-branch.true)
    c.in_ok-eval-2.ensures)

pub chosen-returns-in_err-eval-2 : goal.chosen-returns-in_err-eval-2
chosen-returns-in_err-eval-2 g t c =
    let S = g.G.GraphRead.stands in
    let F = g.G.GraphRead.follows in
    let L = g.met.G.GraphRead in
    let row = c.args.row.now in
    let first = c.args.first.now in
    let whens = c.args.whens.now in
    let i = c.loop-condition.condition-index in
    let when = c.loop-condition-item.result in
    let refused = c.in_err-eval-2.field-0.0 in
    passes S F L.itself L.onward (λ w. chosen_of w row first whens) _ _ _ refused c.from_residual-in_err-eval-2.ensures.1
    (stops S F L.itself L.onward (λ w. chosen_of w row first whens) (λ w. eval_of w row when.1) (λ v w. some v) _ _ _ refused
    (tried S F L.itself L.onward row first whens i when _ _ _ c.in_ok-eval.field-0 c.in_ok-holds.field-0 true c.loop-condition-test.true c.loop-condition-item.is c.loop-condition.invariant c.in_ok-eval.ensures c.in_ok-holds.ensures c.if-branch.true)
    c.in_err-eval-2.ensures)

pub chosen-loop-condition-preserved : goal.chosen-loop-condition-preserved
chosen-loop-condition-preserved g t c =
    let S = g.G.GraphRead.stands in
    let F = g.G.GraphRead.follows in
    let L = g.met.G.GraphRead in
    let row = c.args.row.now in
    let first = c.args.first.now in
    let whens = c.args.whens.now in
    let i = c.loop-condition.condition-index in
    let when = c.loop-condition-item.result in
    turns S F L.itself L.onward (λ w. chosen_of w row first whens) (λ w. chosen_of w row first (drop (suc i) whens)) (λ w. chosen_of w row first (drop (i + 1) whens)) _ _
    (tried S F L.itself L.onward row first whens i when _ _ _ c.in_ok-eval.field-0 c.in_ok-holds.field-0 false c.loop-condition-test.true c.loop-condition-item.is c.loop-condition.invariant c.in_ok-eval.ensures c.in_ok-holds.ensures c.if-branch.false)
    (λ w. ap (λ n. chosen_of w row first (drop n whens)) (sym (add-one i)))
