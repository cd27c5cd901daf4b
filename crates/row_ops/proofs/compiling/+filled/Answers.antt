use Rattle.std.proofs.Common.{◌≡◌, sym, ap, ◌∙◌}
use Rattle.cypher_syntax.specs.declared.tree.expr.Expr.TheVariants as e
use Rattle.row_ops.specs.Compiling.{beside_part, pred_part, post_part}
use Rattle.row_ops.proofs.Parts.{part_cmp, part_pred, part_sum, part_prod, part_post, led_filled, led_found, case_whole, case_found}
use Rattle.row_ops.proofs.compiling.+filled.Goals as goal

pub filled-returns-in_ok-first-in-Cmp-clause-filled : goal.filled-returns-in_ok-first-in-Cmp-clause-filled
filled-returns-in_ok-first-in-Cmp-clause-filled t c =
    let x = c.get-in-Cmp.result.now in
    let xs = c.as_slice-in-Cmp.result.now in
    let is : c.args.expr.now ≡ e.Cmp x xs = c.in-Cmp.is ∙ ap (λ y. e.Cmp y c.in-Cmp.rest) (sym c.get-in-Cmp.ensures) ∙ ap (e.Cmp x) (sym c.as_slice-in-Cmp.ensures) in
    led_filled e.Cmp beside_part part_cmp _ c.args.expr.now x xs _ _ c.in_ok-first-in-Cmp.first is c.in_ok-first-in-Cmp.ensures.filled c.in_ok-first-in-Cmp.ensures.found c.compared_behind.ensures.filled

pub filled-returns-in_ok-first-in-Cmp-clause-found : goal.filled-returns-in_ok-first-in-Cmp-clause-found
filled-returns-in_ok-first-in-Cmp-clause-found t c =
    let x = c.get-in-Cmp.result.now in
    let xs = c.as_slice-in-Cmp.result.now in
    let is : c.args.expr.now ≡ e.Cmp x xs = c.in-Cmp.is ∙ ap (λ y. e.Cmp y c.in-Cmp.rest) (sym c.get-in-Cmp.ensures) ∙ ap (e.Cmp x) (sym c.as_slice-in-Cmp.ensures) in
    led_found e.Cmp beside_part part_cmp _ c.args.expr.now x xs _ _ _ is c.in_ok-first-in-Cmp.ensures.found c.compared_behind.ensures.found

pub filled-returns-in_ok-first-in-Pred-clause-filled : goal.filled-returns-in_ok-first-in-Pred-clause-filled
filled-returns-in_ok-first-in-Pred-clause-filled t c =
    let x = c.get-in-Pred.result.now in
    let xs = c.as_slice-in-Pred.result.now in
    let is : c.args.expr.now ≡ e.Pred x xs = c.in-Pred.is ∙ ap (λ y. e.Pred y c.in-Pred.tests) (sym c.get-in-Pred.ensures) ∙ ap (e.Pred x) (sym c.as_slice-in-Pred.ensures) in
    led_filled e.Pred pred_part part_pred _ c.args.expr.now x xs _ _ c.in_ok-first-in-Pred.first is c.in_ok-first-in-Pred.ensures.filled c.in_ok-first-in-Pred.ensures.found c.tests_behind.ensures.filled

pub filled-returns-in_ok-first-in-Pred-clause-found : goal.filled-returns-in_ok-first-in-Pred-clause-found
filled-returns-in_ok-first-in-Pred-clause-found t c =
    let x = c.get-in-Pred.result.now in
    let xs = c.as_slice-in-Pred.result.now in
    let is : c.args.expr.now ≡ e.Pred x xs = c.in-Pred.is ∙ ap (λ y. e.Pred y c.in-Pred.tests) (sym c.get-in-Pred.ensures) ∙ ap (e.Pred x) (sym c.as_slice-in-Pred.ensures) in
    led_found e.Pred pred_part part_pred _ c.args.expr.now x xs _ _ _ is c.in_ok-first-in-Pred.ensures.found c.tests_behind.ensures.found

pub filled-returns-in_ok-first-in-Sum-clause-filled : goal.filled-returns-in_ok-first-in-Sum-clause-filled
filled-returns-in_ok-first-in-Sum-clause-filled t c =
    let x = c.get-in-Sum.result.now in
    let xs = c.as_slice-in-Sum.result.now in
    let is : c.args.expr.now ≡ e.Sum x xs = c.in-Sum.is ∙ ap (λ y. e.Sum y c.in-Sum.rest) (sym c.get-in-Sum.ensures) ∙ ap (e.Sum x) (sym c.as_slice-in-Sum.ensures) in
    led_filled e.Sum beside_part part_sum _ c.args.expr.now x xs _ _ c.in_ok-first-in-Sum.first is c.in_ok-first-in-Sum.ensures.filled c.in_ok-first-in-Sum.ensures.found c.added_behind.ensures.filled

pub filled-returns-in_ok-first-in-Sum-clause-found : goal.filled-returns-in_ok-first-in-Sum-clause-found
filled-returns-in_ok-first-in-Sum-clause-found t c =
    let x = c.get-in-Sum.result.now in
    let xs = c.as_slice-in-Sum.result.now in
    let is : c.args.expr.now ≡ e.Sum x xs = c.in-Sum.is ∙ ap (λ y. e.Sum y c.in-Sum.rest) (sym c.get-in-Sum.ensures) ∙ ap (e.Sum x) (sym c.as_slice-in-Sum.ensures) in
    led_found e.Sum beside_part part_sum _ c.args.expr.now x xs _ _ _ is c.in_ok-first-in-Sum.ensures.found c.added_behind.ensures.found

pub filled-returns-in_ok-first-in-Prod-clause-filled : goal.filled-returns-in_ok-first-in-Prod-clause-filled
filled-returns-in_ok-first-in-Prod-clause-filled t c =
    let x = c.get-in-Prod.result.now in
    let xs = c.as_slice-in-Prod.result.now in
    let is : c.args.expr.now ≡ e.Prod x xs = c.in-Prod.is ∙ ap (λ y. e.Prod y c.in-Prod.rest) (sym c.get-in-Prod.ensures) ∙ ap (e.Prod x) (sym c.as_slice-in-Prod.ensures) in
    led_filled e.Prod beside_part part_prod _ c.args.expr.now x xs _ _ c.in_ok-first-in-Prod.first is c.in_ok-first-in-Prod.ensures.filled c.in_ok-first-in-Prod.ensures.found c.multiplied_behind.ensures.filled

pub filled-returns-in_ok-first-in-Prod-clause-found : goal.filled-returns-in_ok-first-in-Prod-clause-found
filled-returns-in_ok-first-in-Prod-clause-found t c =
    let x = c.get-in-Prod.result.now in
    let xs = c.as_slice-in-Prod.result.now in
    let is : c.args.expr.now ≡ e.Prod x xs = c.in-Prod.is ∙ ap (λ y. e.Prod y c.in-Prod.rest) (sym c.get-in-Prod.ensures) ∙ ap (e.Prod x) (sym c.as_slice-in-Prod.ensures) in
    led_found e.Prod beside_part part_prod _ c.args.expr.now x xs _ _ _ is c.in_ok-first-in-Prod.ensures.found c.multiplied_behind.ensures.found

pub filled-returns-in_ok-first-in-Post-clause-filled : goal.filled-returns-in_ok-first-in-Post-clause-filled
filled-returns-in_ok-first-in-Post-clause-filled t c =
    let x = c.get-in-Post.result.now in
    let xs = c.as_slice-in-Post.result.now in
    let is : c.args.expr.now ≡ e.Post x xs = c.in-Post.is ∙ ap (λ y. e.Post y c.in-Post.asked) (sym c.get-in-Post.ensures) ∙ ap (e.Post x) (sym c.as_slice-in-Post.ensures) in
    led_filled e.Post post_part part_post _ c.args.expr.now x xs _ _ c.in_ok-first-in-Post.first is c.in_ok-first-in-Post.ensures.filled c.in_ok-first-in-Post.ensures.found c.asked_behind.ensures.filled

pub filled-returns-in_ok-first-in-Post-clause-found : goal.filled-returns-in_ok-first-in-Post-clause-found
filled-returns-in_ok-first-in-Post-clause-found t c =
    let x = c.get-in-Post.result.now in
    let xs = c.as_slice-in-Post.result.now in
    let is : c.args.expr.now ≡ e.Post x xs = c.in-Post.is ∙ ap (λ y. e.Post y c.in-Post.asked) (sym c.get-in-Post.ensures) ∙ ap (e.Post x) (sym c.as_slice-in-Post.ensures) in
    led_found e.Post post_part part_post _ c.args.expr.now x xs _ _ _ is c.in_ok-first-in-Post.ensures.found c.asked_behind.ensures.found

pub filled-returns-in_ok-of-in-Case-2-clause-filled : goal.filled-returns-in_ok-of-in-Case-2-clause-filled
filled-returns-in_ok-of-in-Case-2-clause-filled t c =
    let of = c.in-Case.of in
    let whens = c.as_slice-in-Case.result.now in
    let other = c.in-Case.other in
    let is : c.args.expr.now ≡ e.Case of whens other = c.in-Case.is ∙ ap (λ ws. e.Case of ws other) (sym c.as_slice-in-Case.ensures) in
    case_whole of whens other _ c.args.expr.now _ _ _ c.in_ok-of-in-Case.of c.in_ok-of-in-Case-2.of c.in_ok-of-in-Case-2.whens is c.in_ok-of-in-Case.ensures.filled c.in_ok-of-in-Case.ensures.found c.in_ok-of-in-Case-2.ensures.filled c.in_ok-of-in-Case-2.ensures.found c.case_filled.ensures.filled

pub filled-returns-in_ok-of-in-Case-2-clause-found : goal.filled-returns-in_ok-of-in-Case-2-clause-found
filled-returns-in_ok-of-in-Case-2-clause-found t c =
    let of = c.in-Case.of in
    let whens = c.as_slice-in-Case.result.now in
    let other = c.in-Case.other in
    let is : c.args.expr.now ≡ e.Case of whens other = c.in-Case.is ∙ ap (λ ws. e.Case of ws other) (sym c.as_slice-in-Case.ensures) in
    case_found of whens other _ c.args.expr.now _ _ _ _ is c.in_ok-of-in-Case.ensures.found c.in_ok-of-in-Case-2.ensures.found c.case_filled.ensures.found
