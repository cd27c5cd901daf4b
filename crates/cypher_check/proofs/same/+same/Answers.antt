use Rattle.std.proofs.Common.{◌≡◌, ◌∙◌, ◌&&◌, eqb, eq-eqb, ap, sym}
use Rattle.std.specs.Cmp.Lexicographic.{pointwise}
use Rattle.cypher_check.specs.Same.{same_expr, same_post, same_pred, same_option, same_pair, same_cmp, same_sum, same_prod, fun_place}
use Rattle.cypher_check.proofs.SameLemmas.{both, first_false, same-List, same-Or, same-Xor, same-And, same-Call, same-Cmp, same-Sum, same-Prod, same-Pred, same-Post, same-Case}
use Rattle.cypher_syntax.specs.declared.tree.expr.Expr.TheVariants as e
use Rattle.cypher_check.proofs.same.+same.Goals as goal

pub same_exprs-returns-in-List-List : goal.same_exprs-returns-in-List-List
same_exprs-returns-in-List-List t c = let s0 = c.as_slice.ensures in let s1 = c.as_slice-in-List-List.ensures in let is = c.all_same.ensures in cc (same-List c.in-List-List.a c.in-List-List.b)

pub same_exprs-returns-in-Or-Or : goal.same_exprs-returns-in-Or-Or
same_exprs-returns-in-Or-Or t c = let s0 = c.as_slice-in-Or-Or.ensures in let s1 = c.as_slice-in-Or-Or-2.ensures in let is = c.all_same-in-Or-Or.ensures in cc (same-Or c.in-Or-Or.a c.in-Or-Or.b)

pub same_exprs-returns-in-Xor-Xor : goal.same_exprs-returns-in-Xor-Xor
same_exprs-returns-in-Xor-Xor t c = let s0 = c.as_slice-in-Xor-Xor.ensures in let s1 = c.as_slice-in-Xor-Xor-2.ensures in let is = c.all_same-in-Xor-Xor.ensures in cc (same-Xor c.in-Xor-Xor.a c.in-Xor-Xor.b)

pub same_exprs-returns-in-And-And : goal.same_exprs-returns-in-And-And
same_exprs-returns-in-And-And t c = let s0 = c.as_slice-in-And-And.ensures in let s1 = c.as_slice-in-And-And-2.ensures in let is = c.all_same-in-And-And.ensures in cc (same-And c.in-And-And.a c.in-And-And.b)

pub same_exprs-returns-then-same_exprs : goal.same_exprs-returns-then-same_exprs
same_exprs-returns-then-same_exprs t c =
    let v = c.in-Cmp-Cmp in
    let first : same_expr v.a v.b ≡ c.same_exprs-in-Cmp-Cmp.result = sym (c.same_exprs-in-Cmp-Cmp.ensures ∙ ap (λ x. same_expr x c.get-in-Cmp-Cmp-2.result.now) c.get-in-Cmp-Cmp.ensures ∙ ap (λ y. same_expr v.a y) c.get-in-Cmp-Cmp-2.ensures) in
    both (same_expr v.a v.b) (pointwise same_cmp v.xs v.ys) c.compared_same.result (first ∙ c.if-same_exprs.true)
    (c.compared_same.ensures ∙ ap (λ xs. pointwise same_cmp xs c.as_slice-then-same_exprs-2.result.now) c.as_slice-then-same_exprs.ensures ∙ ap (λ ys. pointwise same_cmp v.xs ys) c.as_slice-then-same_exprs-2.ensures)
    ∙ sym (ap (λ x. same_expr x c.args.b.now) v.is-0 ∙ ap (λ y. same_expr (e.Cmp v.a v.xs) y) v.is-1 ∙ same-Cmp v.a v.xs v.b v.ys)

pub same_exprs-returns-then-same_exprs-2 : goal.same_exprs-returns-then-same_exprs-2
same_exprs-returns-then-same_exprs-2 t c =
    let v = c.in-Pred-Pred in
    let first : same_expr v.a v.b ≡ c.same_exprs-in-Pred-Pred.result = sym (c.same_exprs-in-Pred-Pred.ensures ∙ ap (λ x. same_expr x c.get-in-Pred-Pred-2.result.now) c.get-in-Pred-Pred.ensures ∙ ap (λ y. same_expr v.a y) c.get-in-Pred-Pred-2.ensures) in
    both (same_expr v.a v.b) (pointwise same_pred v.xs v.ys) c.tests_same.result (first ∙ c.if-same_exprs-2.true)
    (c.tests_same.ensures ∙ ap (λ xs. pointwise same_pred xs c.as_slice-then-same_exprs-2-3.result.now) c.as_slice-then-same_exprs-2-2.ensures ∙ ap (λ ys. pointwise same_pred v.xs ys) c.as_slice-then-same_exprs-2-3.ensures)
    ∙ sym (ap (λ x. same_expr x c.args.b.now) v.is-0 ∙ ap (λ y. same_expr (e.Pred v.a v.xs) y) v.is-1 ∙ same-Pred v.a v.xs v.b v.ys)

pub same_exprs-returns-then-same_exprs-3 : goal.same_exprs-returns-then-same_exprs-3
same_exprs-returns-then-same_exprs-3 t c =
    let v = c.in-Sum-Sum in
    let first : same_expr v.a v.b ≡ c.same_exprs-in-Sum-Sum.result = sym (c.same_exprs-in-Sum-Sum.ensures ∙ ap (λ x. same_expr x c.get-in-Sum-Sum-2.result.now) c.get-in-Sum-Sum.ensures ∙ ap (λ y. same_expr v.a y) c.get-in-Sum-Sum-2.ensures) in
    both (same_expr v.a v.b) (pointwise same_sum v.xs v.ys) c.added_same.result (first ∙ c.if-same_exprs-3.true)
    (c.added_same.ensures ∙ ap (λ xs. pointwise same_sum xs c.as_slice-then-same_exprs-3-2.result.now) c.as_slice-then-same_exprs-3.ensures ∙ ap (λ ys. pointwise same_sum v.xs ys) c.as_slice-then-same_exprs-3-2.ensures)
    ∙ sym (ap (λ x. same_expr x c.args.b.now) v.is-0 ∙ ap (λ y. same_expr (e.Sum v.a v.xs) y) v.is-1 ∙ same-Sum v.a v.xs v.b v.ys)

pub same_exprs-returns-then-same_exprs-4 : goal.same_exprs-returns-then-same_exprs-4
same_exprs-returns-then-same_exprs-4 t c =
    let v = c.in-Prod-Prod in
    let first : same_expr v.a v.b ≡ c.same_exprs-in-Prod-Prod.result = sym (c.same_exprs-in-Prod-Prod.ensures ∙ ap (λ x. same_expr x c.get-in-Prod-Prod-2.result.now) c.get-in-Prod-Prod.ensures ∙ ap (λ y. same_expr v.a y) c.get-in-Prod-Prod-2.ensures) in
    both (same_expr v.a v.b) (pointwise same_prod v.xs v.ys) c.multiplied_same.result (first ∙ c.if-same_exprs-4.true)
    (c.multiplied_same.ensures ∙ ap (λ xs. pointwise same_prod xs c.as_slice-then-same_exprs-4-2.result.now) c.as_slice-then-same_exprs-4.ensures ∙ ap (λ ys. pointwise same_prod v.xs ys) c.as_slice-then-same_exprs-4-2.ensures)
    ∙ sym (ap (λ x. same_expr x c.args.b.now) v.is-0 ∙ ap (λ y. same_expr (e.Prod v.a v.xs) y) v.is-1 ∙ same-Prod v.a v.xs v.b v.ys)

pub same_exprs-returns-then-same_exprs-5 : goal.same_exprs-returns-then-same_exprs-5
same_exprs-returns-then-same_exprs-5 t c =
    let v = c.in-Post-Post in
    let first : same_expr v.a v.b ≡ c.same_exprs-in-Post-Post.result = sym (c.same_exprs-in-Post-Post.ensures ∙ ap (λ x. same_expr x c.get-in-Post-Post-2.result.now) c.get-in-Post-Post.ensures ∙ ap (λ y. same_expr v.a y) c.get-in-Post-Post-2.ensures) in
    both (same_expr v.a v.b) (pointwise same_post v.xs v.ys) c.posts_same.result (first ∙ c.if-same_exprs-5.true)
    (c.posts_same.ensures ∙ ap (λ xs. pointwise same_post xs c.as_slice-then-same_exprs-5-2.result.now) c.as_slice-then-same_exprs-5.ensures ∙ ap (λ ys. pointwise same_post v.xs ys) c.as_slice-then-same_exprs-5-2.ensures)
    ∙ sym (ap (λ x. same_expr x c.args.b.now) v.is-0 ∙ ap (λ y. same_expr (e.Post v.a v.xs) y) v.is-1 ∙ same-Post v.a v.xs v.b v.ys)

pub same_exprs-returns-then-fun_place : goal.same_exprs-returns-then-fun_place
same_exprs-returns-then-fun_place t c =
    let v = c.in-Call-Call in
    both (eqb (fun_place v.f) (fun_place v.g)) (pointwise same_expr v.a v.b) c.all_same-then-fun_place.result
    (eq-eqb (fun_place v.f) (fun_place v.g) (sym c.fun_place.ensures ∙ c.if-fun_place.true ∙ c.fun_place-in-Call-Call.ensures))
    (c.all_same-then-fun_place.ensures ∙ ap (λ xs. pointwise same_expr xs c.as_slice-then-fun_place-2.result.now) c.as_slice-then-fun_place.ensures ∙ ap (λ ys. pointwise same_expr v.a ys) c.as_slice-then-fun_place-2.ensures)
    ∙ sym (ap (λ x. same_expr x c.args.b.now) v.is-0 ∙ ap (λ y. same_expr (e.Call v.f v.a) y) v.is-1 ∙ same-Call v.f v.a v.g v.b)

pub same_exprs-returns-then-pairs_same : goal.same_exprs-returns-then-pairs_same
same_exprs-returns-then-pairs_same t c =
    let v = c.in-Case-Case in
    let pairs : c.pairs_same.result ≡ pointwise same_pair v.xs v.ys = c.pairs_same.ensures ∙ ap (λ xs. pointwise same_pair xs c.as_slice-then-options_same-2.result.now) c.as_slice-then-options_same.ensures ∙ ap (λ ys. pointwise same_pair v.xs ys) c.as_slice-then-options_same-2.ensures in
    both (same_option v.a v.b) (pointwise same_pair v.xs v.ys && same_option v.x v.y) c.options_same-then-pairs_same.result (sym c.options_same.ensures ∙ c.if-options_same.true)
    (both (pointwise same_pair v.xs v.ys) (same_option v.x v.y) c.options_same-then-pairs_same.result (sym pairs ∙ c.if-pairs_same.true) c.options_same-then-pairs_same.ensures)
    ∙ sym (ap (λ x. same_expr x c.args.b.now) v.is-0 ∙ ap (λ y. same_expr (e.Case v.a v.xs v.x) y) v.is-1 ∙ same-Case v.a v.xs v.x v.b v.ys v.y)

pub same_exprs-returns-else-pairs_same : goal.same_exprs-returns-else-pairs_same
same_exprs-returns-else-pairs_same t c =
    let v = c.in-Case-Case in
    let pairs : c.pairs_same.result ≡ pointwise same_pair v.xs v.ys = c.pairs_same.ensures ∙ ap (λ xs. pointwise same_pair xs c.as_slice-then-options_same-2.result.now) c.as_slice-then-options_same.ensures ∙ ap (λ ys. pointwise same_pair v.xs ys) c.as_slice-then-options_same-2.ensures in
    both (same_option v.a v.b) (pointwise same_pair v.xs v.ys && same_option v.x v.y) c.pairs_same.result (sym c.options_same.ensures ∙ c.if-options_same.true)
    (first_false (pointwise same_pair v.xs v.ys) (same_option v.x v.y) c.pairs_same.result (sym pairs ∙ c.if-pairs_same.false) pairs)
    ∙ sym (ap (λ x. same_expr x c.args.b.now) v.is-0 ∙ ap (λ y. same_expr (e.Case v.a v.xs v.x) y) v.is-1 ∙ same-Case v.a v.xs v.x v.b v.ys v.y)
