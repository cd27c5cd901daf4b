-- Whether two expressions are the same, by their operands.
use Rattle.std.proofs.Common.{◌≡◌, Bool, true, false, ◌&&◌, eqb, List, [], ◌∷◌, map, Option, Some, None, refl, sym, ap, ◌∙◌}
use Rattle.std.specs.Cmp.Lexicographic.{pointwise}
use Rattle.cypher_syntax.specs.declared.tree.expr.Expr.{Expr, fold-roll-Expr}
use Rattle.cypher_syntax.specs.declared.tree.expr.Expr.TheVariants as e
use Rattle.cypher_syntax.specs.declared.tree.expr.Expr.TheOpen.{Expr-F}
use Rattle.cypher_syntax.specs.declared.tree.expr.PostOp.{PostOp}
use Rattle.cypher_syntax.specs.declared.tree.expr.PredOp.{PredOp}
use Rattle.cypher_syntax.specs.declared.tree.operators.CmpOp.{CmpOp}
use Rattle.cypher_syntax.specs.declared.tree.operators.SumOp.{SumOp}
use Rattle.cypher_syntax.specs.declared.tree.operators.ProdOp.{ProdOp}
use Rattle.cypher_syntax.specs.declared.tree.operators.Fun.{Fun}
use Rattle.cypher_check.specs.Same.{Test, PostTest, PredTest, same_level, expr_test, post_test, pred_test, same_expr, same_post, same_pred, same_option, same_pair, same_cmp, same_sum, same_prod, may_pass, fun_place, cmp_place, sum_place, prod_place}

-- tests that are made of the elements of a list
paired : {X T Y : Type 0} (g : X → T) (h : T → Y → Bool) (xs : List X) (ys : List Y) → pointwise h (map g xs) ys ≡ pointwise (λ x y. h (g x) y) xs ys
paired g h [] [] = refl
paired g h [] (y ∷ ys) = refl
paired g h (x ∷ xs) [] = refl
paired g h (x ∷ xs) (y ∷ ys) = ap (λ r. h (g x) y && r) (paired g h xs ys)

-- both hold where the first does and the second is the answer
pub both : (x y r : Bool) → x ≡ true → r ≡ y → r ≡ x && y
both x y r h same = same ∙ ap (λ b. b && y) (sym h)

-- none holds where the first doesn't
pub first_false : (x y r : Bool) → x ≡ false → r ≡ x → r ≡ x && y
first_false x y r h same = same ∙ h ∙ sym (ap (λ b. b && y) h)

pub same-List : (xs ys : List Expr) → same_expr (e.List xs) (e.List ys) ≡ pointwise same_expr xs ys
same-List xs ys =
    ap (λ x. same_expr x (e.List ys)) (sym (e.rolls-List xs))
    ∙ ap (λ (t : Test). t (e.List ys)) (fold-roll-Expr Test PostTest PredTest expr_test post_test pred_test (Expr-F.List xs))
    ∙ ap (λ o. same_level (Expr-F.List (map same_expr xs)) o) (e.outs-List ys)
    ∙ paired same_expr (λ test e. test e) xs ys

pub same-Or : (xs ys : List Expr) → same_expr (e.Or xs) (e.Or ys) ≡ pointwise same_expr xs ys
same-Or xs ys =
    ap (λ x. same_expr x (e.Or ys)) (sym (e.rolls-Or xs))
    ∙ ap (λ (t : Test). t (e.Or ys)) (fold-roll-Expr Test PostTest PredTest expr_test post_test pred_test (Expr-F.Or xs))
    ∙ ap (λ o. same_level (Expr-F.Or (map same_expr xs)) o) (e.outs-Or ys)
    ∙ paired same_expr (λ test e. test e) xs ys

pub same-Xor : (xs ys : List Expr) → same_expr (e.Xor xs) (e.Xor ys) ≡ pointwise same_expr xs ys
same-Xor xs ys =
    ap (λ x. same_expr x (e.Xor ys)) (sym (e.rolls-Xor xs))
    ∙ ap (λ (t : Test). t (e.Xor ys)) (fold-roll-Expr Test PostTest PredTest expr_test post_test pred_test (Expr-F.Xor xs))
    ∙ ap (λ o. same_level (Expr-F.Xor (map same_expr xs)) o) (e.outs-Xor ys)
    ∙ paired same_expr (λ test e. test e) xs ys

pub same-And : (xs ys : List Expr) → same_expr (e.And xs) (e.And ys) ≡ pointwise same_expr xs ys
same-And xs ys =
    ap (λ x. same_expr x (e.And ys)) (sym (e.rolls-And xs))
    ∙ ap (λ (t : Test). t (e.And ys)) (fold-roll-Expr Test PostTest PredTest expr_test post_test pred_test (Expr-F.And xs))
    ∙ ap (λ o. same_level (Expr-F.And (map same_expr xs)) o) (e.outs-And ys)
    ∙ paired same_expr (λ test e. test e) xs ys

pub same-Call : (f : Fun) (xs : List Expr) (g : Fun) (ys : List Expr) → same_expr (e.Call f xs) (e.Call g ys) ≡ eqb (fun_place f) (fun_place g) && pointwise same_expr xs ys
same-Call f xs g ys =
    ap (λ x. same_expr x (e.Call g ys)) (sym (e.rolls-Call f xs))
    ∙ ap (λ (t : Test). t (e.Call g ys)) (fold-roll-Expr Test PostTest PredTest expr_test post_test pred_test (Expr-F.Call f xs))
    ∙ ap (λ o. same_level (Expr-F.Call f (map same_expr xs)) o) (e.outs-Call g ys)
    ∙ ap (λ r. eqb (fun_place f) (fun_place g) && r) (paired same_expr (λ test e. test e) xs ys)

pub same-Cmp : (a : Expr) (xs : List (CmpOp × Expr)) (b : Expr) (ys : List (CmpOp × Expr)) → same_expr (e.Cmp a xs) (e.Cmp b ys) ≡ same_expr a b && pointwise same_cmp xs ys
same-Cmp a xs b ys =
    ap (λ x. same_expr x (e.Cmp b ys)) (sym (e.rolls-Cmp a xs))
    ∙ ap (λ (t : Test). t (e.Cmp b ys)) (fold-roll-Expr Test PostTest PredTest expr_test post_test pred_test (Expr-F.Cmp a xs))
    ∙ ap (λ o. same_level (Expr-F.Cmp (same_expr a) (map (λ (q : CmpOp × Expr). (q.0, same_expr q.1)) xs)) o) (e.outs-Cmp b ys)
    ∙ ap (λ r. same_expr a b && r) (paired (λ (q : CmpOp × Expr). (q.0, same_expr q.1)) (λ t e. eqb (cmp_place t.0) (cmp_place e.0) && t.1 e.1) xs ys)

pub same-Sum : (a : Expr) (xs : List (SumOp × Expr)) (b : Expr) (ys : List (SumOp × Expr)) → same_expr (e.Sum a xs) (e.Sum b ys) ≡ same_expr a b && pointwise same_sum xs ys
same-Sum a xs b ys =
    ap (λ x. same_expr x (e.Sum b ys)) (sym (e.rolls-Sum a xs))
    ∙ ap (λ (t : Test). t (e.Sum b ys)) (fold-roll-Expr Test PostTest PredTest expr_test post_test pred_test (Expr-F.Sum a xs))
    ∙ ap (λ o. same_level (Expr-F.Sum (same_expr a) (map (λ (q : SumOp × Expr). (q.0, same_expr q.1)) xs)) o) (e.outs-Sum b ys)
    ∙ ap (λ r. same_expr a b && r) (paired (λ (q : SumOp × Expr). (q.0, same_expr q.1)) (λ t e. eqb (sum_place t.0) (sum_place e.0) && t.1 e.1) xs ys)

pub same-Prod : (a : Expr) (xs : List (ProdOp × Expr)) (b : Expr) (ys : List (ProdOp × Expr)) → same_expr (e.Prod a xs) (e.Prod b ys) ≡ same_expr a b && pointwise same_prod xs ys
same-Prod a xs b ys =
    ap (λ x. same_expr x (e.Prod b ys)) (sym (e.rolls-Prod a xs))
    ∙ ap (λ (t : Test). t (e.Prod b ys)) (fold-roll-Expr Test PostTest PredTest expr_test post_test pred_test (Expr-F.Prod a xs))
    ∙ ap (λ o. same_level (Expr-F.Prod (same_expr a) (map (λ (q : ProdOp × Expr). (q.0, same_expr q.1)) xs)) o) (e.outs-Prod b ys)
    ∙ ap (λ r. same_expr a b && r) (paired (λ (q : ProdOp × Expr). (q.0, same_expr q.1)) (λ t e. eqb (prod_place t.0) (prod_place e.0) && t.1 e.1) xs ys)

pub same-Pred : (a : Expr) (xs : List PredOp) (b : Expr) (ys : List PredOp) → same_expr (e.Pred a xs) (e.Pred b ys) ≡ same_expr a b && pointwise same_pred xs ys
same-Pred a xs b ys =
    ap (λ x. same_expr x (e.Pred b ys)) (sym (e.rolls-Pred a xs))
    ∙ ap (λ (t : Test). t (e.Pred b ys)) (fold-roll-Expr Test PostTest PredTest expr_test post_test pred_test (Expr-F.Pred a xs))
    ∙ ap (λ o. same_level (Expr-F.Pred (same_expr a) (map same_pred xs)) o) (e.outs-Pred b ys)
    ∙ ap (λ r. same_expr a b && r) (paired same_pred (λ t e. t e) xs ys)

pub same-Post : (a : Expr) (xs : List PostOp) (b : Expr) (ys : List PostOp) → same_expr (e.Post a xs) (e.Post b ys) ≡ same_expr a b && pointwise same_post xs ys
same-Post a xs b ys =
    ap (λ x. same_expr x (e.Post b ys)) (sym (e.rolls-Post a xs))
    ∙ ap (λ (t : Test). t (e.Post b ys)) (fold-roll-Expr Test PostTest PredTest expr_test post_test pred_test (Expr-F.Post a xs))
    ∙ ap (λ o. same_level (Expr-F.Post (same_expr a) (map same_post xs)) o) (e.outs-Post b ys)
    ∙ ap (λ r. same_expr a b && r) (paired same_post (λ t e. t e) xs ys)

pub same-Case : (of : Option Expr) (xs : List (Expr × Expr)) (other : Option Expr) (of' : Option Expr) (ys : List (Expr × Expr)) (other' : Option Expr)
    → same_expr (e.Case of xs other) (e.Case of' ys other') ≡ same_option of of' && (pointwise same_pair xs ys && same_option other other')
same-Case None xs None of' ys other' =
    ap (λ x. same_expr x (e.Case of' ys other')) (sym (e.rolls-Case None xs None))
    ∙ ap (λ (t : Test). t (e.Case of' ys other')) (fold-roll-Expr Test PostTest PredTest expr_test post_test pred_test (Expr-F.Case None xs None))
    ∙ ap (λ o. same_level (Expr-F.Case None (map (λ (w : Expr × Expr). (same_expr w.0, same_expr w.1)) xs) None) o) (e.outs-Case of' ys other')
    ∙ ap (λ r. may_pass None of' && (r && may_pass None other')) (paired (λ (w : Expr × Expr). (same_expr w.0, same_expr w.1)) (λ t e. t.0 e.0 && t.1 e.1) xs ys)
same-Case None xs (Some c) of' ys other' =
    ap (λ x. same_expr x (e.Case of' ys other')) (sym (e.rolls-Case None xs (Some c)))
    ∙ ap (λ (t : Test). t (e.Case of' ys other')) (fold-roll-Expr Test PostTest PredTest expr_test post_test pred_test (Expr-F.Case None xs (Some c)))
    ∙ ap (λ o. same_level (Expr-F.Case None (map (λ (w : Expr × Expr). (same_expr w.0, same_expr w.1)) xs) (Some (same_expr c))) o) (e.outs-Case of' ys other')
    ∙ ap (λ r. may_pass None of' && (r && may_pass (Some (same_expr c)) other')) (paired (λ (w : Expr × Expr). (same_expr w.0, same_expr w.1)) (λ t e. t.0 e.0 && t.1 e.1) xs ys)
same-Case (Some a) xs None of' ys other' =
    ap (λ x. same_expr x (e.Case of' ys other')) (sym (e.rolls-Case (Some a) xs None))
    ∙ ap (λ (t : Test). t (e.Case of' ys other')) (fold-roll-Expr Test PostTest PredTest expr_test post_test pred_test (Expr-F.Case (Some a) xs None))
    ∙ ap (λ o. same_level (Expr-F.Case (Some (same_expr a)) (map (λ (w : Expr × Expr). (same_expr w.0, same_expr w.1)) xs) None) o) (e.outs-Case of' ys other')
    ∙ ap (λ r. may_pass (Some (same_expr a)) of' && (r && may_pass None other')) (paired (λ (w : Expr × Expr). (same_expr w.0, same_expr w.1)) (λ t e. t.0 e.0 && t.1 e.1) xs ys)
same-Case (Some a) xs (Some c) of' ys other' =
    ap (λ x. same_expr x (e.Case of' ys other')) (sym (e.rolls-Case (Some a) xs (Some c)))
    ∙ ap (λ (t : Test). t (e.Case of' ys other')) (fold-roll-Expr Test PostTest PredTest expr_test post_test pred_test (Expr-F.Case (Some a) xs (Some c)))
    ∙ ap (λ o. same_level (Expr-F.Case (Some (same_expr a)) (map (λ (w : Expr × Expr). (same_expr w.0, same_expr w.1)) xs) (Some (same_expr c))) o) (e.outs-Case of' ys other')
    ∙ ap (λ r. may_pass (Some (same_expr a)) of' && (r && may_pass (Some (same_expr c)) other')) (paired (λ (w : Expr × Expr). (same_expr w.0, same_expr w.1)) (λ t e. t.0 e.0 && t.1 e.1) xs ys)
