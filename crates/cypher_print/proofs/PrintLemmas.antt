-- The pieces of an expression by its operands.
use Rattle.std.proofs.Common.{◌≡◌, ℕ, Bool, true, false, cond, List, [], ◌∷◌, ◌++◌, map, Option, Some, None, codes, Result, Ok, Err, OnOk, refl, sym, ap, ◌∙◌}
use Rattle.std.specs.List.{flat_map}
use Rattle.graph_value.specs.declared.value.Value.{Value, out-Value}
use Rattle.cypher_syntax.specs.declared.tree.expr.Expr.{Expr, out-Expr, roll-Expr, roll-out-Expr, fold-roll-Expr}
use Rattle.cypher_syntax.specs.declared.tree.expr.Expr.TheVariants as e
use Rattle.cypher_syntax.specs.declared.tree.expr.Expr.TheOpen.{Expr-F}
use Rattle.cypher_syntax.specs.declared.tree.expr.PostOp.{PostOp}
use Rattle.cypher_syntax.specs.declared.tree.expr.PredOp.{PredOp}
use Rattle.cypher_syntax.specs.declared.tree.operators.CmpOp.{CmpOp}
use Rattle.cypher_syntax.specs.declared.tree.operators.SumOp.{SumOp}
use Rattle.cypher_syntax.specs.declared.tree.operators.ProdOp.{ProdOp}
use Rattle.cypher_syntax.specs.declared.tree.operators.Fun.{Fun}
use Rattle.cypher_syntax.specs.declared.tree.operators.AggFun.{AggFun}
use Rattle.cypher_print.specs.Pieces.{Pieces, written, value, name, cmp_text, sum_text, sign_text, prod_text, fun_text, agg_text}
use Rattle.cypher_print.specs.Printed.{Placed, level_at, is_signed, bracketed, joined, distinct_word, expr_level, post_level, pred_level, expr, post, pred, option, branch}

fused : {X Y : Type 0} (g : X → Y) (f : Y → Pieces) (xs : List X) → flat_map f (map g xs) ≡ flat_map (λ x. f (g x)) xs
fused g f [] = refl
fused g f (x ∷ xs) = ap (λ ys. f (g x) ++ ys) (fused g f xs)

fused_joined : {X Y : Type 0} (s : List ℕ) (g : X → Y) (f : Y → Pieces) (xs : List X) → joined s f (map g xs) ≡ joined s (λ x. f (g x)) xs
fused_joined s g f [] = refl
fused_joined s g f (x ∷ xs) = ap (λ ys. f (g x) ++ ys) (fused g (λ y. s ∷ f y) xs)

lit_bare : (b : Bool) (ps : Pieces) → ps ≡ bracketed (cond b 8 10) 0 ps
lit_bare true ps = refl
lit_bare false ps = refl

-- at a place that asks for a level, by what is bare
by_level : (x : Expr-F Expr PostOp PredOp) (need : ℕ) → expr (roll-Expr x) need ≡ bracketed (level_at x) need (expr (roll-Expr x) 0)
by_level (Expr-F.Lit v) need =
    ap (λ m. m need) (fold-roll-Expr Placed Pieces Pieces expr_level post_level pred_level (Expr-F.Lit v))
    ∙ ap (bracketed (cond (is_signed (out-Value v)) 8 10) need) (lit_bare (is_signed (out-Value v)) (value v))
    ∙ sym (ap (λ m. bracketed (cond (is_signed (out-Value v)) 8 10) need (m 0)) (fold-roll-Expr Placed Pieces Pieces expr_level post_level pred_level (Expr-F.Lit v)))
by_level (Expr-F.Var n) need =
    ap (λ m. m need) (fold-roll-Expr Placed Pieces Pieces expr_level post_level pred_level (Expr-F.Var n))
    ∙ sym (ap (λ m. bracketed 10 need (m 0)) (fold-roll-Expr Placed Pieces Pieces expr_level post_level pred_level (Expr-F.Var n)))
by_level (Expr-F.List xs) need =
    ap (λ m. m need) (fold-roll-Expr Placed Pieces Pieces expr_level post_level pred_level (Expr-F.List xs))
    ∙ sym (ap (λ m. bracketed 10 need (m 0)) (fold-roll-Expr Placed Pieces Pieces expr_level post_level pred_level (Expr-F.List xs)))
by_level (Expr-F.Call f xs) need =
    ap (λ m. m need) (fold-roll-Expr Placed Pieces Pieces expr_level post_level pred_level (Expr-F.Call f xs))
    ∙ sym (ap (λ m. bracketed 10 need (m 0)) (fold-roll-Expr Placed Pieces Pieces expr_level post_level pred_level (Expr-F.Call f xs)))
by_level Expr-F.CountRows need =
    ap (λ m. m need) (fold-roll-Expr Placed Pieces Pieces expr_level post_level pred_level Expr-F.CountRows)
    ∙ sym (ap (λ m. bracketed 10 need (m 0)) (fold-roll-Expr Placed Pieces Pieces expr_level post_level pred_level Expr-F.CountRows))
by_level (Expr-F.Agg f d x) need =
    ap (λ m. m need) (fold-roll-Expr Placed Pieces Pieces expr_level post_level pred_level (Expr-F.Agg f d x))
    ∙ sym (ap (λ m. bracketed 10 need (m 0)) (fold-roll-Expr Placed Pieces Pieces expr_level post_level pred_level (Expr-F.Agg f d x)))
by_level (Expr-F.Case of ws other) need =
    ap (λ m. m need) (fold-roll-Expr Placed Pieces Pieces expr_level post_level pred_level (Expr-F.Case of ws other))
    ∙ sym (ap (λ m. bracketed 10 need (m 0)) (fold-roll-Expr Placed Pieces Pieces expr_level post_level pred_level (Expr-F.Case of ws other)))
by_level (Expr-F.Or xs) need =
    ap (λ m. m need) (fold-roll-Expr Placed Pieces Pieces expr_level post_level pred_level (Expr-F.Or xs))
    ∙ sym (ap (λ m. bracketed 0 need (m 0)) (fold-roll-Expr Placed Pieces Pieces expr_level post_level pred_level (Expr-F.Or xs)))
by_level (Expr-F.Xor xs) need =
    ap (λ m. m need) (fold-roll-Expr Placed Pieces Pieces expr_level post_level pred_level (Expr-F.Xor xs))
    ∙ sym (ap (λ m. bracketed 1 need (m 0)) (fold-roll-Expr Placed Pieces Pieces expr_level post_level pred_level (Expr-F.Xor xs)))
by_level (Expr-F.And xs) need =
    ap (λ m. m need) (fold-roll-Expr Placed Pieces Pieces expr_level post_level pred_level (Expr-F.And xs))
    ∙ sym (ap (λ m. bracketed 2 need (m 0)) (fold-roll-Expr Placed Pieces Pieces expr_level post_level pred_level (Expr-F.And xs)))
by_level (Expr-F.Not x) need =
    ap (λ m. m need) (fold-roll-Expr Placed Pieces Pieces expr_level post_level pred_level (Expr-F.Not x))
    ∙ sym (ap (λ m. bracketed 3 need (m 0)) (fold-roll-Expr Placed Pieces Pieces expr_level post_level pred_level (Expr-F.Not x)))
by_level (Expr-F.Cmp x xs) need =
    ap (λ m. m need) (fold-roll-Expr Placed Pieces Pieces expr_level post_level pred_level (Expr-F.Cmp x xs))
    ∙ sym (ap (λ m. bracketed 4 need (m 0)) (fold-roll-Expr Placed Pieces Pieces expr_level post_level pred_level (Expr-F.Cmp x xs)))
by_level (Expr-F.Pred x xs) need =
    ap (λ m. m need) (fold-roll-Expr Placed Pieces Pieces expr_level post_level pred_level (Expr-F.Pred x xs))
    ∙ sym (ap (λ m. bracketed 5 need (m 0)) (fold-roll-Expr Placed Pieces Pieces expr_level post_level pred_level (Expr-F.Pred x xs)))
by_level (Expr-F.Sum x xs) need =
    ap (λ m. m need) (fold-roll-Expr Placed Pieces Pieces expr_level post_level pred_level (Expr-F.Sum x xs))
    ∙ sym (ap (λ m. bracketed 6 need (m 0)) (fold-roll-Expr Placed Pieces Pieces expr_level post_level pred_level (Expr-F.Sum x xs)))
by_level (Expr-F.Prod x xs) need =
    ap (λ m. m need) (fold-roll-Expr Placed Pieces Pieces expr_level post_level pred_level (Expr-F.Prod x xs))
    ∙ sym (ap (λ m. bracketed 7 need (m 0)) (fold-roll-Expr Placed Pieces Pieces expr_level post_level pred_level (Expr-F.Prod x xs)))
by_level (Expr-F.Sign o x) need =
    ap (λ m. m need) (fold-roll-Expr Placed Pieces Pieces expr_level post_level pred_level (Expr-F.Sign o x))
    ∙ sym (ap (λ m. bracketed 8 need (m 0)) (fold-roll-Expr Placed Pieces Pieces expr_level post_level pred_level (Expr-F.Sign o x)))
by_level (Expr-F.Post x xs) need =
    ap (λ m. m need) (fold-roll-Expr Placed Pieces Pieces expr_level post_level pred_level (Expr-F.Post x xs))
    ∙ sym (ap (λ m. bracketed 9 need (m 0)) (fold-roll-Expr Placed Pieces Pieces expr_level post_level pred_level (Expr-F.Post x xs)))

pub placed : (x : Expr) (need : ℕ) → expr x need ≡ bracketed (level_at (out-Expr x)) need (expr x 0)
placed x need =
    ap (λ y. expr y need) (sym (roll-out-Expr x)) ∙ by_level (out-Expr x) need ∙ ap (λ y. bracketed (level_at (out-Expr x)) need (expr y 0)) (roll-out-Expr x)

pub print-Lit : (v : Value) → expr (e.Lit v) 0 ≡ value v
print-Lit v =
    ap (λ x. expr x 0) (sym (e.rolls-Lit v))
    ∙ ap (λ (m : Placed). m 0) (fold-roll-Expr Placed Pieces Pieces expr_level post_level pred_level (Expr-F.Lit v))
    ∙ sym (lit_bare (is_signed (out-Value v)) (value v))

pub print-Var : (n : List ℕ) → expr (e.Var n) 0 ≡ name n
print-Var n =
    ap (λ x. expr x 0) (sym (e.rolls-Var n))
    ∙ ap (λ (m : Placed). m 0) (fold-roll-Expr Placed Pieces Pieces expr_level post_level pred_level (Expr-F.Var n))
    ∙ refl

pub print-CountRows : expr (e.CountRows) 0 ≡ codes "count(*)" ∷ []
print-CountRows =
    ap (λ x. expr x 0) (sym (e.rolls-CountRows))
    ∙ ap (λ (m : Placed). m 0) (fold-roll-Expr Placed Pieces Pieces expr_level post_level pred_level Expr-F.CountRows)
    ∙ refl

pub print-List : (xs : List Expr) → expr (e.List xs) 0 ≡ codes "[" ∷ (joined (codes ", ") (λ x. expr x 0) xs ++ codes "]" ∷ [])
print-List xs =
    ap (λ x. expr x 0) (sym (e.rolls-List xs))
    ∙ ap (λ (m : Placed). m 0) (fold-roll-Expr Placed Pieces Pieces expr_level post_level pred_level (Expr-F.List xs))
    ∙ ap (λ ys. codes "[" ∷ (ys ++ codes "]" ∷ [])) (fused_joined (codes ", ") expr (λ m. m 0) xs)

pub print-Call : (f : Fun) (xs : List Expr) → expr (e.Call f xs) 0 ≡ fun_text f ∷ codes "(" ∷ (joined (codes ", ") (λ x. expr x 0) xs ++ codes ")" ∷ [])
print-Call f xs =
    ap (λ x. expr x 0) (sym (e.rolls-Call f xs))
    ∙ ap (λ (m : Placed). m 0) (fold-roll-Expr Placed Pieces Pieces expr_level post_level pred_level (Expr-F.Call f xs))
    ∙ ap (λ ys. fun_text f ∷ codes "(" ∷ (ys ++ codes ")" ∷ [])) (fused_joined (codes ", ") expr (λ m. m 0) xs)

pub print-Agg : (f : AggFun) (d : Bool) (x : Expr) → expr (e.Agg f d x) 0 ≡ agg_text f ∷ codes "(" ∷ (distinct_word d ++ expr x 0 ++ codes ")" ∷ [])
print-Agg f d x =
    ap (λ x. expr x 0) (sym (e.rolls-Agg f d x))
    ∙ ap (λ (m : Placed). m 0) (fold-roll-Expr Placed Pieces Pieces expr_level post_level pred_level (Expr-F.Agg f d x))
    ∙ refl

pub print-Or : (xs : List Expr) → expr (e.Or xs) 0 ≡ joined (codes " OR ") (λ x. expr x 1) xs
print-Or xs =
    ap (λ x. expr x 0) (sym (e.rolls-Or xs))
    ∙ ap (λ (m : Placed). m 0) (fold-roll-Expr Placed Pieces Pieces expr_level post_level pred_level (Expr-F.Or xs))
    ∙ fused_joined (codes " OR ") expr (λ m. m 1) xs

pub print-Xor : (xs : List Expr) → expr (e.Xor xs) 0 ≡ joined (codes " XOR ") (λ x. expr x 2) xs
print-Xor xs =
    ap (λ x. expr x 0) (sym (e.rolls-Xor xs))
    ∙ ap (λ (m : Placed). m 0) (fold-roll-Expr Placed Pieces Pieces expr_level post_level pred_level (Expr-F.Xor xs))
    ∙ fused_joined (codes " XOR ") expr (λ m. m 2) xs

pub print-And : (xs : List Expr) → expr (e.And xs) 0 ≡ joined (codes " AND ") (λ x. expr x 3) xs
print-And xs =
    ap (λ x. expr x 0) (sym (e.rolls-And xs))
    ∙ ap (λ (m : Placed). m 0) (fold-roll-Expr Placed Pieces Pieces expr_level post_level pred_level (Expr-F.And xs))
    ∙ fused_joined (codes " AND ") expr (λ m. m 3) xs

pub print-Not : (x : Expr) → expr (e.Not x) 0 ≡ codes "NOT " ∷ expr x 3
print-Not x =
    ap (λ x. expr x 0) (sym (e.rolls-Not x))
    ∙ ap (λ (m : Placed). m 0) (fold-roll-Expr Placed Pieces Pieces expr_level post_level pred_level (Expr-F.Not x))
    ∙ refl

pub print-Sign : (o : SumOp) (x : Expr) → expr (e.Sign o x) 0 ≡ sign_text o ∷ expr x 8
print-Sign o x =
    ap (λ x. expr x 0) (sym (e.rolls-Sign o x))
    ∙ ap (λ (m : Placed). m 0) (fold-roll-Expr Placed Pieces Pieces expr_level post_level pred_level (Expr-F.Sign o x))
    ∙ refl

pub print-Cmp : (x : Expr) (xs : List (CmpOp × Expr)) → expr (e.Cmp x xs) 0 ≡ expr x 5 ++ flat_map (λ q. cmp_text q.0 ∷ expr q.1 5) xs
print-Cmp x xs =
    ap (λ x. expr x 0) (sym (e.rolls-Cmp x xs))
    ∙ ap (λ (m : Placed). m 0) (fold-roll-Expr Placed Pieces Pieces expr_level post_level pred_level (Expr-F.Cmp x xs))
    ∙ ap (λ ys. expr x 5 ++ ys) (fused (λ (q : CmpOp × Expr). (q.0, expr q.1)) (λ q. cmp_text q.0 ∷ q.1 5) xs)

pub print-Sum : (x : Expr) (xs : List (SumOp × Expr)) → expr (e.Sum x xs) 0 ≡ expr x 7 ++ flat_map (λ q. sum_text q.0 ∷ expr q.1 7) xs
print-Sum x xs =
    ap (λ x. expr x 0) (sym (e.rolls-Sum x xs))
    ∙ ap (λ (m : Placed). m 0) (fold-roll-Expr Placed Pieces Pieces expr_level post_level pred_level (Expr-F.Sum x xs))
    ∙ ap (λ ys. expr x 7 ++ ys) (fused (λ (q : SumOp × Expr). (q.0, expr q.1)) (λ q. sum_text q.0 ∷ q.1 7) xs)

pub print-Prod : (x : Expr) (xs : List (ProdOp × Expr)) → expr (e.Prod x xs) 0 ≡ expr x 8 ++ flat_map (λ q. prod_text q.0 ∷ expr q.1 8) xs
print-Prod x xs =
    ap (λ x. expr x 0) (sym (e.rolls-Prod x xs))
    ∙ ap (λ (m : Placed). m 0) (fold-roll-Expr Placed Pieces Pieces expr_level post_level pred_level (Expr-F.Prod x xs))
    ∙ ap (λ ys. expr x 8 ++ ys) (fused (λ (q : ProdOp × Expr). (q.0, expr q.1)) (λ q. prod_text q.0 ∷ q.1 8) xs)

pub print-Pred : (x : Expr) (xs : List PredOp) → expr (e.Pred x xs) 0 ≡ expr x 6 ++ flat_map pred xs
print-Pred x xs =
    ap (λ x. expr x 0) (sym (e.rolls-Pred x xs))
    ∙ ap (λ (m : Placed). m 0) (fold-roll-Expr Placed Pieces Pieces expr_level post_level pred_level (Expr-F.Pred x xs))
    ∙ ap (λ ys. expr x 6 ++ ys) (fused pred (λ m. m) xs)

pub print-Post : (x : Expr) (xs : List PostOp) → expr (e.Post x xs) 0 ≡ expr x 10 ++ flat_map post xs
print-Post x xs =
    ap (λ x. expr x 0) (sym (e.rolls-Post x xs))
    ∙ ap (λ (m : Placed). m 0) (fold-roll-Expr Placed Pieces Pieces expr_level post_level pred_level (Expr-F.Post x xs))
    ∙ ap (λ ys. expr x 10 ++ ys) (fused post (λ m. m) xs)

pub print-Case : (of : Option Expr) (ws : List (Expr × Expr)) (other : Option Expr) → expr (e.Case of ws other) 0
    ≡ codes "CASE" ∷ (option (codes " ") of ++ flat_map branch ws ++ option (codes " ELSE ") other ++ codes " END" ∷ [])
print-Case None ws None =
    ap (λ x. expr x 0) (sym (e.rolls-Case None ws None))
    ∙ ap (λ (m : Placed). m 0) (fold-roll-Expr Placed Pieces Pieces expr_level post_level pred_level (Expr-F.Case None ws None))
    ∙ ap (λ ys. codes "CASE" ∷ ([] ++ ys ++ [] ++ codes " END" ∷ [])) (fused (λ (w : Expr × Expr). (expr w.0, expr w.1)) (λ w. (codes " WHEN " ∷ w.0 0) ++ (codes " THEN " ∷ w.1 0)) ws)
print-Case None ws (Some b) =
    ap (λ x. expr x 0) (sym (e.rolls-Case None ws (Some b)))
    ∙ ap (λ (m : Placed). m 0) (fold-roll-Expr Placed Pieces Pieces expr_level post_level pred_level (Expr-F.Case None ws (Some b)))
    ∙ ap (λ ys. codes "CASE" ∷ ([] ++ ys ++ (codes " ELSE " ∷ expr b 0) ++ codes " END" ∷ [])) (fused (λ (w : Expr × Expr). (expr w.0, expr w.1)) (λ w. (codes " WHEN " ∷ w.0 0) ++ (codes " THEN " ∷ w.1 0)) ws)
print-Case (Some a) ws None =
    ap (λ x. expr x 0) (sym (e.rolls-Case (Some a) ws None))
    ∙ ap (λ (m : Placed). m 0) (fold-roll-Expr Placed Pieces Pieces expr_level post_level pred_level (Expr-F.Case (Some a) ws None))
    ∙ ap (λ ys. codes "CASE" ∷ ((codes " " ∷ expr a 0) ++ ys ++ [] ++ codes " END" ∷ [])) (fused (λ (w : Expr × Expr). (expr w.0, expr w.1)) (λ w. (codes " WHEN " ∷ w.0 0) ++ (codes " THEN " ∷ w.1 0)) ws)
print-Case (Some a) ws (Some b) =
    ap (λ x. expr x 0) (sym (e.rolls-Case (Some a) ws (Some b)))
    ∙ ap (λ (m : Placed). m 0) (fold-roll-Expr Placed Pieces Pieces expr_level post_level pred_level (Expr-F.Case (Some a) ws (Some b)))
    ∙ ap (λ ys. codes "CASE" ∷ ((codes " " ∷ expr a 0) ++ ys ++ (codes " ELSE " ∷ expr b 0) ++ codes " END" ∷ [])) (fused (λ (w : Expr × Expr). (expr w.0, expr w.1)) (λ w. (codes " WHEN " ∷ w.0 0) ++ (codes " THEN " ∷ w.1 0)) ws)

pub written-append : (text : List ℕ) (xs ys : Pieces) → written text (xs ++ ys) ≡ written (written text xs) ys
written-append text [] ys = refl
written-append text (x ∷ xs) ys = written-append (text ++ x) xs ys

pub written-Case : (text : List ℕ) (of : Option Expr) (ws : List (Expr × Expr)) (other : Option Expr) → written text (expr (e.Case of ws other) 0)
    ≡ written (written (written (text ++ codes "CASE") (option (codes " ") of)) (flat_map branch ws)) (option (codes " ELSE ") other) ++ codes " END"
written-Case text of ws other =
    ap (written text) (print-Case of ws other)
    ∙ written-append (text ++ codes "CASE") (option (codes " ") of ++ flat_map branch ws ++ option (codes " ELSE ") other) (codes " END" ∷ [])
    ∙ ap (λ t. t ++ codes " END") (
    written-append (text ++ codes "CASE") (option (codes " ") of ++ flat_map branch ws) (option (codes " ELSE ") other)
    ∙ ap (λ t. written t (option (codes " ELSE ") other)) (written-append (text ++ codes "CASE") (option (codes " ") of) (flat_map branch ws))
    )

pub on_ok : {T E : Type 0} (r : Result T E) (P Q : Type 0) → (P → Q) → OnOk r P → OnOk r Q
on_ok (Ok x) P Q f h = f h
on_ok (Err e) P Q f h = h

pub ruleset printed_rules = (print-List, print-Call, print-Agg, written-Case, print-Or, print-Xor, print-And, print-Cmp, print-Pred, print-Sum, print-Prod, print-Post, written-append)
