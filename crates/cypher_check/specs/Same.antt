-- Whether two expressions are the same tree.
use Rattle.std.specs.Prelude.{ℕ, Bool, true, false, ◌==◌, ◌&&◌, List, Option, Some, None, option_map}
use Rattle.std.specs.Str.{bytes_eq}
use Rattle.std.specs.Cmp.Lexicographic.{pointwise}
use Rattle.graph_value.specs.Value.{same_value, same_bool}
use Rattle.cypher_syntax.specs.declared.tree.expr.Expr.{Expr, out-Expr, fold-Expr}
use Rattle.cypher_syntax.specs.declared.tree.expr.Expr.TheOpen.{Expr-F, PostOp-F, PredOp-F}
use Rattle.cypher_syntax.specs.declared.tree.expr.PostOp.{PostOp, out-PostOp, fold-PostOp}
use Rattle.cypher_syntax.specs.declared.tree.expr.PredOp.{PredOp, out-PredOp, fold-PredOp}
use Rattle.cypher_syntax.specs.declared.tree.operators.CmpOp.{CmpOp}
use Rattle.cypher_syntax.specs.declared.tree.operators.CmpOp.TheVariants as cmp
use Rattle.cypher_syntax.specs.declared.tree.operators.SumOp.{SumOp}
use Rattle.cypher_syntax.specs.declared.tree.operators.SumOp.TheVariants as sum
use Rattle.cypher_syntax.specs.declared.tree.operators.ProdOp.{ProdOp}
use Rattle.cypher_syntax.specs.declared.tree.operators.ProdOp.TheVariants as prod
use Rattle.cypher_syntax.specs.declared.tree.operators.Fun.{Fun}
use Rattle.cypher_syntax.specs.declared.tree.operators.Fun.TheVariants as fun
use Rattle.cypher_syntax.specs.declared.tree.operators.AggFun.{AggFun}
use Rattle.cypher_syntax.specs.declared.tree.operators.AggFun.TheVariants as agg

-- the places of operators and functions among their kind

abbrev pub cmp_place : CmpOp → ℕ
cmp_place cmp.Eq = 0
cmp_place cmp.Ne = 1
cmp_place cmp.Lt = 2
cmp_place cmp.Le = 3
cmp_place cmp.Gt = 4
cmp_place cmp.Ge = 5

abbrev pub sum_place : SumOp → ℕ
sum_place sum.Plus = 0
sum_place sum.Minus = 1

abbrev pub prod_place : ProdOp → ℕ
prod_place prod.Times = 0
prod_place prod.Over = 1
prod_place prod.Rest = 2

abbrev pub fun_place : Fun → ℕ
fun_place fun.Id = 0
fun_place fun.Labels = 1
fun_place fun.Kind = 2
fun_place fun.StartNode = 3
fun_place fun.EndNode = 4
fun_place fun.Keys = 5
fun_place fun.Size = 6
fun_place fun.Head = 7
fun_place fun.Last = 8
fun_place fun.Abs = 9
fun_place fun.ToText = 10
fun_place fun.ToInteger = 11
fun_place fun.Range = 12
fun_place fun.Coalesce = 13

abbrev pub agg_place : AggFun → ℕ
agg_place agg.Count = 0
agg_place agg.Sum = 1
agg_place agg.Min = 2
agg_place agg.Max = 3
agg_place agg.Collect = 4

-- Below, on the left each operand stands as the test whether an expression is the same as it.
abbrev pub Test : Type 0
Test = Expr → Bool

abbrev pub PostTest : Type 0
PostTest = PostOp → Bool

abbrev pub PredTest : Type 0
PredTest = PredOp → Bool

abbrev pub all_pass : List Test → List Expr → Bool
all_pass tests es = pointwise (λ test e. test e) tests es

abbrev pub may_pass : Option Test → Option Expr → Bool
may_pass None None = true
may_pass (Some test) (Some e) = test e
may_pass None (Some e) = false
may_pass (Some test) None = false

abbrev pub same_level : Expr-F Test PostTest PredTest → Expr-F Expr PostOp PredOp → Bool
same_level (Expr-F.Lit v) (Expr-F.Lit w) = same_value v w
same_level (Expr-F.Var a) (Expr-F.Var b) = bytes_eq a b
same_level (Expr-F.List ts) (Expr-F.List es) = all_pass ts es
same_level (Expr-F.Call f ts) (Expr-F.Call g es) = fun_place f == fun_place g && all_pass ts es
same_level Expr-F.CountRows Expr-F.CountRows = true
same_level (Expr-F.Agg f d t) (Expr-F.Agg g c e) = agg_place f == agg_place g && same_bool d c && t e
same_level (Expr-F.Case of ts other) (Expr-F.Case of' es other') =
    may_pass of of' && (pointwise (λ t e. t.0 e.0 && t.1 e.1) ts es && may_pass other other')
same_level (Expr-F.Or ts) (Expr-F.Or es) = all_pass ts es
same_level (Expr-F.Xor ts) (Expr-F.Xor es) = all_pass ts es
same_level (Expr-F.And ts) (Expr-F.And es) = all_pass ts es
same_level (Expr-F.Not t) (Expr-F.Not e) = t e
same_level (Expr-F.Cmp t ts) (Expr-F.Cmp e es) = t e && pointwise (λ t e. cmp_place t.0 == cmp_place e.0 && t.1 e.1) ts es
same_level (Expr-F.Pred t ts) (Expr-F.Pred e es) = t e && pointwise (λ t e. t e) ts es
same_level (Expr-F.Sum t ts) (Expr-F.Sum e es) = t e && pointwise (λ t e. sum_place t.0 == sum_place e.0 && t.1 e.1) ts es
same_level (Expr-F.Prod t ts) (Expr-F.Prod e es) = t e && pointwise (λ t e. prod_place t.0 == prod_place e.0 && t.1 e.1) ts es
same_level (Expr-F.Sign o t) (Expr-F.Sign p e) = sum_place o == sum_place p && t e
same_level (Expr-F.Post t ts) (Expr-F.Post e es) = t e && pointwise (λ t e. t e) ts es
same_level t e = false

abbrev pub same_post_level : PostOp-F Test PostTest PredTest → PostOp-F Expr PostOp PredOp → Bool
same_post_level (PostOp-F.Prop a) (PostOp-F.Prop b) = bytes_eq a b
same_post_level (PostOp-F.At t) (PostOp-F.At e) = t e
same_post_level (PostOp-F.Labels names) (PostOp-F.Labels others) = pointwise bytes_eq names others
same_post_level t e = false

abbrev pub same_pred_level : PredOp-F Test PostTest PredTest → PredOp-F Expr PostOp PredOp → Bool
same_pred_level (PredOp-F.OneOf t) (PredOp-F.OneOf e) = t e
same_pred_level (PredOp-F.Starts t) (PredOp-F.Starts e) = t e
same_pred_level (PredOp-F.Ends t) (PredOp-F.Ends e) = t e
same_pred_level (PredOp-F.Contains t) (PredOp-F.Contains e) = t e
same_pred_level PredOp-F.IsNull PredOp-F.IsNull = true
same_pred_level PredOp-F.IsNotNull PredOp-F.IsNotNull = true
same_pred_level t e = false

abbrev pub expr_test : Expr-F Test PostTest PredTest → Test
expr_test t e = same_level t (out-Expr e)

abbrev pub post_test : PostOp-F Test PostTest PredTest → PostTest
post_test t e = same_post_level t (out-PostOp e)

abbrev pub pred_test : PredOp-F Test PostTest PredTest → PredTest
pred_test t e = same_pred_level t (out-PredOp e)

abbrev pub same_expr : Expr → Expr → Bool
same_expr = fold-Expr Test PostTest PredTest expr_test post_test pred_test

abbrev pub same_post : PostOp → PostOp → Bool
same_post = fold-PostOp Test PostTest PredTest expr_test post_test pred_test

abbrev pub same_pred : PredOp → PredOp → Bool
same_pred = fold-PredOp Test PostTest PredTest expr_test post_test pred_test

abbrev pub same_option : Option Expr → Option Expr → Bool
same_option a b = may_pass (option_map same_expr a) b

abbrev pub same_pair : Expr × Expr → Expr × Expr → Bool
same_pair a b = same_expr a.0 b.0 && same_expr a.1 b.1

abbrev pub same_cmp : CmpOp × Expr → CmpOp × Expr → Bool
same_cmp a b = cmp_place a.0 == cmp_place b.0 && same_expr a.1 b.1

abbrev pub same_sum : SumOp × Expr → SumOp × Expr → Bool
same_sum a b = sum_place a.0 == sum_place b.0 && same_expr a.1 b.1

abbrev pub same_prod : ProdOp × Expr → ProdOp × Expr → Bool
same_prod a b = prod_place a.0 == prod_place b.0 && same_expr a.1 b.1
