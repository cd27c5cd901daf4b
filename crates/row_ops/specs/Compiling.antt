-- An expression with its aggregates taken out. In the stead of each stands its number as a name; they are counted in reading
-- order.
use Rattle.std.specs.Prelude.{ℕ, ◌+◌, true, false, List, [], ◌∷◌, ◌++◌, length, map, Option, Some, None}
use Rattle.std.specs.Fmt.{decimal}
use Rattle.graph_value.specs.declared.value.Value.TheVariants as value
use Rattle.cypher_syntax.specs.declared.tree.expr.Expr.{Expr, fold-Expr}
use Rattle.cypher_syntax.specs.declared.tree.expr.Expr.TheVariants as e
use Rattle.cypher_syntax.specs.declared.tree.expr.Expr.TheOpen.{Expr-F, PostOp-F, PredOp-F}
use Rattle.cypher_syntax.specs.declared.tree.expr.PostOp.{PostOp, fold-PostOp}
use Rattle.cypher_syntax.specs.declared.tree.expr.PostOp.TheVariants as post
use Rattle.cypher_syntax.specs.declared.tree.expr.PredOp.{PredOp, fold-PredOp}
use Rattle.cypher_syntax.specs.declared.tree.expr.PredOp.TheVariants as pred
use Rattle.cypher_syntax.specs.declared.tree.operators.AggFun.TheVariants.{Count}
use Rattle.row_ops.specs.declared.compiling.Aggregate.{Aggregate}

-- a part of an expression, as it stands when so many aggregates were taken out before it, and those that it has itself
pub record Part (T : Type 0) : Type 0 where
  pub filled : ℕ → T
  pub aggregates : List Aggregate

abbrev pub bare : {T : Type 0} → T → Part T
bare t = record { filled = λ n. t; aggregates = [] }

abbrev pub under : {S T : Type 0} → (S → T) → Part S → Part T
under f p = record { filled = λ n. f (p.filled n); aggregates = p.aggregates }

abbrev pub both : {R S T : Type 0} → (R → S → T) → Part R → Part S → Part T
both f p q =
    record { filled = λ n. f (p.filled n) (q.filled (n + length p.aggregates)); aggregates = p.aggregates ++ q.aggregates }

abbrev pub all : {T : Type 0} → List (Part T) → Part (List T)
all [] = bare []
all (p ∷ ps) = both (λ t ts. t ∷ ts) p (all ps)

abbrev pub optional : Option (Part Expr) → Part (Option Expr)
optional None = bare None
optional (Some p) = under Some p

abbrev pub beside : {Op : Type 0} → Op × Part Expr → Part (Op × Expr)
beside p = under (λ x. (p.0, x)) p.1

abbrev pub paired : Part Expr × Part Expr → Part (Expr × Expr)
paired p = both (λ x y. (x, y)) p.0 p.1

abbrev pub case_of : Part (Option Expr) → Part (List (Expr × Expr)) → Part (Option Expr) → Part Expr
case_of of whens other =
    let behind = λ (n : ℕ). n + length of.aggregates in record {
      filled = λ n. e.Case (of.filled n) (whens.filled (behind n)) (other.filled (behind n + length whens.aggregates));
      aggregates = of.aggregates ++ whens.aggregates ++ other.aggregates;
    }

abbrev pub number : ℕ → Expr
number n = e.Var (decimal n)

abbrev pub taken : Aggregate → Part Expr
taken a = record { filled = number; aggregates = a ∷ [] }

-- `count(*)` counts a value that stands in every row
abbrev pub every_row : Aggregate
every_row = record { fun = Count; distinct = false; of = e.Lit (value.Bool true) }

abbrev pub expr_level : Expr-F (Part Expr) (Part PostOp) (Part PredOp) → Part Expr
expr_level (Expr-F.Lit v) = bare (e.Lit v)
expr_level (Expr-F.Var name) = bare (e.Var name)
expr_level (Expr-F.List ps) = under e.List (all ps)
expr_level (Expr-F.Call f ps) = under (e.Call f) (all ps)
expr_level Expr-F.CountRows = taken every_row
expr_level (Expr-F.Agg f distinct p) = taken (record { fun = f; distinct = distinct; of = p.filled 0 })
expr_level (Expr-F.Case of whens other) = case_of (optional of) (all (map paired whens)) (optional other)
expr_level (Expr-F.Or ps) = under e.Or (all ps)
expr_level (Expr-F.Xor ps) = under e.Xor (all ps)
expr_level (Expr-F.And ps) = under e.And (all ps)
expr_level (Expr-F.Not p) = under e.Not p
expr_level (Expr-F.Cmp p rest) = both e.Cmp p (all (map beside rest))
expr_level (Expr-F.Pred p tests) = both e.Pred p (all tests)
expr_level (Expr-F.Sum p rest) = both e.Sum p (all (map beside rest))
expr_level (Expr-F.Prod p rest) = both e.Prod p (all (map beside rest))
expr_level (Expr-F.Sign op p) = under (e.Sign op) p
expr_level (Expr-F.Post p asked) = both e.Post p (all asked)

abbrev pub post_level : PostOp-F (Part Expr) (Part PostOp) (Part PredOp) → Part PostOp
post_level (PostOp-F.Prop name) = bare (post.Prop name)
post_level (PostOp-F.At p) = under post.At p
post_level (PostOp-F.Labels names) = bare (post.Labels names)

abbrev pub pred_level : PredOp-F (Part Expr) (Part PostOp) (Part PredOp) → Part PredOp
pred_level (PredOp-F.OneOf p) = under pred.OneOf p
pred_level (PredOp-F.Starts p) = under pred.Starts p
pred_level (PredOp-F.Ends p) = under pred.Ends p
pred_level (PredOp-F.Contains p) = under pred.Contains p
pred_level PredOp-F.IsNull = bare pred.IsNull
pred_level PredOp-F.IsNotNull = bare pred.IsNotNull

abbrev pub part_of : Expr → Part Expr
part_of = fold-Expr (Part Expr) (Part PostOp) (Part PredOp) expr_level post_level pred_level

abbrev pub post_part : PostOp → Part PostOp
post_part = fold-PostOp (Part Expr) (Part PostOp) (Part PredOp) expr_level post_level pred_level

abbrev pub pred_part : PredOp → Part PredOp
pred_part = fold-PredOp (Part Expr) (Part PostOp) (Part PredOp) expr_level post_level pred_level

-- of the parts of an expression
abbrev pub optional_part : Option Expr → Part (Option Expr)
optional_part None = bare None
optional_part (Some x) = under Some (part_of x)

abbrev pub all_parts : List Expr → Part (List Expr)
all_parts xs = all (map part_of xs)

abbrev pub pair_part : Expr × Expr → Part (Expr × Expr)
pair_part w = both (λ x y. (x, y)) (part_of w.0) (part_of w.1)

abbrev pub beside_part : {Op : Type 0} → Op × Expr → Part (Op × Expr)
beside_part p = under (λ x. (p.0, x)) (part_of p.1)
