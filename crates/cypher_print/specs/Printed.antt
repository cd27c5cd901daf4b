-- The printed form of an expression. Parentheses stand only where an operand binds less than its place asks.
use Rattle.std.specs.Prelude.{ℕ, nat_lt, Bool, true, false, List, [], ◌∷◌, ◌++◌, Option, Some, None, codes, if◌then◌else◌, int_lt, pos}
use Rattle.std.specs.List.{flat_map}
use Rattle.graph_value.specs.declared.value.Value.{Value, out-Value}
use Rattle.graph_value.specs.declared.value.Value.TheOpen.{Value-F}
use Rattle.cypher_syntax.specs.declared.tree.expr.Expr.{Expr, fold-Expr}
use Rattle.cypher_syntax.specs.declared.tree.expr.Expr.TheOpen.{Expr-F, PostOp-F, PredOp-F}
use Rattle.cypher_syntax.specs.declared.tree.expr.PostOp.{PostOp, fold-PostOp}
use Rattle.cypher_syntax.specs.declared.tree.expr.PredOp.{PredOp, fold-PredOp}
use Rattle.cypher_print.specs.Pieces.{Pieces, schema, name, value, cmp_text, sum_text, sign_text, prod_text, fun_text, agg_text}

-- How tightly an operator binds: OR 0, XOR 1, AND 2, NOT 3, comparisons 4, tests 5, sums 6, products 7, signs 8, what stands
-- behind an operand 9, and what stands alone 10. The least integer has a sign.
abbrev pub is_signed : Value-F Value → Bool
is_signed (Value-F.Int n) = int_lt n (pos 0)
is_signed _ = false

abbrev pub level_at : {A B C : Type 0} → Expr-F A B C → ℕ
level_at (Expr-F.Lit v) = if is_signed (out-Value v) then 8 else 10
level_at (Expr-F.Var n) = 10
level_at (Expr-F.List items) = 10
level_at (Expr-F.Call fun items) = 10
level_at Expr-F.CountRows = 10
level_at (Expr-F.Agg fun distinct of) = 10
level_at (Expr-F.Case of whens other) = 10
level_at (Expr-F.Or items) = 0
level_at (Expr-F.Xor items) = 1
level_at (Expr-F.And items) = 2
level_at (Expr-F.Not e) = 3
level_at (Expr-F.Cmp first rest) = 4
level_at (Expr-F.Pred first tests) = 5
level_at (Expr-F.Sum first rest) = 6
level_at (Expr-F.Prod first rest) = 7
level_at (Expr-F.Sign op e) = 8
level_at (Expr-F.Post first asked) = 9

-- Below each operand stands as its pieces at a place that asks for a level.
abbrev pub Placed : Type 0
Placed = ℕ → Pieces

-- in parentheses where the level is below the one that is asked for
abbrev pub bracketed : ℕ → ℕ → Pieces → Pieces
bracketed own need pieces = if nat_lt own need then codes "(" ∷ (pieces ++ codes ")" ∷ []) else pieces

-- with separators between
abbrev pub joined : {X : Type 0} → List ℕ → (X → Pieces) → List X → Pieces
joined separator f [] = []
joined separator f (x ∷ xs) = f x ++ flat_map (λ y. separator ∷ f y) xs

abbrev pub behind_word : List ℕ → Option Placed → Pieces
behind_word word None = []
behind_word word (Some e) = word ∷ e 0

abbrev pub distinct_word : Bool → Pieces
distinct_word true = codes "DISTINCT " ∷ []
distinct_word false = []

abbrev pub bare_level : Expr-F Placed Pieces Pieces → Pieces
bare_level (Expr-F.Lit v) = value v
bare_level (Expr-F.Var n) = name n
bare_level (Expr-F.List items) = codes "[" ∷ (joined (codes ", ") (λ e. e 0) items ++ codes "]" ∷ [])
bare_level (Expr-F.Call fun items) = fun_text fun ∷ codes "(" ∷ (joined (codes ", ") (λ e. e 0) items ++ codes ")" ∷ [])
bare_level Expr-F.CountRows = codes "count(*)" ∷ []
bare_level (Expr-F.Agg fun distinct of) = agg_text fun ∷ codes "(" ∷ (distinct_word distinct ++ of 0 ++ codes ")" ∷ [])
bare_level (Expr-F.Case of whens other) =
    codes "CASE" ∷ (behind_word (codes " ") of
    ++ flat_map (λ w. (codes " WHEN " ∷ w.0 0) ++ (codes " THEN " ∷ w.1 0)) whens
    ++ behind_word (codes " ELSE ") other ++ codes " END" ∷ [])
bare_level (Expr-F.Or items) = joined (codes " OR ") (λ e. e 1) items
bare_level (Expr-F.Xor items) = joined (codes " XOR ") (λ e. e 2) items
bare_level (Expr-F.And items) = joined (codes " AND ") (λ e. e 3) items
bare_level (Expr-F.Not e) = codes "NOT " ∷ e 3
bare_level (Expr-F.Cmp first rest) = first 5 ++ flat_map (λ p. cmp_text p.0 ∷ p.1 5) rest
bare_level (Expr-F.Pred first tests) = first 6 ++ flat_map (λ t. t) tests
bare_level (Expr-F.Sum first rest) = first 7 ++ flat_map (λ p. sum_text p.0 ∷ p.1 7) rest
bare_level (Expr-F.Prod first rest) = first 8 ++ flat_map (λ p. prod_text p.0 ∷ p.1 8) rest
bare_level (Expr-F.Sign op e) = sign_text op ∷ e 8
bare_level (Expr-F.Post first asked) = first 10 ++ flat_map (λ a. a) asked

abbrev pub expr_level : Expr-F Placed Pieces Pieces → Placed
expr_level x need = bracketed (level_at x) need (bare_level x)

abbrev pub labels : List (List ℕ) → Pieces
labels names = flat_map (λ n. codes ":" ∷ schema n) names

abbrev pub post_level : PostOp-F Placed Pieces Pieces → Pieces
post_level (PostOp-F.Prop key) = codes "." ∷ schema key
post_level (PostOp-F.At index) = codes "[" ∷ (index 0 ++ codes "]" ∷ [])
post_level (PostOp-F.Labels names) = labels names

abbrev pub pred_level : PredOp-F Placed Pieces Pieces → Pieces
pred_level (PredOp-F.OneOf e) = codes " IN " ∷ e 6
pred_level (PredOp-F.Starts e) = codes " STARTS" ∷ codes " WITH " ∷ e 6
pred_level (PredOp-F.Ends e) = codes " ENDS" ∷ codes " WITH " ∷ e 6
pred_level (PredOp-F.Contains e) = codes " CONTAINS " ∷ e 6
pred_level PredOp-F.IsNull = codes " IS NULL" ∷ []
pred_level PredOp-F.IsNotNull = codes " IS NOT" ∷ codes " NULL" ∷ []

abbrev pub expr : Expr → Placed
expr = fold-Expr Placed Pieces Pieces expr_level post_level pred_level

abbrev pub post : PostOp → Pieces
post = fold-PostOp Placed Pieces Pieces expr_level post_level pred_level

abbrev pub pred : PredOp → Pieces
pred = fold-PredOp Placed Pieces Pieces expr_level post_level pred_level

abbrev pub option : List ℕ → Option Expr → Pieces
option word None = []
option word (Some e) = word ∷ expr e 0

abbrev pub branch : Expr × Expr → Pieces
branch w = (codes " WHEN " ∷ expr w.0 0) ++ (codes " THEN " ∷ expr w.1 0)
