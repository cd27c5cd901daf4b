-- The value of an expression in a row and a graph. Each operand stands as what it comes to, and one that an operator leaves
-- out isn't asked for.
use Rattle.std.specs.Prelude.{Bool, true, false, if◌then◌else◌, List, [], ◌∷◌, ◌++◌, Option, Some, None, Ok, map, option_map}
use Rattle.graph_value.specs.declared.tri.Tri.{Tri}
use Rattle.graph_value.specs.declared.tri.Tri.TheVariants.{True}
use Rattle.graph_value.specs.declared.value.Value.{Value}
use Rattle.graph_value.specs.declared.value.Value.TheVariants as value
use Rattle.graph_value.specs.Equals.{equals_of}
use Rattle.graph_value.specs.Tri.{tri_and}
use Rattle.cypher_syntax.specs.declared.tree.expr.Expr.{Expr, fold-Expr}
use Rattle.cypher_syntax.specs.declared.tree.expr.Expr.TheOpen.{Expr-F, PostOp-F, PredOp-F}
use Rattle.cypher_syntax.specs.declared.tree.expr.PostOp.{PostOp, fold-PostOp}
use Rattle.cypher_syntax.specs.declared.tree.expr.PredOp.{PredOp, fold-PredOp}
use Rattle.cypher_syntax.specs.declared.tree.operators.CmpOp.{CmpOp}
use Rattle.cypher_syntax.specs.declared.tree.operators.Fun.{Fun}
use Rattle.cypher_syntax.specs.declared.tree.operators.Fun.TheVariants as fun
use Rattle.cypher_syntax.specs.declared.tree.operators.ProdOp.{ProdOp}
use Rattle.cypher_syntax.specs.declared.tree.operators.SumOp.{SumOp}
use Rattle.graph_record.specs.Graph.{Graph}
use Rattle.expr_eval.specs.declared.texts.TextTest.TheVariants.{Starts, Ends, Contains}
use Rattle.expr_eval.specs.declared.truth.Joint.{Joint}
use Rattle.expr_eval.specs.declared.truth.Joint.TheVariants.{And, Or, Xor}
use Rattle.expr_eval.specs.declared.truth.Left.{Left}
use Rattle.expr_eval.specs.declared.truth.Left.TheVariants.{Nothing}
use Rattle.expr_eval.specs.Comparing.{compared, one_of, is_null}
use Rattle.expr_eval.specs.Entities.{property, labelled}
use Rattle.expr_eval.specs.Functions.{applied}
use Rattle.expr_eval.specs.Lists.{indexed}
use Rattle.expr_eval.specs.Numbers.{summed, multiplied, signed}
use Rattle.expr_eval.specs.Outcome.{Outcome, and_then}
use Rattle.expr_eval.specs.Row.{Row, value_of}
use Rattle.expr_eval.specs.Size.{sized}
use Rattle.expr_eval.specs.Texts.{tested}
use Rattle.expr_eval.specs.Truth.{truth, condition, negated, is_settled, is_true, is_false, joined, ended, tri_value}

-- what is asked of a value
abbrev pub Step : Type 0
Step = Value → Outcome Value

-- all in order, behind those that are there already
abbrev pub all_on : List Value → List (Outcome Value) → Outcome (List Value)
all_on front [] = Ok front
all_on front (o ∷ os) = and_then o (λ v. all_on (front ++ v ∷ []) os)

-- what is asked, one behind the other
abbrev pub steps_on : Value → List Step → Outcome Value
steps_on v [] = Ok v
steps_on v (step ∷ steps) = and_then (step v) (λ w. steps_on w steps)

-- a chain of AND, OR or XOR from the left
abbrev pub joined_on : Joint → Left → List (Outcome Value) → Outcome Value
joined_on joint left [] = ended left
joined_on joint left (o ∷ os) =
    if is_settled joint left then ended left
    else and_then o (λ v. and_then (joined joint left (truth v)) (λ next. joined_on joint next os))

-- a chain of comparisons: each operand with the next, until one is false
abbrev pub compared_on : Value → Tri → List (CmpOp × Outcome Value) → Outcome Value
compared_on v t [] = Ok (tri_value t)
compared_on v t (c ∷ cs) =
    if is_false t then Ok (tri_value t)
    else and_then c.1 (λ w. compared_on w (tri_and t (compared c.0 v w)) cs)

abbrev pub summed_on : Value → List (SumOp × Outcome Value) → Outcome Value
summed_on v [] = Ok v
summed_on v (s ∷ ss) = and_then s.1 (λ w. and_then (summed s.0 v w) (λ u. summed_on u ss))

abbrev pub multiplied_on : Value → List (ProdOp × Outcome Value) → Outcome Value
multiplied_on v [] = Ok v
multiplied_on v (s ∷ ss) = and_then s.1 (λ w. and_then (multiplied s.0 v w) (λ u. multiplied_on u ss))

-- the first value that isn't null
abbrev pub coalesced : List (Outcome Value) → Outcome Value
coalesced [] = Ok value.Null
coalesced (o ∷ os) = and_then o (λ v. if is_null v then coalesced os else Ok v)

abbrev pub called : Graph → Fun → List (Outcome Value) → Outcome Value
called g fun.Coalesce os = coalesced os
called g f os = and_then (all_on [] os) (applied g f)

-- CASE

abbrev pub some : Value → Outcome (Option Value)
some v = Ok (Some v)

abbrev pub optional : Option (Outcome Value) → Outcome (Option Value)
optional None = Ok None
optional (Some o) = and_then o some

-- A condition holds where it is true; beside a first value, where that equals it.
unfoldable pub holds : Option Value → Value → Outcome Bool
holds None v = and_then (condition v) (λ t. Ok (is_true t))
holds (Some first) v = Ok (is_true (equals_of first v))

-- the value behind the first condition that holds
abbrev pub chosen : Option Value → List (Outcome Value × Outcome Value) → Outcome (Option Value)
chosen first [] = Ok None
chosen first (when ∷ whens) =
    and_then when.0 (λ v. and_then (holds first v) (λ b. if b then and_then when.1 some else chosen first whens))

abbrev pub otherwise : Option (Outcome Value) → Option Value → Outcome Value
otherwise other (Some v) = Ok v
otherwise None None = Ok value.Null
otherwise (Some o) None = o

-- AN EXPRESSION

-- one level; an aggregate has no value in a row, and null stands only so that each case has one
abbrev pub expr_level : Graph → Row → Expr-F (Outcome Value) Step Step → Outcome Value
expr_level g row (Expr-F.Lit v) = Ok v
expr_level g row (Expr-F.Var name) = Ok (value_of row name)
expr_level g row (Expr-F.List os) = and_then (all_on [] os) (λ vs. sized (value.List vs))
expr_level g row (Expr-F.Call f os) = called g f os
expr_level g row Expr-F.CountRows = Ok value.Null
expr_level g row (Expr-F.Agg f distinct o) = Ok value.Null
expr_level g row (Expr-F.Case of whens other) = and_then (optional of) (λ first. and_then (chosen first whens) (otherwise other))
expr_level g row (Expr-F.Or os) = joined_on Or Nothing os
expr_level g row (Expr-F.Xor os) = joined_on Xor Nothing os
expr_level g row (Expr-F.And os) = joined_on And Nothing os
expr_level g row (Expr-F.Not o) = and_then o (λ v. negated (truth v))
expr_level g row (Expr-F.Cmp o rest) = and_then o (λ v. compared_on v True rest)
expr_level g row (Expr-F.Pred o steps) = and_then o (λ v. steps_on v steps)
expr_level g row (Expr-F.Sum o rest) = and_then o (λ v. summed_on v rest)
expr_level g row (Expr-F.Prod o rest) = and_then o (λ v. multiplied_on v rest)
expr_level g row (Expr-F.Sign op o) = and_then o (signed op)
expr_level g row (Expr-F.Post o steps) = and_then o (λ v. steps_on v steps)

abbrev pub post_level : Graph → PostOp-F (Outcome Value) Step Step → Step
post_level g (PostOp-F.Prop name) v = property g name v
post_level g (PostOp-F.At o) v = and_then o (indexed v)
post_level g (PostOp-F.Labels names) v = labelled g names v

abbrev pub pred_level : PredOp-F (Outcome Value) Step Step → Step
pred_level (PredOp-F.OneOf o) v = and_then o (one_of v)
pred_level (PredOp-F.Starts o) v = and_then o (λ w. Ok (tested Starts v w))
pred_level (PredOp-F.Ends o) v = and_then o (λ w. Ok (tested Ends v w))
pred_level (PredOp-F.Contains o) v = and_then o (λ w. Ok (tested Contains v w))
pred_level PredOp-F.IsNull v = Ok (value.Bool (is_null v))
pred_level PredOp-F.IsNotNull v = Ok (value.Bool (if is_null v then false else true))

-- the value of an expression
abbrev pub eval_of : Graph → Row → Expr → Outcome Value
eval_of g row = fold-Expr (Outcome Value) Step Step (expr_level g row) (post_level g) pred_level

abbrev pub post_of : Graph → Row → PostOp → Step
post_of g row = fold-PostOp (Outcome Value) Step Step (expr_level g row) (post_level g) pred_level

abbrev pub pred_of : Graph → Row → PredOp → Step
pred_of g row = fold-PredOp (Outcome Value) Step Step (expr_level g row) (post_level g) pred_level

-- of the parts of an expression
abbrev pub values_of : Graph → Row → List Expr → Outcome (List Value)
values_of g row es = all_on [] (map (eval_of g row) es)

abbrev pub joined_of : Graph → Row → Joint → List Expr → Outcome Value
joined_of g row joint es = joined_on joint Nothing (map (eval_of g row) es)

abbrev pub coalesced_of : Graph → Row → List Expr → Outcome Value
coalesced_of g row es = coalesced (map (eval_of g row) es)

abbrev pub behind : {Op : Type 0} → Graph → Row → Op × Expr → Op × Outcome Value
behind g row p = (p.0, eval_of g row p.1)

abbrev pub compared_of : Graph → Row → Value → List (CmpOp × Expr) → Outcome Value
compared_of g row v ps = compared_on v True (map (behind g row) ps)

abbrev pub summed_of : Graph → Row → Value → List (SumOp × Expr) → Outcome Value
summed_of g row v ps = summed_on v (map (behind g row) ps)

abbrev pub multiplied_of : Graph → Row → Value → List (ProdOp × Expr) → Outcome Value
multiplied_of g row v ps = multiplied_on v (map (behind g row) ps)

abbrev pub posts_of : Graph → Row → Value → List PostOp → Outcome Value
posts_of g row v ps = steps_on v (map (post_of g row) ps)

abbrev pub preds_of : Graph → Row → Value → List PredOp → Outcome Value
preds_of g row v ps = steps_on v (map (pred_of g row) ps)

abbrev pub optional_of : Graph → Row → Option Expr → Outcome (Option Value)
optional_of g row o = optional (option_map (eval_of g row) o)

abbrev pub both : Graph → Row → Expr × Expr → Outcome Value × Outcome Value
both g row p = (eval_of g row p.0, eval_of g row p.1)

abbrev pub chosen_of : Graph → Row → Option Value → List (Expr × Expr) → Outcome (Option Value)
chosen_of g row first whens = chosen first (map (both g row) whens)

abbrev pub otherwise_of : Graph → Row → Option Value → Option Expr → Outcome Value
otherwise_of g row v o = otherwise (option_map (eval_of g row) o) v

abbrev pub called_of : Graph → Row → Fun → List Expr → Outcome Value
called_of g row f es = called g f (map (eval_of g row) es)
