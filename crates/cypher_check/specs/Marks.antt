-- What stands in an expression, in reading order, and what is asked of it.
use Rattle.std.specs.Prelude.{ℕ, List, [], ◌∷◌, ◌++◌, Option, Some, None}
use Rattle.std.specs.List.{flat_map}
use Rattle.cypher_syntax.specs.declared.tree.expr.Expr.{Expr, fold-Expr}
use Rattle.cypher_syntax.specs.declared.tree.expr.Expr.TheOpen.{Expr-F, PostOp-F, PredOp-F}
use Rattle.cypher_syntax.specs.declared.tree.expr.PostOp.{PostOp, fold-PostOp}
use Rattle.cypher_syntax.specs.declared.tree.expr.PredOp.{PredOp, fold-PredOp}
use Rattle.cypher_check.specs.declared.names.place.Place.{Place}
use Rattle.cypher_check.specs.declared.names.place.Place.TheVariants.{Plain, Grouped, Seeking}

pub data Mark : Type 0 where
  -- a name that has to be in scope
  Uses : (name : List ℕ) → Mark
  -- an aggregate where none may stand, or a name beside an aggregate
  Misplaced : Mark

-- what stands at a place depends on the place
abbrev pub Marks : Type 0
Marks = Place → List Mark

-- A name beside an aggregate is asked for its scope first.
abbrev pub name_marks : List ℕ → Marks
name_marks name Plain = Uses name ∷ []
name_marks name Grouped = Uses name ∷ Misplaced ∷ []
name_marks name Seeking = []

-- where an aggregate begins
abbrev pub aggregate_marks : Marks
aggregate_marks Plain = Misplaced ∷ []
aggregate_marks Grouped = []
aggregate_marks Seeking = Misplaced ∷ []

-- in an aggregate names stand freely, and no other aggregate may
abbrev pub inner : Place → Place
inner Plain = Plain
inner Grouped = Plain
inner Seeking = Seeking

abbrev pub optional : Option Marks → Marks
optional None place = []
optional (Some marks) place = marks place

abbrev pub each : List Marks → Marks
each parts place = flat_map (λ marks. marks place) parts

-- The marks of the parts in reading order, what stands in front first.
abbrev pub expr_level : Expr-F Marks Marks Marks → Marks
expr_level (Expr-F.Lit v) place = []
expr_level (Expr-F.Var name) place = name_marks name place
expr_level (Expr-F.List items) place = each items place
expr_level (Expr-F.Call fun items) place = each items place
expr_level Expr-F.CountRows place = aggregate_marks place
expr_level (Expr-F.Agg fun distinct of) place = aggregate_marks place ++ of (inner place)
expr_level (Expr-F.Case of whens other) place = optional of place ++ flat_map (λ w. w.0 place ++ w.1 place) whens ++ optional other place
expr_level (Expr-F.Or items) place = each items place
expr_level (Expr-F.Xor items) place = each items place
expr_level (Expr-F.And items) place = each items place
expr_level (Expr-F.Not e) place = e place
expr_level (Expr-F.Cmp first rest) place = first place ++ flat_map (λ p. p.1 place) rest
expr_level (Expr-F.Pred first tests) place = first place ++ each tests place
expr_level (Expr-F.Sum first rest) place = first place ++ flat_map (λ p. p.1 place) rest
expr_level (Expr-F.Prod first rest) place = first place ++ flat_map (λ p. p.1 place) rest
expr_level (Expr-F.Sign op e) place = e place
expr_level (Expr-F.Post first asked) place = first place ++ each asked place

abbrev pub post_level : PostOp-F Marks Marks Marks → Marks
post_level (PostOp-F.Prop name) place = []
post_level (PostOp-F.At index) place = index place
post_level (PostOp-F.Labels names) place = []

abbrev pub pred_level : PredOp-F Marks Marks Marks → Marks
pred_level (PredOp-F.OneOf e) place = e place
pred_level (PredOp-F.Starts e) place = e place
pred_level (PredOp-F.Ends e) place = e place
pred_level (PredOp-F.Contains e) place = e place
pred_level PredOp-F.IsNull place = []
pred_level PredOp-F.IsNotNull place = []

abbrev pub expr_marks : Expr → Marks
expr_marks = fold-Expr Marks Marks Marks expr_level post_level pred_level

abbrev pub post_marks : PostOp → Marks
post_marks = fold-PostOp Marks Marks Marks expr_level post_level pred_level

abbrev pub pred_marks : PredOp → Marks
pred_marks = fold-PredOp Marks Marks Marks expr_level post_level pred_level

-- of a branch of a CASE
abbrev pub pair_marks : Expr × Expr → Marks
pair_marks when place = expr_marks when.0 place ++ expr_marks when.1 place

-- of an expression that may be left out
abbrev pub optional_marks : Option Expr → Marks
optional_marks None place = []
optional_marks (Some e) place = expr_marks e place
