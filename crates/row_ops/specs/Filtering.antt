-- WHERE behind WITH.
use Rattle.std.specs.Prelude.{List, [], ◌∷◌, ◌++◌, Option, Some, None, Ok, if◌then◌else◌}
use Rattle.cypher_syntax.specs.declared.tree.expr.Expr.{Expr}
use Rattle.graph_record.specs.Graph.{Graph}
use Rattle.expr_eval.specs.Eval.{eval_of}
use Rattle.expr_eval.specs.Outcome.{Outcome, and_then}
use Rattle.expr_eval.specs.Row.{Row}
use Rattle.expr_eval.specs.Truth.{keeps}

-- the rows in which the condition is true, behind the rows that are there
abbrev pub kept_on : Graph → Expr → List Row → List Row → Outcome (List Row)
kept_on g e done [] = Ok done
kept_on g e done (row ∷ rows) =
    and_then (eval_of g row e) (λ v. and_then (keeps v) (λ b. kept_on g e (if b then done ++ row ∷ [] else done) rows))

abbrev pub filtered_of : Graph → Option Expr → List Row → Outcome (List Row)
filtered_of g None rows = Ok rows
filtered_of g (Some e) rows = kept_on g e [] rows
