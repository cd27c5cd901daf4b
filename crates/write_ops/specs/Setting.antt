-- SET and REMOVE: item by item in each row, behind the operations that are there.
use Rattle.std.specs.Prelude.{ℕ, List, [], ◌∷◌, ◌++◌, map, Bool, true, false, Ok, Err}
use Rattle.graph_value.specs.declared.id.Oid.TheVariants as oid
use Rattle.graph_value.specs.declared.value.Value.{Value}
use Rattle.graph_value.specs.declared.value.Value.TheVariants as value
use Rattle.graph_record.specs.Graph.{Graph}
use Rattle.cypher_syntax.specs.declared.tree.clause.SetItem.{SetItem}
use Rattle.cypher_syntax.specs.declared.tree.clause.SetItem.TheVariants as set
use Rattle.cypher_syntax.specs.declared.tree.clause.RemoveItem.{RemoveItem}
use Rattle.cypher_syntax.specs.declared.tree.clause.RemoveItem.TheVariants as remove
use Rattle.expr_eval.specs.declared.refused.EvalRefused.TheVariants.{TypeFault}
use Rattle.expr_eval.specs.Outcome.{Outcome, and_then}
use Rattle.expr_eval.specs.Row.{Row}
use Rattle.write_ops.specs.declared.planned.Pick.TheVariants.{Known}
use Rattle.write_ops.specs.declared.planned.PlannedOp.{PlannedOp}
use Rattle.write_ops.specs.declared.target.Target.{Target}
use Rattle.write_ops.specs.declared.target.Target.TheVariants.{Nothing, Entity, Other}
use Rattle.write_ops.specs.Over.{over}
use Rattle.write_ops.specs.Targets.{target_of, alive}
use Rattle.write_ops.specs.Writing.{kept_value, known, prop_op, label_op}

abbrev pub Ops : Type 0
Ops = List PlannedOp

-- A property of what is alive. Null has none, and a value that is no vertex or edge is of a wrong kind.
abbrev pub with_prop : Graph → List ℕ → Value → Target → Ops → Outcome Ops
with_prop g key v Nothing ops = Ok ops
with_prop g key v (Entity x) ops = and_then (alive g x) (λ x. Ok (ops ++ prop_op (known x) key v ∷ []))
with_prop g key v Other ops = Err TypeFault

-- Labels of a vertex that is alive. A wrong kind comes before gone.
abbrev pub with_labels : Graph → Bool → List (List ℕ) → Target → Ops → Outcome Ops
with_labels g adds labels Nothing ops = Ok ops
with_labels g adds labels (Entity (oid.Vertex v)) ops =
    and_then (alive g (oid.Vertex v)) (λ x. Ok (ops ++ map (label_op adds (Known v.0)) labels))
with_labels g adds labels t ops = Err TypeFault

-- First comes the value, and then what the name stands for.
abbrev pub set_item : Graph → Row → Ops → SetItem → Outcome Ops
set_item g row ops (set.Prop name key e) =
    and_then (kept_value g row e) (λ v. with_prop g key v (target_of row name) ops)
set_item g row ops (set.Labels name labels) = with_labels g true labels (target_of row name) ops

abbrev pub remove_item : Graph → Row → Ops → RemoveItem → Outcome Ops
remove_item g row ops (remove.Prop name key) = with_prop g key value.Null (target_of row name) ops
remove_item g row ops (remove.Labels name labels) = with_labels g false labels (target_of row name) ops

abbrev pub set_row : Graph → List SetItem → Ops → Row → Outcome Ops
set_row g items ops row = over (set_item g row) ops items

abbrev pub remove_row : Graph → List RemoveItem → Ops → Row → Outcome Ops
remove_row g items ops row = over (remove_item g row) ops items

abbrev pub set_of : Graph → List SetItem → List Row → Outcome Ops
set_of g items table = over (set_row g items) [] table

abbrev pub remove_of : Graph → List RemoveItem → List Row → Outcome Ops
remove_of g items table = over (remove_row g items) [] table
