-- The single operations, and the values that they take.
use Rattle.std.specs.Prelude.{ℕ, List, Bool, ◌||◌, Ok, Err, if◌then◌else◌}
use Rattle.graph_value.specs.declared.id.Oid.{Oid}
use Rattle.graph_value.specs.declared.id.Oid.TheVariants as oid
use Rattle.graph_value.specs.declared.value.Value.{Value, out-Value}
use Rattle.graph_value.specs.Storable.{is_storable}
use Rattle.graph_record.specs.Graph.{Graph}
use Rattle.cypher_syntax.specs.declared.tree.expr.Expr.{Expr}
use Rattle.expr_eval.specs.declared.refused.EvalRefused.TheVariants.{TypeFault}
use Rattle.expr_eval.specs.Comparing.{null_level}
use Rattle.expr_eval.specs.Eval.{eval_of}
use Rattle.expr_eval.specs.Outcome.{Outcome, and_then}
use Rattle.expr_eval.specs.Row.{Row}
use Rattle.write_ops.specs.declared.planned.Entity.{Entity}
use Rattle.write_ops.specs.declared.planned.Entity.TheVariants.{Vertex, Edge}
use Rattle.write_ops.specs.declared.planned.Pick.{Pick}
use Rattle.write_ops.specs.declared.planned.Pick.TheVariants.{Known}
use Rattle.write_ops.specs.declared.planned.PlannedOp.{PlannedOp}
use Rattle.write_ops.specs.declared.planned.PlannedOp.TheVariants as op

abbrev pub is_null : Value → Bool
is_null v = null_level (out-Value v)

-- A property takes what an object may keep, and null, which takes it away.
abbrev pub kept : Value → Outcome Value
kept v = if is_null v || is_storable v then Ok v else Err TypeFault

-- A value is found in the row, and is asked at once whether it may be kept.
abbrev pub kept_value : Graph → Row → Expr → Outcome Value
kept_value g row e = and_then (eval_of g row e) kept

-- one that is there already
abbrev pub known : Oid → Entity
known (oid.Vertex v) = Vertex (Known v.0)
known (oid.Edge e) = Edge (Known e.0)

abbrev pub prop_op : Entity → List ℕ → Value → PlannedOp
prop_op (Vertex at) key v = op.SetVertexProp at key v
prop_op (Edge at) key v = op.SetEdgeProp at key v

-- a label is added or taken away
abbrev pub label_op : Bool → Pick → List ℕ → PlannedOp
label_op adds at label = if adds then op.AddLabel at label else op.RemoveLabel at label

abbrev pub delete_op : Oid → PlannedOp
delete_op (oid.Vertex v) = op.DeleteVertex (Known v.0)
delete_op (oid.Edge e) = op.DeleteEdge (Known e.0)
