-- A plan as writes that are asked of the store, one after the other, and what each answer makes of the graph.
use Rattle.std.specs.Prelude.{ℕ, List, [], ◌∷◌, ◌++◌, Option, Some, None, slice_get, Err}
use Rattle.graph_value.specs.declared.id.VertexId.{VertexId}
use Rattle.graph_value.specs.declared.id.EdgeId.{EdgeId}
use Rattle.graph_value.specs.declared.id.Oid.TheVariants as oid
use Rattle.graph_record.specs.Graph.{Graph, object_at}
use Rattle.undo_delta.specs.declared.ask.Ask.{Ask}
use Rattle.undo_delta.specs.declared.ask.Ask.TheVariants as ask
use Rattle.undo_delta.specs.declared.op.Op.{Op}
use Rattle.undo_delta.specs.declared.op.Op.TheVariants as op
use Rattle.world_model.specs.declared.answer.Refused.{Refused}
use Rattle.world_model.specs.declared.answer.Refused.TheVariants as refused
use Rattle.world_model.specs.declared.answer.Wrote.{Wrote}
use Rattle.world_model.specs.declared.answer.Wrote.TheVariants as wrote
use Rattle.world_model.specs.Asked.{edge_start, edge_end}
use Rattle.world_model.specs.Op.{apply}
use Rattle.world_model.specs.Reply.{Reply}
use Rattle.world_model.specs.Reply as reply
use Rattle.expr_eval.specs.declared.refused.EvalRefused.TheVariants as eval
use Rattle.write_ops.specs.declared.planned.Pick.{Pick}
use Rattle.write_ops.specs.declared.planned.Pick.TheVariants.{Known, Made}
use Rattle.write_ops.specs.declared.planned.PlannedOp.{PlannedOp}
use Rattle.write_ops.specs.declared.planned.PlannedOp.TheVariants as planned
use Rattle.query_run.specs.declared.stop.Stop.{Stop}
use Rattle.query_run.specs.declared.stop.Stop.TheVariants as stop
use Rattle.query_run.specs.Parts.{Part, Told, given, told, went, then}

-- WHAT IS ASKED

abbrev pub or_zero : Option ℕ → ℕ
or_zero (Some n) = n
or_zero None = 0

-- the number of an object, where the creates of the clause so far were given these
abbrev pub number_of : List ℕ → Pick → ℕ
number_of ids (Known n) = n
number_of ids (Made k) = or_zero (slice_get ids k)

abbrev pub vertex_of : List ℕ → Pick → VertexId
vertex_of ids at = record { 0 = number_of ids at }

abbrev pub edge_of : List ℕ → Pick → EdgeId
edge_of ids at = record { 0 = number_of ids at }

abbrev pub ask_of : List ℕ → PlannedOp → Ask
ask_of ids planned.CreateVertex = ask.CreateVertex
ask_of ids (planned.DeleteVertex at) = ask.DeleteVertex (vertex_of ids at)
ask_of ids (planned.AddLabel at label) = ask.AddLabel (vertex_of ids at) label
ask_of ids (planned.RemoveLabel at label) = ask.RemoveLabel (vertex_of ids at) label
ask_of ids (planned.SetVertexProp at key v) = ask.SetVertexProp (vertex_of ids at) key v
ask_of ids (planned.CreateEdge from kind to) = ask.CreateEdge (vertex_of ids from) kind (vertex_of ids to)
ask_of ids (planned.DeleteEdge at) = ask.DeleteEdge (edge_of ids at)
ask_of ids (planned.SetEdgeProp at key v) = ask.SetEdgeProp (edge_of ids at) key v

-- WHAT IS ANSWERED

-- the number of what was made
abbrev pub ids_made : Wrote → List ℕ
ids_made wrote.Done = []
ids_made wrote.Unchanged = []
ids_made (wrote.Vertex v) = v.0 ∷ []
ids_made (wrote.Edge e) = e.0 ∷ []

abbrev pub vertex_made : Wrote → VertexId
vertex_made (wrote.Vertex v) = v
vertex_made w = record { 0 = 0 }

abbrev pub edge_made : Wrote → EdgeId
edge_made (wrote.Edge e) = e
edge_made w = record { 0 = 0 }

-- The write that was done: what was made has the id that the answer gives, and an edge that is deleted has the ends that
-- it has in the graph.
abbrev pub op_done : Graph → Wrote → Ask → Op
op_done g w ask.CreateVertex = op.CreateVertex (vertex_made w)
op_done g w (ask.DeleteVertex v) = op.DeleteVertex v
op_done g w (ask.AddLabel v label) = op.AddLabel v label
op_done g w (ask.RemoveLabel v label) = op.RemoveLabel v label
op_done g w (ask.SetVertexProp v key value) = op.SetVertexProp v key value
op_done g w (ask.CreateEdge from kind to) = op.CreateEdge (edge_made w) from kind to
op_done g w (ask.DeleteEdge e) = op.DeleteEdge e (edge_start (object_at g (oid.Edge e))) (edge_end (object_at g (oid.Edge e)))
op_done g w (ask.SetEdgeProp e key value) = op.SetEdgeProp e key value

-- The graph behind an answer: one that was so already stays as it is.
abbrev pub graph_after : Graph → Ask → Wrote → Graph
graph_after g a wrote.Unchanged = g
graph_after g a w = apply (op_done g w a) g

-- Why a refused write stops a query. An object that isn't there is gone; the other refusals are of no open transaction's
-- writes.
abbrev pub stop_of : Refused → Stop
stop_of (refused.Conflict x rival) = stop.Conflict x rival
stop_of (refused.HasEdges v) = stop.HasEdges v
stop_of refused.IdEnd = stop.IdEnd
stop_of (refused.Missing x) = stop.Eval (eval.Gone x)
stop_of refused.NoTxn = stop.Eval eval.NoMemory
stop_of refused.AlreadyOpen = stop.Eval eval.NoMemory
stop_of (refused.TimeAhead t start) = stop.Eval eval.NoMemory
stop_of refused.ClockEnd = stop.Eval eval.NoMemory
stop_of (refused.Stale cut) = stop.Eval eval.NoMemory
stop_of refused.TooMany = stop.Eval eval.NoMemory
stop_of refused.NoMemory = stop.Eval eval.NoMemory

abbrev pub stop_told : Ask → Stop → Told Wrote
stop_told a why = told (a ∷ []) (Err why)

-- what an answer tells of a write
abbrev pub answer_told : Graph → Ask → List Reply → Reply → Told Wrote
answer_told g a later (reply.Wrote w) = told (a ∷ []) (went w (graph_after g a w) later)
answer_told g a later (reply.Refused why) = stop_told a (stop_of why)
answer_told g a later r = stop_told a (stop.Eval eval.NoMemory)

-- One write is asked for. Where no answer is left it never was: the query had stopped before, for want of memory.
abbrev pub asked : Ask → Part Wrote
asked a g [] = told [] (Err (stop.Eval eval.NoMemory))
asked a g (r ∷ later) = answer_told g a later r

-- the operations of a plan in order, behind creates that were given these numbers; its value is the numbers of all creates
abbrev pub planned_part : List PlannedOp → List ℕ → Part (List ℕ)
planned_part [] ids = given ids
planned_part (o ∷ ops) ids = then (asked (ask_of ids o)) (λ w. planned_part ops (ids ++ ids_made w))
