-- What a caller asks for, as a write on the graph that the caller sees.
use Rattle.std.specs.Prelude.{ℕ, List, [], ◌∷◌}
use Rattle.graph_value.specs.declared.id.VertexId.{VertexId}
use Rattle.graph_value.specs.declared.id.Oid.{Oid}
use Rattle.graph_value.specs.declared.id.Oid.TheVariants as oid
use Rattle.graph_record.specs.declared.object.Object.{Object}
use Rattle.graph_record.specs.declared.object.Object.TheVariants as object
use Rattle.graph_record.specs.Graph.{Graph, object_at}
use Rattle.undo_delta.specs.declared.ask.Ask.{Ask}
use Rattle.undo_delta.specs.declared.ask.Ask.TheVariants.{CreateVertex, DeleteVertex, AddLabel, RemoveLabel, SetVertexProp, CreateEdge, DeleteEdge, SetEdgeProp}
use Rattle.undo_delta.specs.declared.op.Op.{Op}
use Rattle.undo_delta.specs.declared.op.Op.TheVariants as op
use Rattle.world_model.specs.declared.answer.Wrote.{Wrote}
use Rattle.world_model.specs.declared.answer.Wrote.TheVariants as wrote
use Rattle.world_model.specs.World.{World}

-- the objects that a write names, which have to be in the caller's view
abbrev pub named : Ask → List Oid
named CreateVertex = []
named (DeleteVertex v) = oid.Vertex v ∷ []
named (AddLabel v name) = oid.Vertex v ∷ []
named (RemoveLabel v name) = oid.Vertex v ∷ []
named (SetVertexProp v name value) = oid.Vertex v ∷ []
named (CreateEdge from kind to) = oid.Vertex from ∷ oid.Vertex to ∷ []
named (DeleteEdge e) = oid.Edge e ∷ []
named (SetEdgeProp e name value) = oid.Edge e ∷ []

-- the ends of an edge; of no account where it isn't one
abbrev pub edge_start : Object → VertexId
edge_start object.Dead = record { 0 = 0 }
edge_start (object.Vertex r) = record { 0 = 0 }
edge_start (object.Edge r) = r.from

abbrev pub edge_end : Object → VertexId
edge_end object.Dead = record { 0 = 0 }
edge_end (object.Vertex r) = record { 0 = 0 }
edge_end (object.Edge r) = r.to

-- The write that is asked for: what is created gets the number that its counter stands at, and an edge that is deleted
-- has the ends that it has in the graph.
abbrev pub op_of : World → Graph → Ask → Op
op_of w g CreateVertex = op.CreateVertex (record { 0 = w.vertices })
op_of w g (DeleteVertex v) = op.DeleteVertex v
op_of w g (AddLabel v name) = op.AddLabel v name
op_of w g (RemoveLabel v name) = op.RemoveLabel v name
op_of w g (SetVertexProp v name value) = op.SetVertexProp v name value
op_of w g (CreateEdge from kind to) = op.CreateEdge (record { 0 = w.edges }) from kind to
op_of w g (DeleteEdge e) = op.DeleteEdge e (edge_start (object_at g (oid.Edge e))) (edge_end (object_at g (oid.Edge e)))
op_of w g (SetEdgeProp e name value) = op.SetEdgeProp e name value

-- what is answered to a write that changes the graph
abbrev pub wrote_of : World → Ask → Wrote
wrote_of w CreateVertex = wrote.Vertex (record { 0 = w.vertices })
wrote_of w (DeleteVertex v) = wrote.Done
wrote_of w (AddLabel v name) = wrote.Done
wrote_of w (RemoveLabel v name) = wrote.Done
wrote_of w (SetVertexProp v name value) = wrote.Done
wrote_of w (CreateEdge from kind to) = wrote.Edge (record { 0 = w.edges })
wrote_of w (DeleteEdge e) = wrote.Done
wrote_of w (SetEdgeProp e name value) = wrote.Done

-- how many vertices a write makes
abbrev pub vertices_made : Ask → ℕ
vertices_made CreateVertex = 1
vertices_made (DeleteVertex v) = 0
vertices_made (AddLabel v name) = 0
vertices_made (RemoveLabel v name) = 0
vertices_made (SetVertexProp v name value) = 0
vertices_made (CreateEdge from kind to) = 0
vertices_made (DeleteEdge e) = 0
vertices_made (SetEdgeProp e name value) = 0

-- how many edges a write makes
abbrev pub edges_made : Ask → ℕ
edges_made CreateVertex = 0
edges_made (DeleteVertex v) = 0
edges_made (AddLabel v name) = 0
edges_made (RemoveLabel v name) = 0
edges_made (SetVertexProp v name value) = 0
edges_made (CreateEdge from kind to) = 1
edges_made (DeleteEdge e) = 0
edges_made (SetEdgeProp e name value) = 0
