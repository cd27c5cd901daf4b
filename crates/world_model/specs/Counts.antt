-- How many deltas writes leave, on all objects together.
use Rattle.std.specs.Prelude.{ℕ, List, sum_by}
use Rattle.undo_delta.specs.declared.op.Op.{Op}
use Rattle.undo_delta.specs.declared.op.Op.TheVariants.{CreateVertex, DeleteVertex, AddLabel, RemoveLabel, SetVertexProp, CreateEdge, DeleteEdge, SetEdgeProp}

-- The deltas of a write that changes the graph. Where it makes or deletes an edge there is one on the edge and one for
-- each of its two ends, so that the vertex of a loop gets two; else there is one.
abbrev pub deltas_left : Op → ℕ
deltas_left (CreateVertex v) = 1
deltas_left (DeleteVertex v) = 1
deltas_left (AddLabel v name) = 1
deltas_left (RemoveLabel v name) = 1
deltas_left (SetVertexProp v name value) = 1
deltas_left (CreateEdge e from kind to) = 3
deltas_left (DeleteEdge e from to) = 3
deltas_left (SetEdgeProp e name value) = 1

-- the deltas of several writes
abbrev pub all_left : List Op → ℕ
all_left ops = sum_by deltas_left ops
