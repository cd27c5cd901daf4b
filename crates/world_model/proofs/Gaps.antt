-- A network with gaps for worked cases: of four vertices and three edges two vertices and an edge are deleted again.
use Rattle.std.proofs.Common.{List, [], ◌∷◌, codes}
use Rattle.graph_value.specs.declared.id.VertexId.{VertexId}
use Rattle.graph_value.specs.declared.id.EdgeId.{EdgeId}
use Rattle.undo_delta.specs.declared.op.Op.{Op}
use Rattle.undo_delta.specs.declared.op.Op.TheVariants as op
use Rattle.world_model.specs.World.{World, Commit, Txn}
use Rattle.world_model.proofs.Network.{v0, v1, e0, e1}

abbrev pub v2 : VertexId
v2 = record { 0 = 2 }

abbrev pub v3 : VertexId
v3 = record { 0 = 3 }

abbrev pub v4 : VertexId
v4 = record { 0 = 4 }

abbrev pub e2 : EdgeId
e2 = record { 0 = 2 }

abbrev made : List Op
made = op.CreateVertex v0 ∷ op.CreateVertex v1 ∷ op.CreateVertex v2 ∷ op.CreateVertex v3
    ∷ op.CreateEdge e0 v0 (codes "T") v3 ∷ op.CreateEdge e1 v0 (codes "T") v3 ∷ op.CreateEdge e2 v0 (codes "T") v3 ∷ []

abbrev lost : List Op
lost = op.DeleteVertex v1 ∷ op.DeleteVertex v2 ∷ op.DeleteEdge e1 v0 v3 ∷ []

abbrev gap_commits : List Commit
gap_commits = record { ts = 2; ops = made } ∷ record { ts = 4; ops = lost } ∷ []

-- one transaction has made a vertex
abbrev pub maker : Txn
maker = record { caller = 1; start = 5; ops = op.CreateVertex v4 ∷ [] }

abbrev pub gaps : World
gaps = record { clock = 6; vertices = 5; edges = 3; commits = gap_commits; running = maker ∷ []; interval = 1; installs = [] }
