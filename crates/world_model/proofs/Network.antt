-- A small network for worked cases: two vertices, an edge between them, a loop, two labels, and an edge's property.
use Rattle.std.proofs.Common.{pos, List, [], ◌∷◌, codes}
use Rattle.graph_value.specs.declared.id.VertexId.{VertexId}
use Rattle.graph_value.specs.declared.id.EdgeId.{EdgeId}
use Rattle.graph_value.specs.declared.value.Value.{Value}
use Rattle.graph_value.specs.declared.value.Value.TheVariants.{Int}
use Rattle.undo_delta.specs.declared.op.Op.{Op}
use Rattle.undo_delta.specs.declared.op.Op.TheVariants as op
use Rattle.world_model.specs.World.{World, Commit, Txn}

abbrev pub v0 : VertexId
v0 = record { 0 = 0 }

abbrev pub v1 : VertexId
v1 = record { 0 = 1 }

-- from v0 to v1
abbrev pub e0 : EdgeId
e0 = record { 0 = 0 }

-- from v1 to itself
abbrev pub e1 : EdgeId
e1 = record { 0 = 1 }

abbrev pub five : Value
five = Int (pos 5)

abbrev pub made : List Op
made = op.CreateVertex v0 ∷ op.CreateVertex v1 ∷ op.CreateEdge e0 v0 (codes "T") v1 ∷ op.CreateEdge e1 v1 (codes "L") v1 ∷ []

abbrev pub labelled : List Op
labelled = op.AddLabel v0 (codes "B") ∷ op.AddLabel v0 (codes "A") ∷ []

abbrev pub unlabelled : List Op
unlabelled = op.RemoveLabel v0 (codes "A") ∷ []

abbrev pub commits : List Commit
commits = record { ts = 2; ops = made } ∷ record { ts = 4; ops = labelled } ∷ record { ts = 6; ops = unlabelled } ∷ []

-- one transaction has begun before the last commit and has written nothing, one behind it and has labelled v1
abbrev pub early : Txn
early = record { caller = 1; start = 5; ops = [] }

abbrev pub late : Txn
late = record { caller = 2; start = 7; ops = op.AddLabel v1 (codes "C") ∷ [] }

abbrev pub network : World
network = record { clock = 8; vertices = 2; edges = 2; commits = commits; running = early ∷ late ∷ []; interval = 1; installs = [] }

-- the same where no id is left
abbrev pub full : World
full = record network { vertices = 4611686018427387904; edges = 4611686018427387904 }
