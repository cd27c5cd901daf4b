-- Each id that an operation names is one that was there, or that of an earlier create of the same kind.
use Rattle.std.specs.Prelude.{◌≡◌, ℕ, List, [], ◌∷◌, ◌++◌, length, slice_get, Bool, true, false, Ok, Some}
use Rattle.graph_record.specs.Graph.{Graph}
use Rattle.cypher_syntax.specs.declared.tree.clause.Update.{Update}
use Rattle.cypher_syntax.specs.declared.tree.pattern.Pattern.{Pattern}
use Rattle.expr_eval.specs.Row.{Row}
use Rattle.write_ops.specs.declared.creating.Created.{Created}
use Rattle.write_ops.specs.declared.planned.Entity.{Entity}
use Rattle.write_ops.specs.declared.planned.Entity.TheVariants.{Vertex, Edge}
use Rattle.write_ops.specs.declared.planned.Pick.{Pick}
use Rattle.write_ops.specs.declared.planned.Pick.TheVariants.{Known, Made}
use Rattle.write_ops.specs.declared.planned.PlannedOp.{PlannedOp}
use Rattle.write_ops.specs.declared.planned.PlannedOp.TheVariants as op
use Rattle.write_ops.specs.Creating.{create_of}
use Rattle.write_ops.specs.Placing.{Names}
use Rattle.write_ops.specs.Planning.{plan_of}
use Rattle.write_ops.specs.Setting.{Ops}

-- what an operation makes: true for a vertex, false for an edge
abbrev pub made_by : PlannedOp → List Bool
made_by op.CreateVertex = true ∷ []
made_by (op.CreateEdge from kind to) = false ∷ []
made_by o = []

abbrev pub made_in : Ops → List Bool
made_in [] = []
made_in (o ∷ os) = made_by o ++ made_in os

-- The create of that number made a vertex, or an edge.
abbrev pub IsVertex : List Bool → Pick → Type 0
IsVertex made (Known id) = Unit {0}
IsVertex made (Made k) = slice_get made k ≡ Some true

abbrev pub IsEdge : List Bool → Pick → Type 0
IsEdge made (Known id) = Unit {0}
IsEdge made (Made k) = slice_get made k ≡ Some false

-- of an operation, behind creates that made these
abbrev pub Fits : List Bool → PlannedOp → Type 0
Fits made op.CreateVertex = Unit {0}
Fits made (op.DeleteVertex at) = IsVertex made at
Fits made (op.AddLabel at label) = IsVertex made at
Fits made (op.RemoveLabel at label) = IsVertex made at
Fits made (op.SetVertexProp at key v) = IsVertex made at
Fits made (op.CreateEdge from kind to) = IsVertex made from × IsVertex made to
Fits made (op.DeleteEdge at) = IsEdge made at
Fits made (op.SetEdgeProp at key v) = IsEdge made at

abbrev pub AllFit : List Bool → Ops → Type 0
AllFit made [] = Unit {0}
AllFit made (o ∷ os) = Fits made o × AllFit (made ++ made_by o) os

abbrev pub EntityFits : List Bool → Entity → Type 0
EntityFits made (Vertex at) = IsVertex made at
EntityFits made (Edge at) = IsEdge made at

abbrev pub NamesFit : List Bool → Names → Type 0
NamesFit made [] = Unit {0}
NamesFit made (p ∷ names) = EntityFits made p.1 × NamesFit made names

abbrev pub RowsFit : List Bool → List Names → Type 0
RowsFit made [] = Unit {0}
RowsFit made (names ∷ rows) = NamesFit made names × RowsFit made rows

-- What a name stands for is made by the plan; the number of creates is that of the plan, and a list of names stands there
-- for each row.
pub record IsMade (c : Created) (count : ℕ) : Type 0 where
  pub fit : AllFit [] c.ops
  pub number : length (made_in c.ops) ≡ c.made
  pub names : RowsFit (made_in c.ops) c.names
  pub rows : length c.names ≡ count

abbrev pub CreatesFit : Type 0
CreatesFit = (g : Graph) (patterns : List Pattern) (table : List Row) (c : Created) → create_of g patterns table ≡ Ok c → IsMade c (length table)

abbrev pub PlansFit : Type 0
PlansFit = (g : Graph) (clause : Update) (table : List Row) (ops : Ops) → plan_of g clause table ≡ Ok ops → AllFit [] ops
