-- The form that the objects of a graph keep: each list of a record in order, and storable values alone.
use Rattle.graph_record.specs.Ascending.{IsAscendingNames, IsAscendingIds}
use Rattle.graph_record.specs.Stored.{IsPropertyList}
use Rattle.graph_record.specs.declared.object.VertexRecord.{VertexRecord}
use Rattle.graph_record.specs.declared.object.Object.{Object}
use Rattle.graph_record.specs.declared.object.Object.TheVariants.{Dead, Vertex, Edge}

pub record IsVertexForm (r : VertexRecord) : Type 0 where
  pub labels : IsAscendingNames r.labels
  pub props : IsPropertyList r.props
  pub outs : IsAscendingIds r.outs
  pub ins : IsAscendingIds r.ins

abbrev pub IsForm : Object → Type 0
IsForm Dead = Unit {0}
IsForm (Vertex r) = IsVertexForm r
IsForm (Edge r) = IsPropertyList r.props
