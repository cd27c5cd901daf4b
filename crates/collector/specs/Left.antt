-- The objects that are left, as two ranges of numbers.
use Rattle.std.specs.Prelude.{◌-◌, List, ◌++◌, map}
use Rattle.std.specs.List.{range_with_len}
use Rattle.graph_value.specs.declared.id.Oid.{Oid}
use Rattle.world_model.specs.declared.event.Kind.TheVariants.{Vertex, Edge}
use Rattle.world_model.specs.Views.{oid_of}
use Rattle.collector.specs.declared.left.Left.{Left}

abbrev pub left_of : Left → List Oid
left_of l = map (oid_of Vertex) (range_with_len l.vertex (l.vertices - l.vertex)) ++ map (oid_of Edge) (range_with_len l.edge (l.edges - l.edge))
