-- The empty graph is coherent.
use Rattle.std.proofs.Common.{refl}
use Rattle.graph_record.specs.Graph.{empty_graph, IsCoherent}

pub empty_coherent : IsCoherent empty_graph
empty_coherent = record { vertices_ascend = refl; edges_ascend = refl; starts = λ e v. refl; ends = λ e v. refl }
