use Rattle.std.proofs.Common.{sym, ap, ◌∙◌}
use Rattle.graph_reader.specs.Alive.{next_vertex_in}
use Rattle.graph_reader.proofs.Above.{above_none}
use Rattle.graph_reader.proofs.graph.Graph.above.Goals as goal

pub returns-in-None : goal.returns-in-None
returns-in-None c = c.vertex_at.ensures ∙ above_none c.args.self.now.vertices ∙ ap (next_vertex_in c.args.self.now) (sym c.in-None.is)
