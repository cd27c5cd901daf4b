use Rattle.std.proofs.Common.{add-one, ap, subst, ◌∙◌, IsTrue}
use Rattle.std.specs.FinMap.{is_sorted}
use Rattle.graph_record.specs.Graph.{vertex_cmp}
use Rattle.graph_reader.proofs.Above.{found, above_at, above_gap}
use Rattle.graph_reader.proofs.graph.Graph.place_above.Goals as goal

pub returns-in-Ok : goal.returns-in-Ok
returns-in-Ok c =
    ap (found c.args.v c.args.self.now.vertices) (add-one c.in-Ok.at)
    ∙ above_at c.args.v c.args.self.now.vertices c.in-Ok.at (subst (λ g. IsTrue (is_sorted vertex_cmp g.vertices)) c.self.view_is c.self.invariant.vertices_ascend) c.in-Ok.ensures.found

pub returns-in-Err : goal.returns-in-Err
returns-in-Err c = above_gap c.args.v c.args.self.now.vertices c.in-Err.at c.in-Err.ensures.absent
