use Rattle.std.proofs.Common.{drop}
use Rattle.graph_reader.specs.Reading.{Continues}
use Rattle.write_ops.specs.Deleting.{with_vertex}
use Rattle.write_ops.specs.Over.{over}
use Rattle.write_ops.proofs.deleting.with_vertices.Given as goal

abbrev pub invariant-loop-x : goal.invariant-loop-x
invariant-loop-x g l =
    Continues g.G.GraphRead.stands g.G.GraphRead.follows
    (λ w. over (with_vertex w l.detach) l.fn.all l.vertices)
    (λ w. over (with_vertex w l.detach) l.all (drop l.x-index l.vertices))
    l.fn.graph l.graph
