use Rattle.std.proofs.Common.{drop}
use Rattle.graph_reader.specs.Reading.{Continues}
use Rattle.write_ops.specs.Creating.{hop}
use Rattle.write_ops.specs.Over.{over}
use Rattle.write_ops.proofs.creating.hops.Given as goal

abbrev pub invariant-loop-edge : goal.invariant-loop-edge
invariant-loop-edge g l =
    Continues g.G.GraphRead.stands g.G.GraphRead.follows
    (λ w. over (hop w l.row) l.fn.walk l.steps)
    (λ w. over (hop w l.row) l.walk (drop l.edge-index l.steps))
    l.fn.graph l.graph
