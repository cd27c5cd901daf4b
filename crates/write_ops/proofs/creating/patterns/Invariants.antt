use Rattle.std.proofs.Common.{drop}
use Rattle.graph_reader.specs.Reading.{Continues}
use Rattle.write_ops.specs.Creating.{pattern}
use Rattle.write_ops.specs.Over.{over}
use Rattle.write_ops.proofs.creating.patterns.Given as goal

abbrev pub invariant-loop-p : goal.invariant-loop-p
invariant-loop-p g l =
    Continues g.G.GraphRead.stands g.G.GraphRead.follows
    (λ w. over (pattern w l.row) l.fn.walk l.patterns)
    (λ w. over (pattern w l.row) l.walk (drop l.p-index l.patterns))
    l.fn.graph l.graph
