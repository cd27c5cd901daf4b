use Rattle.std.proofs.Common.{drop}
use Rattle.graph_reader.specs.Reading.{Continues}
use Rattle.write_ops.specs.Creating.{create_row, create_of}
use Rattle.write_ops.specs.Over.{over}
use Rattle.write_ops.proofs.creating.create.Given as goal

abbrev pub invariant-loop-row : goal.invariant-loop-row
invariant-loop-row g l =
    Continues g.G.GraphRead.stands g.G.GraphRead.follows
    (λ w. create_of w l.patterns l.table)
    (λ w. over (create_row w l.patterns) l.created (drop l.row-index l.table))
    l.fn.graph l.graph
