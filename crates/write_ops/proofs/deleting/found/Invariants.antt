use Rattle.std.proofs.Common.{drop}
use Rattle.graph_reader.specs.Reading.{Continues}
use Rattle.write_ops.specs.Deleting.{with_row, found_of}
use Rattle.write_ops.specs.Over.{over}
use Rattle.write_ops.proofs.deleting.found.Given as goal

abbrev pub invariant-loop-row : goal.invariant-loop-row
invariant-loop-row g l =
    Continues g.G.GraphRead.stands g.G.GraphRead.follows
    (λ w. found_of w l.names l.table)
    (λ w. over (with_row w l.names) l.found (drop l.row-index l.table))
    l.fn.graph l.graph
