use Rattle.std.proofs.Common.{drop}
use Rattle.graph_reader.specs.Reading.{Continues}
use Rattle.write_ops.specs.Deleting.{with_name, with_row}
use Rattle.write_ops.specs.Over.{over}
use Rattle.write_ops.proofs.deleting.with_row.Given as goal

abbrev pub invariant-loop-name : goal.invariant-loop-name
invariant-loop-name g l =
    Continues g.G.GraphRead.stands g.G.GraphRead.follows
    (λ w. with_row w l.names l.fn.found l.row)
    (λ w. over (with_name w l.row) l.found (drop l.name-index l.names))
    l.fn.graph l.graph
