use Rattle.std.proofs.Common.{[], drop}
use Rattle.graph_reader.specs.Reading.{Continues}
use Rattle.row_ops.specs.Grouping.{rows_on}
use Rattle.row_ops.proofs.grouping.all_cells.Given as goal

abbrev pub invariant-loop-row : goal.invariant-loop-row
invariant-loop-row g l = Continues g.G.GraphRead.stands g.G.GraphRead.follows
    (λ w. rows_on w l.items [] l.table)
    (λ w. rows_on w l.items l.rows (drop l.row-index l.table))
    l.fn.graph l.graph
