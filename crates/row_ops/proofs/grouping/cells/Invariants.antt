use Rattle.std.proofs.Common.{[], drop}
use Rattle.graph_reader.specs.Reading.{Continues}
use Rattle.row_ops.specs.Grouping.{cells_on}
use Rattle.row_ops.proofs.grouping.cells.Given as goal

abbrev pub invariant-loop-place : goal.invariant-loop-place
invariant-loop-place g l = Continues g.G.GraphRead.stands g.G.GraphRead.follows
    (λ w. cells_on w l.row [] l.items)
    (λ w. cells_on w l.row l.cells (drop l.place l.items))
    l.fn.graph l.graph
