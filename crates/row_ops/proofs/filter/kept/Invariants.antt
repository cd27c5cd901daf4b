use Rattle.std.proofs.Common.{[], length}
use Rattle.graph_reader.specs.Reading.{Continues}
use Rattle.row_ops.specs.Filtering.{kept_on}
use Rattle.row_ops.proofs.filter.kept.Given as goal

abbrev pub invariant-loop-row : goal.invariant-loop-row
invariant-loop-row g l = Continues g.G.GraphRead.stands g.G.GraphRead.follows
    (λ w. kept_on w l.condition [] l.fn.rows)
    (λ w. kept_on w l.condition l.kept l.left.items)
    l.fn.graph l.graph

abbrev pub decreases-loop-row : goal.decreases-loop-row
decreases-loop-row g l = length l.left.items
