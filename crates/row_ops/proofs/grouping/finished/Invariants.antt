use Rattle.std.proofs.Common.{[], drop}
use Rattle.graph_reader.specs.Reading.{Continues}
use Rattle.row_ops.specs.Grouping.{groups_on}
use Rattle.row_ops.proofs.grouping.finished.Given as goal

abbrev pub invariant-loop-group : goal.invariant-loop-group
invariant-loop-group g l = Continues g.G.GraphRead.stands g.G.GraphRead.follows
    (λ w. groups_on w l.plans [] l.groups)
    (λ w. groups_on w l.plans l.rows (drop l.group-index l.groups))
    l.fn.graph l.graph
