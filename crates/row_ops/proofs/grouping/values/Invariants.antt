use Rattle.std.proofs.Common.{[], drop}
use Rattle.graph_reader.specs.Reading.{Continues}
use Rattle.row_ops.specs.Grouping.{planned_on}
use Rattle.row_ops.proofs.grouping.values.Given as goal

abbrev pub invariant-loop-place : goal.invariant-loop-place
invariant-loop-place g l = Continues g.G.GraphRead.stands g.G.GraphRead.follows
    (λ w. planned_on w l.group 0 [] l.plans)
    (λ w. planned_on w l.group l.place l.values (drop l.place l.plans))
    l.fn.graph l.graph
