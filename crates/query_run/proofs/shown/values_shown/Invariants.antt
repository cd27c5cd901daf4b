use Rattle.std.proofs.Common.{[], drop}
use Rattle.graph_reader.specs.Reading.{Continues}
use Rattle.query_run.specs.Shown.{values_shown}
use Rattle.query_run.proofs.shown.values_shown.Given as goal

abbrev pub invariant-loop-value : goal.invariant-loop-value
invariant-loop-value g l =
    Continues g.G.GraphRead.stands g.G.GraphRead.follows
    (λ w. values_shown w [] l.row)
    (λ w. values_shown w l.values (drop l.value-index l.row))
    l.fn.graph l.graph
