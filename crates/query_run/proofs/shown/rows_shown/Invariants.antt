use Rattle.std.proofs.Common.{[], drop}
use Rattle.graph_reader.specs.Reading.{Continues}
use Rattle.query_run.specs.Shown.{rows_shown}
use Rattle.query_run.proofs.shown.rows_shown.Given as goal

abbrev pub invariant-loop-row : goal.invariant-loop-row
invariant-loop-row g l =
    Continues g.G.GraphRead.stands g.G.GraphRead.follows
    (λ w. rows_shown w [] l.table)
    (λ w. rows_shown w l.rows (drop l.row-index l.table))
    l.fn.graph l.graph
