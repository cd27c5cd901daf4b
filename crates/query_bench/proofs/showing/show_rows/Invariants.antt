use Rattle.std.proofs.Common.{[], drop}
use Rattle.graph_reader.specs.Reading.{Continues}
use Rattle.query_bench.specs.Answered.{rows_on}
use Rattle.query_bench.proofs.showing.show_rows.Given as goal

abbrev pub invariant-loop-row : goal.invariant-loop-row
invariant-loop-row g l = Continues g.G.GraphRead.stands g.G.GraphRead.follows
    (λ w. rows_on w [] l.rows)
    (λ w. rows_on w l.shown (drop l.row-index l.rows))
    l.fn.graph l.graph
