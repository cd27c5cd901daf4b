use Rattle.std.proofs.Common.{[], drop}
use Rattle.graph_reader.specs.Reading.{Continues}
use Rattle.query_bench.specs.Answered.{columns_on}
use Rattle.query_bench.proofs.showing.show_row.Given as goal

abbrev pub invariant-loop-value : goal.invariant-loop-value
invariant-loop-value g l = Continues g.G.GraphRead.stands g.G.GraphRead.follows
    (λ w. columns_on w [] l.row)
    (λ w. columns_on w l.shown (drop l.value-index l.row))
    l.fn.graph l.graph
