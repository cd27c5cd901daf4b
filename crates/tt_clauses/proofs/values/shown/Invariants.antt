use Rattle.std.proofs.Common.{[], drop}
use Rattle.graph_reader.specs.Reading.{Continues}
use Rattle.tt_clauses.specs.Values.{shown_on}
use Rattle.tt_clauses.proofs.values.shown.Given as goal

abbrev pub invariant-loop-value : goal.invariant-loop-value
invariant-loop-value g l =
    Continues g.G.GraphRead.stands g.G.GraphRead.follows
    (λ w. shown_on w [] l.values)
    (λ w. shown_on w l.shown (drop l.value-index l.values))
    l.fn.graph l.graph
