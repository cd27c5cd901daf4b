use Rattle.std.proofs.Common.{drop}
use Rattle.graph_reader.specs.Reading.{Continues}
use Rattle.query_bench.specs.Answered.{clauses_of}
use Rattle.query_bench.proofs.running.behind_all.Given as goal

abbrev pub invariant-loop-clause : goal.invariant-loop-clause
invariant-loop-clause g l = Continues g.G.GraphRead.stands g.G.GraphRead.follows
    (λ w. clauses_of w l.fn.table l.clauses)
    (λ w. clauses_of w l.done (drop l.clause-index l.clauses))
    l.fn.graph l.graph
