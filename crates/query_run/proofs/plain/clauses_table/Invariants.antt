use Rattle.std.proofs.Common.{drop}
use Rattle.graph_reader.specs.Reading.{Continues}
use Rattle.query_run.specs.Plain.{clauses_table}
use Rattle.query_run.proofs.plain.clauses_table.Given as goal

abbrev pub invariant-loop-clause : goal.invariant-loop-clause
invariant-loop-clause g l =
    Continues g.G.GraphRead.stands g.G.GraphRead.follows
    (λ w. clauses_table w l.clauses l.fn.table)
    (λ w. clauses_table w (drop l.clause-index l.clauses) l.table)
    l.fn.graph l.graph
