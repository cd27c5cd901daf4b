use Rattle.std.proofs.Common.{drop}
use Rattle.graph_reader.specs.Reading.{Continues}
use Rattle.query_run.specs.Plain.{stages_table}
use Rattle.query_run.proofs.plain.stages_table.Given as goal

abbrev pub invariant-loop-stage : goal.invariant-loop-stage
invariant-loop-stage g l =
    Continues g.G.GraphRead.stands g.G.GraphRead.follows
    (λ w. stages_table w l.stages l.fn.table)
    (λ w. stages_table w (drop l.stage-index l.stages) l.table)
    l.fn.graph l.graph
