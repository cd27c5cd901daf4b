use Rattle.std.proofs.Common.{drop}
use Rattle.graph_reader.specs.Reading.{Continues}
use Rattle.query_bench.specs.Answered.{stages_of}
use Rattle.query_bench.proofs.running.behind_stages.Given as goal

abbrev pub invariant-loop-stage : goal.invariant-loop-stage
invariant-loop-stage g l = Continues g.G.GraphRead.stands g.G.GraphRead.follows
    (λ w. stages_of w l.fn.table l.stages)
    (λ w. stages_of w l.done (drop l.stage-index l.stages))
    l.fn.graph l.graph
