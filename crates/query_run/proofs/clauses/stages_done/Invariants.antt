use Rattle.std.proofs.Common.{◌≡◌, drop}
use Rattle.query_run.specs.Denoted.{stages_part}
use Rattle.query_run.specs.Running.{Goes}
use Rattle.query_run.proofs.clauses.stages_done.Given as goal

abbrev pub invariant-loop-stage : goal.invariant-loop-stage
invariant-loop-stage g l =
    Goes g.S.GraphStore.stands g.S.GraphStore.caller g.S.GraphStore.alone l.access.txn.now.start
    (stages_part l.stages l.fn.table)
    (stages_part (drop l.stage-index l.stages) l.table)
    l.fn.store l.store
    × (g.S.GraphStore.running l.store ≡ g.S.GraphStore.running l.fn.store)
