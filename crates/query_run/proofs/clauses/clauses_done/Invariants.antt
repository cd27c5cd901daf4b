use Rattle.std.proofs.Common.{◌≡◌, drop}
use Rattle.query_run.specs.Denoted.{clauses_part}
use Rattle.query_run.specs.Running.{Goes}
use Rattle.query_run.proofs.clauses.clauses_done.Given as goal

abbrev pub invariant-loop-clause : goal.invariant-loop-clause
invariant-loop-clause g l =
    Goes g.S.GraphStore.stands g.S.GraphStore.caller g.S.GraphStore.alone l.access.txn.now.start
    (clauses_part l.clauses l.fn.table)
    (clauses_part (drop l.clause-index l.clauses) l.table)
    l.fn.store l.store
    × (g.S.GraphStore.running l.store ≡ g.S.GraphStore.running l.fn.store)
