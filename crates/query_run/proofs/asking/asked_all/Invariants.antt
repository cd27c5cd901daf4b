use Rattle.std.proofs.Common.{◌≡◌, [], drop}
use Rattle.query_run.specs.Asked.{planned_part}
use Rattle.query_run.specs.Running.{Goes}
use Rattle.query_run.proofs.asking.asked_all.Given as goal

abbrev pub invariant-loop-op : goal.invariant-loop-op
invariant-loop-op g l =
    Goes g.S.GraphStore.stands g.S.GraphStore.caller g.S.GraphStore.alone l.access.txn.now.start
    (planned_part l.ops [])
    (planned_part (drop l.op-index l.ops) l.ids)
    l.fn.store l.store
    × (g.S.GraphStore.running l.store ≡ g.S.GraphStore.running l.fn.store)
