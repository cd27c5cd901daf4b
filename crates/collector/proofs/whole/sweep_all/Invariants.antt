use Rattle.std.proofs.Common.{◌≡◌}
use Rattle.collector.specs.Advancing.{IsKept, stage_of}
use Rattle.collector.proofs.UnderWay.{UnderWay}
use Rattle.collector.proofs.Weights.{weight}
use Rattle.collector.proofs.whole.sweep_all.Given as goal

abbrev pub invariant-loop-sweep : goal.invariant-loop-sweep
invariant-loop-sweep g l = record {
  way : UnderWay g.S.GraphStore.stands g.S.GraphStore.caller g.S.GraphStore.alone l.fn.store l.store (stage_of l.sweep) l.swept;
  kept : IsKept g.S.GraphStore.stands l.sweep.kept l.store;
  stays : g.S.GraphStore.running l.store ≡ g.S.GraphStore.running l.fn.store;
}

abbrev pub decreases-loop-sweep : goal.decreases-loop-sweep
decreases-loop-sweep g l = weight (stage_of l.sweep)
