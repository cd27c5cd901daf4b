use Rattle.std.proofs.Common.{◌≡◌, ◌+◌, ◌-◌, ◌++◌, ℕ, map}
use Rattle.world_model.specs.Sending.{OnlyReads}
use Rattle.graph_record.specs.Graph.{Graph}
use Rattle.tt_clauses.specs.Instants.{instants, instants_from}
use Rattle.tt_clauses.specs.Recalling.{Recalls}
use Rattle.tt_clauses.specs.Seen.{Rises, seen_at}
use Rattle.tt_clauses.proofs.instants.seen.Given as goal

abbrev pub invariant-loop-t : goal.invariant-loop-t
invariant-loop-t g l = record {
  told : (graphs : ℕ → Graph) → Recalls g.S.GraphStore.stands g.S.GraphStore.caller g.S.GraphStore.alone l.access.txn.now.start l.fn.store graphs →
      map (seen_at graphs l.plan) (instants l.first l.last) ≡ l.seen ++ map (seen_at graphs l.plan) (instants_from l.t (l.last + 1 - l.t));
  reads : OnlyReads g.S.GraphStore.stands g.S.GraphStore.caller g.S.GraphStore.alone l.fn.store l.store;
  rises : Rises l.first l.seen l.t;
  running : g.S.GraphStore.running l.store ≡ g.S.GraphStore.running l.fn.store;
}
