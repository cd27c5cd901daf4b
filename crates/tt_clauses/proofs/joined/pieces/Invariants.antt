use Rattle.std.proofs.Common.{◌≡◌, ◌+◌, ℕ, List, [], drop, map}
use Rattle.world_model.specs.Sending.{OnlyReads}
use Rattle.graph_record.specs.Graph.{Graph}
use Rattle.tt_intervals.proofs.Pushing.{AscendsTo}
use Rattle.tt_clauses.specs.Found.{pieces_on}
use Rattle.tt_clauses.specs.Recalling.{Recalls}
use Rattle.tt_clauses.specs.Seen.{Rises, seen_at}
use Rattle.tt_clauses.proofs.joined.pieces.Given as goal

abbrev pub invariant-loop-at : goal.invariant-loop-at
invariant-loop-at g l = record {
  told : (graphs : ℕ → Graph) → Recalls g.S.GraphStore.stands g.S.GraphStore.caller g.S.GraphStore.alone l.access.txn.now.start l.fn.store graphs →
      (times : List ℕ) → l.instants ≡ map (seen_at graphs l.join.plan.now) times →
      (left : List ℕ) × (drop l.at-index l.instants ≡ map (seen_at graphs l.join.plan.now) left)
      × (pieces_on graphs l.join.plan.now l.join.filter.now l.join.items.now l.tuple [] times ≡ pieces_on graphs l.join.plan.now l.join.filter.now l.join.items.now l.tuple l.pieces.items left);
  ascends : (free : ℕ) × AscendsTo free l.pieces.items × Rises free (drop l.at-index l.instants) (l.access.txn.now.start + 1);
  reads : OnlyReads g.S.GraphStore.stands g.S.GraphStore.caller g.S.GraphStore.alone l.fn.store l.store;
  running : g.S.GraphStore.running l.store ≡ g.S.GraphStore.running l.fn.store;
}
