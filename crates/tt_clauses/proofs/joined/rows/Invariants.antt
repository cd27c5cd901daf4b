use Rattle.std.proofs.Common.{◌≡◌, ℕ, List, drop, map}
use Rattle.world_model.specs.Sending.{OnlyReads}
use Rattle.graph_record.specs.Graph.{Graph}
use Rattle.tt_clauses.specs.Found.{Piece, all_pieces, all_pieces_on}
use Rattle.tt_clauses.specs.Recalling.{Recalls}
use Rattle.tt_clauses.specs.Rows.{AreRows}
use Rattle.tt_clauses.specs.Seen.{seen_at}
use Rattle.tt_clauses.proofs.joined.rows.Given as goal

abbrev pub invariant-loop-tuple : goal.invariant-loop-tuple
invariant-loop-tuple g l = record {
  told : (graphs : ℕ → Graph) → Recalls g.S.GraphStore.stands g.S.GraphStore.caller g.S.GraphStore.alone l.access.txn.now.start l.fn.store graphs →
      (times : List ℕ) → l.instants ≡ map (seen_at graphs l.join.plan.now) times →
      (done : List (List Piece)) × AreRows done l.rows
      × (all_pieces graphs l.join.plan.now l.join.filter.now l.join.items.now times l.tuples ≡ all_pieces_on graphs l.join.plan.now l.join.filter.now l.join.items.now times done (drop l.tuple-index l.tuples));
  reads : OnlyReads g.S.GraphStore.stands g.S.GraphStore.caller g.S.GraphStore.alone l.fn.store l.store;
  running : g.S.GraphStore.running l.store ≡ g.S.GraphStore.running l.fn.store;
}
