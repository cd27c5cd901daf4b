-- The definitions of writes, computed on the networks: what each kind of ask does, and why it is refused.
use Rattle.std.proofs.Common.{◌≡◌, [], ◌∷◌, Some, None, codes, refl}
use Rattle.graph_value.specs.declared.id.Oid.TheVariants as oid
use Rattle.txn_manager.specs.declared.rivals.Rival.TheVariants as rival
use Rattle.undo_delta.specs.declared.ask.Ask.TheVariants.{CreateVertex, DeleteVertex, AddLabel, RemoveLabel, SetVertexProp, CreateEdge, DeleteEdge}
use Rattle.undo_delta.specs.declared.delta.Delta.TheVariants as delta
use Rattle.undo_delta.specs.declared.op.Op.{Op}
use Rattle.undo_delta.specs.declared.op.Op.TheVariants as op
use Rattle.world_model.specs.declared.event.Event.TheVariants as event
use Rattle.world_model.specs.Reply as reply
use Rattle.world_model.specs.declared.answer.Wrote.TheVariants as wrote
use Rattle.world_model.specs.declared.answer.Refused.TheVariants as refused
use Rattle.world_model.specs.Op.{apply_all, are_touching}
use Rattle.world_model.specs.World.{World, find_txn, other_writer, newest_touch, ops_of, before, view_of}
use Rattle.world_model.specs.Asked.{op_of}
use Rattle.world_model.specs.Refusals.{write_refusal}
use Rattle.world_model.specs.Step.{step, with_op, unchanged}
use Rattle.world_model.specs.Undo.{left_by_all, open_list}
use Rattle.world_model.proofs.Network.{v0, v1, e0, e1, five, network, full, early, late}
use Rattle.world_model.proofs.Gaps.{v2, v3, v4, e2, gaps, maker}

-- the network where the later transaction has written one thing more
abbrev later_writes : Op → World
later_writes more = record network { running = early ∷ record late { ops = op.AddLabel v1 (codes "C") ∷ more ∷ [] } ∷ [] }

-- ---- vertices

-- a vertex with edges stays, in what the transaction sees
with_edges : write_refusal network late (DeleteVertex v1) ≡ Some (refused.HasEdges v1)
unfolding apply_all ops_of before find_txn other_writer newest_touch are_touching
with_edges = refl

with_one_that_leaves : write_refusal network late (DeleteVertex v0) ≡ Some (refused.HasEdges v0)
unfolding apply_all ops_of before find_txn other_writer newest_touch are_touching
with_one_that_leaves = refl

-- that is told only where nobody stands in the way, and where it is there
edges_in_conflict : write_refusal network early (DeleteVertex v1) ≡ Some (refused.Conflict (oid.Vertex v1) (rival.Running 7))
unfolding apply_all ops_of before find_txn other_writer newest_touch are_touching
edges_in_conflict = refl

not_there : write_refusal gaps maker (DeleteVertex v1) ≡ Some (refused.Missing (oid.Vertex v1))
unfolding apply_all ops_of before find_txn other_writer newest_touch are_touching
not_there = refl

vertex_deleted : step gaps 1 (event.Write (DeleteVertex v4))
    ≡ record { reply = reply.Wrote wrote.Done; world = record gaps { running = record maker { ops = op.CreateVertex v4 ∷ op.DeleteVertex v4 ∷ [] } ∷ [] } }
unfolding apply_all ops_of before find_txn other_writer newest_touch are_touching with_op
vertex_deleted = refl

-- a vertex gets the vertices' number, and raises that alone
vertex_made : step gaps 1 (event.Write CreateVertex)
    ≡ record {
      reply = reply.Wrote (wrote.Vertex (record { 0 = 5 }));
      world = record gaps { vertices = 6; running = record maker { ops = op.CreateVertex v4 ∷ op.CreateVertex (record { 0 = 5 }) ∷ [] } ∷ [] };
    }
unfolding apply_all ops_of before find_txn other_writer newest_touch are_touching with_op
vertex_made = refl

-- ---- labels

label_added : step network 2 (event.Write (AddLabel v0 (codes "Z"))) ≡ record { reply = reply.Wrote wrote.Done; world = later_writes (op.AddLabel v0 (codes "Z")) }
unfolding apply_all ops_of before find_txn other_writer newest_touch are_touching with_op
label_added = refl

label_removed : step network 2 (event.Write (RemoveLabel v0 (codes "B"))) ≡ record { reply = reply.Wrote wrote.Done; world = later_writes (op.RemoveLabel v0 (codes "B")) }
unfolding apply_all ops_of before find_txn other_writer newest_touch are_touching with_op
label_removed = refl

-- one that is there already is no write, and so is taking away one that isn't
label_there : step network 2 (event.Write (AddLabel v0 (codes "B"))) ≡ record { reply = unchanged; world = network }
unfolding apply_all ops_of before find_txn other_writer newest_touch are_touching with_op
label_there = refl

label_gone : step network 2 (event.Write (RemoveLabel v0 (codes "A"))) ≡ record { reply = unchanged; world = network }
unfolding apply_all ops_of before find_txn other_writer newest_touch are_touching with_op
label_gone = refl

-- ---- edges

-- an edge gets the edges' number, and raises that alone
edge_made : step network 2 (event.Write (CreateEdge v0 (codes "T") v1))
    ≡ record { reply = reply.Wrote (wrote.Edge e2); world = record (later_writes (op.CreateEdge e2 v0 (codes "T") v1)) { edges = 3 } }
unfolding apply_all ops_of before find_txn other_writer newest_touch are_touching with_op
edge_made = refl

made_in_gaps : op_of gaps (view_of gaps maker) (CreateEdge v0 (codes "T") v3) ≡ op.CreateEdge (record { 0 = 3 }) v0 (codes "T") v3
made_in_gaps = refl

-- both its vertices have to be there; the first that isn't is told, before any conflict
end_missing : write_refusal network late (CreateEdge v0 (codes "T") v2) ≡ Some (refused.Missing (oid.Vertex v2))
unfolding apply_all ops_of before find_txn other_writer newest_touch are_touching
end_missing = refl

start_missing : write_refusal network late (CreateEdge v2 (codes "T") v0) ≡ Some (refused.Missing (oid.Vertex v2))
unfolding apply_all ops_of before find_txn other_writer newest_touch are_touching
start_missing = refl

both_missing : write_refusal network late (CreateEdge v3 (codes "T") v2) ≡ Some (refused.Missing (oid.Vertex v3))
unfolding apply_all ops_of before find_txn other_writer newest_touch are_touching
both_missing = refl

missing_in_conflict : write_refusal network early (CreateEdge v1 (codes "T") v2) ≡ Some (refused.Missing (oid.Vertex v2))
unfolding apply_all ops_of before find_txn other_writer newest_touch are_touching
missing_in_conflict = refl

-- who stands in the way at the first of its vertices comes first
start_in_conflict : write_refusal network early (CreateEdge v0 (codes "T") v1) ≡ Some (refused.Conflict (oid.Vertex v0) (rival.Committed 6))
unfolding apply_all ops_of before find_txn other_writer newest_touch are_touching
start_in_conflict = refl

other_way : write_refusal network early (CreateEdge v1 (codes "T") v0) ≡ Some (refused.Conflict (oid.Vertex v1) (rival.Running 7))
unfolding apply_all ops_of before find_txn other_writer newest_touch are_touching
other_way = refl

-- a deleted edge has the ends that it has in the graph, and is in conflict there too
ends_found : op_of network (view_of network late) (DeleteEdge e0) ≡ op.DeleteEdge e0 v0 v1
unfolding apply_all ops_of before
ends_found = refl

loop_found : op_of network (view_of network late) (DeleteEdge e1) ≡ op.DeleteEdge e1 v1 v1
unfolding apply_all ops_of before
loop_found = refl

edge_deleted : step network 2 (event.Write (DeleteEdge e0)) ≡ record { reply = reply.Wrote wrote.Done; world = later_writes (op.DeleteEdge e0 v0 v1) }
unfolding apply_all ops_of before find_txn other_writer newest_touch are_touching with_op
edge_deleted = refl

lost_in_conflict : write_refusal network early (DeleteEdge e0) ≡ Some (refused.Conflict (oid.Vertex v0) (rival.Committed 6))
unfolding apply_all ops_of before find_txn other_writer newest_touch are_touching
lost_in_conflict = refl

edge_not_there : write_refusal gaps maker (DeleteEdge e1) ≡ Some (refused.Missing (oid.Edge e1))
unfolding apply_all ops_of before find_txn other_writer newest_touch are_touching
edge_not_there = refl

-- ---- the ends of the ids: a vertex needs one of the vertices', an edge one of the edges'

no_edge_left : write_refusal full late (CreateEdge v0 (codes "T") v1) ≡ Some refused.IdEnd
unfolding apply_all ops_of before find_txn other_writer newest_touch are_touching
no_edge_left = refl

edge_without_vertices : write_refusal (record full { edges = 2 }) late (CreateEdge v0 (codes "T") v1) ≡ None
unfolding apply_all ops_of before find_txn other_writer newest_touch are_touching
edge_without_vertices = refl

vertex_without_edges : write_refusal (record full { vertices = 2 }) late CreateVertex ≡ None
unfolding apply_all ops_of before find_txn other_writer newest_touch are_touching
vertex_without_edges = refl

the_last_edge : write_refusal (record full { edges = 4611686018427387903 }) late (CreateEdge v0 (codes "T") v1) ≡ None
unfolding apply_all ops_of before find_txn other_writer newest_touch are_touching
the_last_edge = refl

deleted_at_the_end : write_refusal full late (DeleteEdge e0) ≡ None
unfolding apply_all ops_of before find_txn other_writer newest_touch are_touching
deleted_at_the_end = refl

label_added_at_the_end : write_refusal full late (AddLabel v0 (codes "Z")) ≡ None
unfolding apply_all ops_of before find_txn other_writer newest_touch are_touching
label_added_at_the_end = refl

label_removed_at_the_end : write_refusal full late (RemoveLabel v0 (codes "B")) ≡ None
unfolding apply_all ops_of before find_txn other_writer newest_touch are_touching
label_removed_at_the_end = refl

key_set_at_the_end : write_refusal full late (SetVertexProp v1 (codes "k") five) ≡ None
unfolding apply_all ops_of before find_txn other_writer newest_touch are_touching
key_set_at_the_end = refl

vertex_deleted_at_the_end : write_refusal (record gaps { vertices = 4611686018427387904; edges = 4611686018427387904 }) maker (DeleteVertex v4) ≡ None
unfolding apply_all ops_of before find_txn other_writer newest_touch are_touching
vertex_deleted_at_the_end = refl

conflict_at_the_end : write_refusal full early (CreateEdge v0 (codes "T") v1) ≡ Some (refused.Conflict (oid.Vertex v0) (rival.Committed 6))
unfolding apply_all ops_of before find_txn other_writer newest_touch are_touching
conflict_at_the_end = refl

-- ---- what undoes the writes of an open transaction, the newest first

open_deltas : open_list network (record late { ops = op.AddLabel v1 (codes "C") ∷ op.RemoveLabel v1 (codes "C") ∷ op.CreateEdge e2 v0 (codes "T") v1 ∷ [] }) (oid.Vertex v1)
    ≡ delta.RemoveInEdge e2 ∷ delta.AddLabel (codes "C") ∷ delta.RemoveLabel (codes "C") ∷ []
unfolding apply_all ops_of before left_by_all
open_deltas = refl

no_open_deltas : open_list network late (oid.Vertex v0) ≡ []
unfolding apply_all ops_of before left_by_all
no_open_deltas = refl
