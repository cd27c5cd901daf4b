-- Whether a write changes something is told by the one object that it speaks of.
use Rattle.std.proofs.Common.{◌≡◌, ℕ, List, [], ◌∷◌, Option, Some, None, Bool, true, false, not, ◌||◌, cond, refl, sym, ap, subst, ◌∙◌}
use Rattle.std.specs.Prelude.{nat_eq}
use Rattle.std.specs.List.{list_any}
use Rattle.graph_value.specs.declared.id.Oid.{Oid}
use Rattle.graph_value.specs.declared.id.Oid.TheVariants.{Vertex, Edge}
use Rattle.graph_value.specs.declared.id.EdgeId.{EdgeId}
use Rattle.graph_value.specs.declared.id.VertexId.{VertexId}
use Rattle.graph_record.specs.declared.object.Object.{Object}
use Rattle.graph_record.specs.Graph.{Graph, object_at}
use Rattle.undo_delta.specs.Change.{is_without_edges}
use Rattle.undo_delta.specs.Touch.{is_touched, same_oid, touches}
use Rattle.undo_delta.specs.declared.ask.Ask.{Ask}
use Rattle.undo_delta.specs.declared.ask.Ask.TheVariants as ask
use Rattle.undo_delta.specs.declared.op.Op.{Op}
use Rattle.undo_delta.specs.declared.op.Op.TheVariants as op
use Rattle.world_model.specs.declared.answer.Refused.{Refused}
use Rattle.world_model.specs.declared.answer.Refused.TheVariants.{HasEdges}
use Rattle.world_model.specs.Asked.{op_of}
use Rattle.world_model.specs.Refusals.{conflict, has_edges}
use Rattle.world_model.specs.World.{World, Txn, rival_at, view_of}
use Rattle.world_model.proofs.Folds.{nat_eq_refl}
use Rattle.world_model.proofs.Rivals.{free_at}
use Rattle.front_core.specs.Objects.{row_at}
use Rattle.front_core.specs.Opened.{Opened}
use Rattle.front_core.specs.declared.state.State.{State}
use Rattle.front_core.proofs.Stepping.{newest_seen}

itself : (n : ℕ) → (nat_eq n n || false) ≡ true
itself n = ap (λ b. b || false) (nat_eq_refl n)

-- the newest form of an object that the write touches is what the transaction sees
pub touched_newest : (s : State) (w : World) (c start : ℕ) (p : Txn) (o : Opened s w c start p) (write : Op) (x : Oid) → conflict w p (touches write) ≡ None → is_touched write x ≡ true → (row_at s.objects x).newest ≡ object_at (view_of w p) x
touched_newest s w c start p o write x free touched = newest_seen s w c start p o x (free_at w p (touches write) x free touched)

pub one_vertex : (write : Op) (v : VertexId) → touches write ≡ Vertex v ∷ [] → is_touched write (Vertex v) ≡ true
one_vertex write v is = ap (list_any (same_oid (Vertex v))) is ∙ itself v.0

pub one_edge : (write : Op) (e : EdgeId) → touches write ≡ Edge e ∷ [] → is_touched write (Edge e) ≡ true
one_edge write e is = ap (list_any (same_oid (Edge e))) is ∙ itself e.0

-- the refusal of a deletion
pub edges_of : (w : World) (g : Graph) (a : Ask) (v : VertexId) → op.DeleteVertex v ≡ op_of w g a → has_edges g a ≡ cond (is_without_edges (object_at g (Vertex v))) None (Some (HasEdges v))
edges_of w g ask.CreateVertex v is = absurd cc
edges_of w g (ask.DeleteVertex u) v is = ap (λ n. cond (is_without_edges (object_at g (Vertex n))) None (Some (HasEdges n))) (same u v is)
  where
    same : (u v : VertexId) → op.DeleteVertex v ≡ op.DeleteVertex u → u ≡ v
    same u v is = cc
edges_of w g (ask.AddLabel u name) v is = absurd cc
edges_of w g (ask.RemoveLabel u name) v is = absurd cc
edges_of w g (ask.SetVertexProp u name value) v is = absurd cc
edges_of w g (ask.CreateEdge from kind to) v is = absurd cc
edges_of w g (ask.DeleteEdge e) v is = absurd cc
edges_of w g (ask.SetEdgeProp e name value) v is = absurd cc
