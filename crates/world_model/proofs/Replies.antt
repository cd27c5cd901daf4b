-- Every answer that a world allows belongs to its event.
use Rattle.std.proofs.Common.{◌≡◌, ℕ, List, [], ◌∷◌, Option, Some, None, Bool, true, false, cond, refl, sym, subst, inl, inr}
use Rattle.std.proofs.lemmas.Bool.{false≢true}
use Rattle.std.specs.FinMap.{find}
use Rattle.std.specs.Prelude.{nat_eq}
use Rattle.graph_value.specs.declared.id.Oid.{Oid}
use Rattle.graph_value.specs.declared.id.Oid.TheVariants.{Vertex, Edge}
use Rattle.graph_record.specs.declared.object.VertexRecord.{VertexRecord}
use Rattle.graph_record.specs.declared.object.EdgeRecord.{EdgeRecord}
use Rattle.graph_record.specs.Graph.{Graph, object_at, vertex_cmp, edge_cmp, vertex_object, edge_object}
use Rattle.txn_manager.specs.declared.refusals.BeginRefused.{BeginRefused}
use Rattle.txn_manager.specs.Transactions.{begin_refusal}
use Rattle.undo_delta.specs.declared.ask.Ask.{Ask}
use Rattle.world_model.specs.declared.event.Event.{Event}
use Rattle.world_model.specs.declared.event.Event.TheVariants as event
use Rattle.world_model.specs.declared.event.Kind.{Kind}
use Rattle.world_model.specs.declared.event.When.{When}
use Rattle.world_model.specs.Reply.{Reply}
use Rattle.world_model.specs.Reply as reply
use Rattle.world_model.specs.declared.answer.Refused.{Refused}
use Rattle.world_model.specs.declared.answer.Refused.TheVariants.{Missing, NoMemory, NoTxn, Stale}
use Rattle.world_model.specs.declared.answer.Wrote.TheVariants as wrote
use Rattle.world_model.specs.Pieces.{PieceParts}
use Rattle.world_model.specs.Placement.{lifted_of, stats_of}
use Rattle.undo_delta.specs.declared.op.Op.{Op}
use Rattle.world_model.specs.Op.{changes, is_given}
use Rattle.world_model.specs.World.{World, Txn, txn_of, transactions_of, view_of, cut_of}
use Rattle.world_model.specs.Asked.{op_of, wrote_of}
use Rattle.world_model.specs.Refusals.{refused_begin, write_refusal}
use Rattle.world_model.specs.Views.{graph_of, next_id, time_ahead}
use Rattle.world_model.specs.Step.{step, begin_step, seen_step, next_step, read_step, write_step, allowed_write_step, effect_step, commit_step, committed, abort_step, answered, refused, installed_world}
use Rattle.world_model.specs.History.{IsAnswered, may_want, no_memory}
use Rattle.world_model.specs.Replies.{IsObjectOf, IsReplyTo}

object_of : (g : Graph) (x : Oid) → IsObjectOf x (object_at g x)
object_of g (Vertex v) = by_found (find vertex_cmp v g.vertices)
  where
    by_found : (r : Option VertexRecord) → IsObjectOf (Vertex v) (vertex_object r)
    by_found None = tt
    by_found (Some r) = tt
object_of g (Edge e) = by_found (find edge_cmp e g.edges)
  where
    by_found : (r : Option EdgeRecord) → IsObjectOf (Edge e) (edge_object r)
    by_found None = tt
    by_found (Some r) = tt

begins : (w : World) (c : ℕ) (r : Option BeginRefused) → IsReplyTo event.Begin (begin_step w c r).reply
begins w c None = record { kind = inr (w.clock, refl); told = tt }
begins w c (Some why) = record { kind = inl (refused_begin why, refl); told = tt }

-- what is answered of a graph, or that its instant is ahead
seen : (w : World) (e : Event) (r : Reply) → IsReplyTo e r → ((why : Refused) → IsReplyTo e (reply.Refused why)) → (why : Option Refused) → IsReplyTo e (seen_step w why r).reply
seen w e r h refuses None = h
seen w e r h refuses (Some why) = refuses why

no_number : (kind : Kind) (after : Option ℕ) (when : When) (why : Refused) → IsReplyTo (event.Next kind after when) (reply.Refused why)
no_number kind after when why = record { kind = inl (why, refl); told = tt }

no_version : (x : Oid) (when : When) (why : Refused) → IsReplyTo (event.Read x when) (reply.Refused why)
no_version x when why = record { kind = inl (why, refl); told = tt }

searches : (w : World) (kind : Kind) (after : Option ℕ) (when : When) (p : Option Txn) → IsReplyTo (event.Next kind after when) (next_step w kind after when p).reply
searches w kind after when None = no_number kind after when NoTxn
searches w kind after when (Some p) =
    seen w (event.Next kind after when) _ (record { kind = inr (next_id kind after (graph_of w p when), refl); told = tt }) (no_number kind after when) (time_ahead p when)

reads : (w : World) (x : Oid) (when : When) (p : Option Txn) → IsReplyTo (event.Read x when) (read_step w x when p).reply
reads w x when None = no_version x when NoTxn
reads w x when (Some p) =
    seen w (event.Read x when) _ (record { kind = inr (object_at (graph_of w p when) x, refl); told = object_of (graph_of w p when) x }) (no_version x when) (time_ahead p when)

effects : (w : World) (c : ℕ) (ask : Ask) (op : Op) (b : Bool) → IsReplyTo (event.Write ask) (effect_step w c ask op b).reply
effects w c ask op true = record { kind = inr (wrote_of w ask, refl); told = tt }
effects w c ask op false = record { kind = inr (wrote.Unchanged, refl); told = tt }

allowed : (w : World) (p : Txn) (c : ℕ) (ask : Ask) (r : Option Refused) → IsReplyTo (event.Write ask) (allowed_write_step w p c ask r).reply
allowed w p c ask None = effects w c ask (op_of w (view_of w p) ask) (changes (op_of w (view_of w p) ask) (view_of w p))
allowed w p c ask (Some why) = record { kind = inl (why, refl); told = tt }

writes : (w : World) (c : ℕ) (ask : Ask) (p : Option Txn) → IsReplyTo (event.Write ask) (write_step w c ask p).reply
writes w c ask None = record { kind = inl (NoTxn, refl); told = tt }
writes w c ask (Some p) = allowed w p c ask (write_refusal w p ask)

ends : (w : World) (c start : ℕ) (ops : List Op) → IsReplyTo event.Commit (committed w c start ops).reply
ends w c start [] = record { kind = inr (start, refl); told = tt }
ends w c start (op ∷ ops) = record { kind = inr (w.clock, refl); told = tt }

commits : (w : World) (c : ℕ) (p : Option Txn) → IsReplyTo event.Commit (commit_step w c p).reply
commits w c None = record { kind = inl (NoTxn, refl); told = tt }
commits w c (Some p) = ends w c p.start p.ops

aborts : (w : World) (c : ℕ) (p : Option Txn) → IsReplyTo event.Abort (abort_step w c p).reply
aborts w c None = record { kind = inl (NoTxn, refl); told = tt }
aborts w c (Some p) = record { kind = inr refl; told = tt }

lifts : (w : World) (x : Oid) (given : Bool) → IsReplyTo (event.Lift x) (cond given (answered w (reply.Lifted (lifted_of w x))) (refused w (Missing x))).reply
lifts w x true = record { kind = inr (lifted_of w x, refl); told = tt }
lifts w x false = record { kind = inl (Missing x, refl); told = tt }

installs : (w : World) (piece : PieceParts) (fresh : Bool) → IsReplyTo (event.Install piece) (cond fresh (record { reply = reply.Installed; world = installed_world w piece }) (refused w (Stale (cut_of w piece.x)))).reply
installs w piece true = record { kind = inr refl; told = tt }
installs w piece false = record { kind = inl (Stale (cut_of w piece.x), refl); told = tt }

step_replies : (w : World) (c : ℕ) (e : Event) → IsReplyTo e (step w c e).reply
step_replies w c event.Begin = begins w c (begin_refusal (transactions_of w) c)
step_replies w c (event.Next kind after when) = searches w kind after when (txn_of w c)
step_replies w c (event.Read x when) = reads w x when (txn_of w c)
step_replies w c (event.Write ask) = writes w c ask (txn_of w c)
step_replies w c event.Commit = commits w c (txn_of w c)
step_replies w c event.Abort = aborts w c (txn_of w c)
step_replies w c event.Mark = record { kind = (_, refl); told = tt }
step_replies w c (event.Lift x) = lifts w x (is_given w.vertices w.edges x)
step_replies w c (event.Install piece) = installs w piece (nat_eq piece.cut (cut_of w piece.x))
step_replies w c event.Stats = record { kind = (stats_of w, refl); told = tt }

-- want of memory is a refusal where it may be
wanting_replies : (w : World) (c : ℕ) (e : Event) → may_want w c e ≡ true → IsReplyTo e no_memory
wanting_replies w c event.Begin h = record { kind = inl (NoMemory, refl); told = tt }
wanting_replies w c (event.Next kind after when) h = no_number kind after when NoMemory
wanting_replies w c (event.Read x when) h = no_version x when NoMemory
wanting_replies w c (event.Write ask) h = record { kind = inl (NoMemory, refl); told = tt }
wanting_replies w c event.Commit h = absurd (false≢true h)
wanting_replies w c event.Abort h = absurd (false≢true h)
wanting_replies w c event.Mark h = absurd (false≢true h)
wanting_replies w c (event.Lift x) h = record { kind = inl (NoMemory, refl); told = tt }
wanting_replies w c (event.Install piece) h = record { kind = inl (NoMemory, refl); told = tt }
wanting_replies w c event.Stats h = absurd (false≢true h)

pub answer_replies : (w : World) (c : ℕ) (e : Event) (r : Reply) → IsAnswered w (record { caller = c; event = e; reply = r }) → IsReplyTo e r
answer_replies w c e r (inl same) = subst (IsReplyTo e) (sym same) (step_replies w c e)
answer_replies w c e r (inr wanting) = subst (IsReplyTo e) (sym wanting.0) (wanting_replies w c e wanting.1)
