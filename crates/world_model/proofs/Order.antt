-- Every step from a world in order leaves one in order.
use Rattle.std.proofs.Common.{◌≡◌, ℕ, ◌+◌, List, [], ◌∷◌, ◌++◌, Option, Some, None, Bool, true, false, cond, refl, subst}
use Rattle.std.specs.Prelude.{nat_eq}
use Rattle.graph_value.specs.declared.id.Oid.{Oid}
use Rattle.txn_manager.specs.declared.refusals.BeginRefused.{BeginRefused}
use Rattle.txn_manager.specs.Transactions.{begin_refusal}
use Rattle.undo_delta.specs.declared.ask.Ask.{Ask}
use Rattle.world_model.specs.declared.event.Event.{Event}
use Rattle.world_model.specs.declared.event.Event.TheVariants as event
use Rattle.world_model.specs.declared.event.Kind.{Kind}
use Rattle.world_model.specs.declared.event.When.{When}
use Rattle.world_model.specs.Reply.{Reply}
use Rattle.world_model.specs.Reply as reply
use Rattle.world_model.specs.declared.answer.Refused.{Refused}
use Rattle.world_model.specs.declared.answer.Refused.TheVariants.{Missing, Stale}
use Rattle.world_model.specs.Pieces.{PieceParts}
use Rattle.world_model.specs.Placement.{lifted_of}
use Rattle.undo_delta.specs.declared.op.Op.{Op}
use Rattle.world_model.specs.Op.{changes, is_given}
use Rattle.world_model.specs.World.{World, Txn, txn_of, transactions_of, InOrder, view_of, cut_of}
use Rattle.world_model.specs.Asked.{op_of}
use Rattle.world_model.specs.Refusals.{write_refusal}
use Rattle.world_model.specs.Views.{time_ahead}
use Rattle.world_model.specs.Step.{step, begin_step, seen_step, next_step, read_step, write_step, commit_step, abort_step, allowed_write_step, effect_step, committed, answered, refused, installed_world}
use Rattle.world_model.proofs.Begins.{begin_keeps_order}
use Rattle.world_model.proofs.Writes.{write_keeps_order}
use Rattle.world_model.proofs.Commits.{commit_keeps_order, end_keeps_order}

begins : (w : World) (c : ℕ) → InOrder w → (r : Option BeginRefused) → begin_refusal (transactions_of w) c ≡ r → InOrder (begin_step w c r).world
begins w c o None e = begin_keeps_order w c o e
begins w c o (Some why) e = o

seen : (w : World) (reply : Reply) → InOrder w → (why : Option Refused) → InOrder (seen_step w why reply).world
seen w reply o None = o
seen w reply o (Some why) = o

searches : (w : World) (kind : Kind) (after : Option ℕ) (when : When) → InOrder w → (p : Option Txn) → InOrder (next_step w kind after when p).world
searches w kind after when o None = o
searches w kind after when o (Some p) = seen w _ o (time_ahead p when)

reads : (w : World) (x : Oid) (when : When) → InOrder w → (p : Option Txn) → InOrder (read_step w x when p).world
reads w x when o None = o
reads w x when o (Some p) = seen w _ o (time_ahead p when)

effects : (w : World) (c : ℕ) (p : Txn) (ask : Ask) → InOrder w → txn_of w c ≡ Some p → write_refusal w p ask ≡ None → (b : Bool) → changes (op_of w (view_of w p) ask) (view_of w p) ≡ b →
    InOrder (effect_step w c ask (op_of w (view_of w p) ask) b).world
effects w c p ask o f h true e = write_keeps_order w c p ask o f h e
effects w c p ask o f h false e = o

allowed : (w : World) (c : ℕ) (p : Txn) (ask : Ask) → InOrder w → txn_of w c ≡ Some p → (r : Option Refused) → write_refusal w p ask ≡ r → InOrder (allowed_write_step w p c ask r).world
allowed w c p ask o f None e = effects w c p ask o f e (changes (op_of w (view_of w p) ask) (view_of w p)) refl
allowed w c p ask o f (Some why) e = o

writes : (w : World) (c : ℕ) (ask : Ask) → InOrder w → (p : Option Txn) → txn_of w c ≡ p → InOrder (write_step w c ask p).world
writes w c ask o None f = o
writes w c ask o (Some p) f = allowed w c p ask o f (write_refusal w p ask) refl

commits : (w : World) (c : ℕ) → InOrder w → (p : Option Txn) → txn_of w c ≡ p → InOrder (commit_step w c p).world
commits w c o None f = o
commits w c o (Some p) f = by_writes p.ops refl
  where
    by_writes : (ops : List Op) → p.ops ≡ ops → InOrder (committed w c p.start ops).world
    by_writes [] e = end_keeps_order w c p o f
    by_writes (op ∷ ops) e = subst (λ (os : List Op). InOrder (record w { clock = w.clock + 1; commits = w.commits ++ record { ts = w.clock; ops = os } ∷ []; running = Rattle.world_model.specs.Step.without c w.running })) e (commit_keeps_order w c p o f)

aborts : (w : World) (c : ℕ) → InOrder w → (p : Option Txn) → txn_of w c ≡ p → InOrder (abort_step w c p).world
aborts w c o None f = o
aborts w c o (Some p) f = end_keeps_order w c p o f

lifts : (w : World) (x : Oid) → InOrder w → (given : Bool) → InOrder (cond given (answered w (reply.Lifted (lifted_of w x))) (refused w (Missing x))).world
lifts w x o true = o
lifts w x o false = o

-- what lies where is no matter of order
pub installed : (w : World) (piece : PieceParts) → InOrder w → InOrder (installed_world w piece)
installed w piece o = record {
  ready = o.ready;
  counters = o.counters;
  ascending = o.ascending;
  stamped = o.stamped;
  apart = o.apart;
  alone = o.alone;
  unrivalled = o.unrivalled;
  committed_below = o.committed_below;
  running_below = o.running_below;
  committed_sound = o.committed_sound;
  running_sound = o.running_sound;
}

installs : (w : World) (piece : PieceParts) → InOrder w → (fresh : Bool) → InOrder (cond fresh (record { reply = reply.Installed; world = installed_world w piece }) (refused w (Stale (cut_of w piece.x)))).world
installs w piece o true = installed w piece o
installs w piece o false = o

pub step_keeps_order : (w : World) (c : ℕ) (e : Event) → InOrder w → InOrder (step w c e).world
step_keeps_order w c event.Begin o = begins w c o (begin_refusal (transactions_of w) c) refl
step_keeps_order w c (event.Next kind after when) o = searches w kind after when o (txn_of w c)
step_keeps_order w c (event.Read x when) o = reads w x when o (txn_of w c)
step_keeps_order w c (event.Write ask) o = writes w c ask o (txn_of w c) refl
step_keeps_order w c event.Commit o = commits w c o (txn_of w c) refl
step_keeps_order w c event.Abort o = aborts w c o (txn_of w c) refl
step_keeps_order w c event.Mark o = o
step_keeps_order w c (event.Lift x) o = lifts w x o (is_given w.vertices w.edges x)
step_keeps_order w c (event.Install piece) o = installs w piece o (nat_eq piece.cut (cut_of w piece.x))
step_keeps_order w c event.Stats o = o
