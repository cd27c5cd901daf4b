-- Lifts, installs and counts leave no trace in what else is answered.
use Rattle.std.proofs.Common.{◌≡◌, ℕ, List, [], ◌∷◌, ◌++◌, Option, Some, None, Bool, true, false, not, ◌&&◌, cond, refl, sym, ap, subst, ◌∙◌, inl, inr}
use Rattle.std.specs.Prelude.{nat_eq}
use Rattle.graph_value.specs.declared.id.Oid.{Oid}
use Rattle.txn_manager.specs.declared.refusals.BeginRefused.{BeginRefused}
use Rattle.txn_manager.specs.Transactions.{begin_refusal}
use Rattle.undo_delta.specs.declared.ask.Ask.{Ask}
use Rattle.undo_delta.specs.declared.op.Op.{Op}
use Rattle.world_model.specs.declared.answer.Refused.{Refused}
use Rattle.world_model.specs.declared.answer.Refused.TheVariants.{Missing, Stale}
use Rattle.world_model.specs.declared.event.Event.{Event}
use Rattle.world_model.specs.declared.event.Event.TheVariants as event
use Rattle.world_model.specs.declared.event.Kind.{Kind}
use Rattle.world_model.specs.declared.event.When.{When}
use Rattle.world_model.specs.Op.{changes, is_given}
use Rattle.world_model.specs.World.{World, Txn, Start, start_world, txn_of, transactions_of, view_of, cut_of}
use Rattle.world_model.specs.Asked.{op_of}
use Rattle.world_model.specs.Refusals.{write_refusal}
use Rattle.world_model.specs.Views.{time_ahead}
use Rattle.world_model.specs.Pieces.{PieceParts}
use Rattle.world_model.specs.Placement.{lifted_of}
use Rattle.world_model.specs.Reply.{Reply}
use Rattle.world_model.specs.Reply as reply
use Rattle.world_model.specs.Step.{Outcome, step, begin_step, seen_step, next_step, read_step, write_step, allowed_write_step, effect_step, commit_step, committed, abort_step, answered, refused, installed_world}
use Rattle.world_model.specs.History.{Entry, IsLegal, IsAnswered, AreAnswered, MayStand, MayAllStand, is_no_memory, takes_memory, is_refused, world_after, is_of_collector, without_collectors}

-- the world as if nothing had been moved into history
abbrev erased : World → World
erased w = record w { installs = [] }

abbrev erased_outcome : Outcome → Outcome
erased_outcome o = record { reply = o.reply; world = erased o.world }

-- ---- one step answers the same

begins : (w : World) (c : ℕ) (r : Option BeginRefused) → begin_step (erased w) c r ≡ erased_outcome (begin_step w c r)
begins w c None = refl
begins w c (Some why) = refl

seen : (w : World) (why : Option Refused) (r : Reply) → seen_step (erased w) why r ≡ erased_outcome (seen_step w why r)
seen w None r = refl
seen w (Some why) r = refl

searches : (w : World) (kind : Kind) (after : Option ℕ) (when : When) (p : Option Txn) → next_step (erased w) kind after when p ≡ erased_outcome (next_step w kind after when p)
searches w kind after when None = refl
searches w kind after when (Some p) = seen w (time_ahead p when) _

reads : (w : World) (x : Oid) (when : When) (p : Option Txn) → read_step (erased w) x when p ≡ erased_outcome (read_step w x when p)
reads w x when None = refl
reads w x when (Some p) = seen w (time_ahead p when) _

effects : (w : World) (c : ℕ) (ask : Ask) (op : Op) (b : Bool) → effect_step (erased w) c ask op b ≡ erased_outcome (effect_step w c ask op b)
effects w c ask op true = refl
effects w c ask op false = refl

allowed : (w : World) (p : Txn) (c : ℕ) (ask : Ask) (r : Option Refused) → allowed_write_step (erased w) p c ask r ≡ erased_outcome (allowed_write_step w p c ask r)
allowed w p c ask None = effects w c ask (op_of w (view_of w p) ask) (changes (op_of w (view_of w p) ask) (view_of w p))
allowed w p c ask (Some why) = refl

writes : (w : World) (c : ℕ) (ask : Ask) (p : Option Txn) → write_step (erased w) c ask p ≡ erased_outcome (write_step w c ask p)
writes w c ask None = refl
writes w c ask (Some p) = allowed w p c ask (write_refusal w p ask)

ends : (w : World) (c start : ℕ) (ops : List Op) → committed (erased w) c start ops ≡ erased_outcome (committed w c start ops)
ends w c start [] = refl
ends w c start (op ∷ ops) = refl

commits : (w : World) (c : ℕ) (p : Option Txn) → commit_step (erased w) c p ≡ erased_outcome (commit_step w c p)
commits w c None = refl
commits w c (Some p) = ends w c p.start p.ops

aborts : (w : World) (c : ℕ) (p : Option Txn) → abort_step (erased w) c p ≡ erased_outcome (abort_step w c p)
aborts w c None = refl
aborts w c (Some p) = refl

step_erased : (w : World) (c : ℕ) (e : Event) → is_of_collector e ≡ false → step (erased w) c e ≡ erased_outcome (step w c e)
step_erased w c event.Begin h = begins w c (begin_refusal (transactions_of w) c)
step_erased w c (event.Next kind after when) h = searches w kind after when (txn_of w c)
step_erased w c (event.Read x when) h = reads w x when (txn_of w c)
step_erased w c (event.Write ask) h = writes w c ask (txn_of w c)
step_erased w c event.Commit h = commits w c (txn_of w c)
step_erased w c event.Abort h = aborts w c (txn_of w c)
step_erased w c event.Mark h = refl
step_erased w c (event.Lift x) h = cc
step_erased w c (event.Install piece) h = cc
step_erased w c event.Stats h = cc

-- ---- an entry of a collector leaves the rest of the world

lifts : (w : World) (x : Oid) (given : Bool) → erased (cond given (answered w (reply.Lifted (lifted_of w x))) (refused w (Missing x))).world ≡ erased w
lifts w x true = refl
lifts w x false = refl

installs : (w : World) (piece : PieceParts) (fresh : Bool) → erased (cond fresh (record { reply = reply.Installed; world = installed_world w piece }) (refused w (Stale (cut_of w piece.x)))).world ≡ erased w
installs w piece true = refl
installs w piece false = refl

collector_erased : (w : World) (c : ℕ) (e : Event) → is_of_collector e ≡ true → erased (step w c e).world ≡ erased w
collector_erased w c event.Begin h = cc
collector_erased w c (event.Next kind after when) h = cc
collector_erased w c (event.Read x when) h = cc
collector_erased w c (event.Write ask) h = cc
collector_erased w c event.Commit h = cc
collector_erased w c event.Abort h = cc
collector_erased w c event.Mark h = cc
collector_erased w c (event.Lift x) h = lifts w x (is_given w.vertices w.edges x)
collector_erased w c (event.Install piece) h = installs w piece (nat_eq piece.cut (cut_of w piece.x))
collector_erased w c event.Stats h = refl

passed_over : (w : World) (e : Entry) → is_of_collector e.event ≡ true → erased (world_after w e) ≡ erased w
passed_over w e h = pick (is_no_memory e.reply)
  where
    pick : (b : Bool) → erased (cond b w (step w e.caller e.event).world) ≡ erased w
    pick true = refl
    pick false = collector_erased w e.caller e.event h

world_erased : (w : World) (e : Entry) → is_of_collector e.event ≡ false → world_after (erased w) e ≡ erased (world_after w e)
world_erased w e h = pick (is_no_memory e.reply)
  where
    pick : (b : Bool) → cond b (erased w) (step (erased w) e.caller e.event).world ≡ erased (cond b w (step w e.caller e.event).world)
    pick true = refl
    pick false = ap (λ (o : Outcome). o.world) (step_erased w e.caller e.event h)

answer_erased : (w : World) (e : Entry) → is_of_collector e.event ≡ false → IsAnswered w e → IsAnswered (erased w) e
answer_erased w e h (inl same) = inl (same ∙ sym (ap (λ (o : Outcome). o.reply) (step_erased w e.caller e.event h)))
answer_erased w e h (inr wanting) =
    inr (wanting.0, ap (λ (o : Outcome). (takes_memory e.event && not (is_refused o.reply))) (step_erased w e.caller e.event h) ∙ wanting.1)

-- ---- histories

answers_erased : (w : World) (es : List Entry) → AreAnswered w es → AreAnswered (erased w) (without_collectors es)
unfolding AreAnswered without_collectors
answers_erased w [] h = tt
answers_erased w (e ∷ es) h = by_kind (answers_erased (world_after w e) es h.1) (is_of_collector e.event) refl
  where
    by_kind : AreAnswered (erased (world_after w e)) (without_collectors es) → (b : Bool) → is_of_collector e.event ≡ b → AreAnswered (erased w) (cond b (without_collectors es) (e ∷ without_collectors es))
    by_kind rest true k = subst (λ (v : World). AreAnswered v (without_collectors es)) (passed_over w e k) rest
    by_kind rest false k = (answer_erased w e k h.0, subst (λ (v : World). AreAnswered v (without_collectors es)) (sym (world_erased w e k)) rest)

-- nothing but an install asks for anything
client_may_stand : (before : List Entry) (e : Event) → is_of_collector e ≡ false → MayStand before e
client_may_stand before event.Begin h = tt
client_may_stand before (event.Next kind after when) h = tt
client_may_stand before (event.Read x when) h = tt
client_may_stand before (event.Write ask) h = tt
client_may_stand before event.Commit h = tt
client_may_stand before event.Abort h = tt
client_may_stand before event.Mark h = tt
client_may_stand before (event.Lift x) h = tt
client_may_stand before (event.Install piece) h = cc
client_may_stand before event.Stats h = tt

clients_may_stand : (before es : List Entry) → MayAllStand before (without_collectors es)
unfolding MayAllStand without_collectors
clients_may_stand before [] = tt
clients_may_stand before (e ∷ es) = by_kind (clients_may_stand before es) (clients_may_stand (before ++ e ∷ []) es) (is_of_collector e.event) refl
  where
    by_kind : MayAllStand before (without_collectors es) → MayAllStand (before ++ e ∷ []) (without_collectors es) → (b : Bool) → is_of_collector e.event ≡ b → MayAllStand before (cond b (without_collectors es) (e ∷ without_collectors es))
    by_kind passed kept true k = passed
    by_kind passed kept false k = (client_may_stand before e.event k, kept)

pub clients_are_legal : (s : Start) (es : List Entry) → IsLegal s es → IsLegal s (without_collectors es)
clients_are_legal s es legal = record { answered = answers_erased (start_world s) es legal.answered; carried = clients_may_stand [] es }
