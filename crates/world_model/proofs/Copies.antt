-- What is copied out of the store changes nothing there, and its copying may always want memory: so whoever finishes or
-- builds it may say that memory was wanting, as if the store had said so.
use Rattle.std.proofs.Common.{◌≡◌, ℕ, List, [], ◌∷◌, Option, Some, None, Bool, true, false, not, cond, refl, sym, ap, ◌∙◌, inl, inr}
use Rattle.std.specs.Prelude.{nat_eq}
use Rattle.std.proofs.lemmas.Bool.{false≢true}
use Rattle.graph_value.specs.declared.id.Oid.{Oid}
use Rattle.graph_record.specs.Graph.{object_at}
use Rattle.txn_manager.specs.declared.refusals.BeginRefused.{BeginRefused}
use Rattle.txn_manager.specs.Transactions.{begin_refusal}
use Rattle.undo_delta.specs.declared.ask.Ask.{Ask}
use Rattle.undo_delta.specs.declared.op.Op.{Op}
use Rattle.world_model.specs.declared.answer.Refused.{Refused}
use Rattle.world_model.specs.declared.answer.Refused.TheVariants.{Missing, Stale}
use Rattle.world_model.specs.declared.event.Event.{Event}
use Rattle.world_model.specs.declared.event.Event.TheVariants as event
use Rattle.world_model.specs.declared.event.Kind.{Kind}
use Rattle.world_model.specs.declared.event.When.{When}
use Rattle.world_model.specs.Pieces.{PieceParts}
use Rattle.world_model.specs.Placement.{lifted_of}
use Rattle.world_model.specs.Reply.{Reply}
use Rattle.world_model.specs.Reply as reply
use Rattle.world_model.specs.Op.{changes, is_given}
use Rattle.world_model.specs.World.{World, Txn, txn_of, transactions_of, view_of, cut_of}
use Rattle.world_model.specs.Asked.{op_of}
use Rattle.world_model.specs.Refusals.{write_refusal}
use Rattle.world_model.specs.Views.{graph_of, time_ahead, next_id}
use Rattle.world_model.specs.Step.{step, begin_step, seen_step, next_step, read_step, write_step, allowed_write_step, effect_step, commit_step, committed, abort_step, answered, refused, installed_world}
use Rattle.world_model.specs.History.{IsAnswered, may_want, is_refused}

-- the event may want memory, and changes nothing
pub record IsCopy (w : World) (c : ℕ) (e : Event) : Type 0 where
  pub may : may_want w c e ≡ true
  pub still : (step w c e).world ≡ w

-- an object or lifted deltas are told
abbrev pub is_copied : Reply → Bool
is_copied (reply.Version object) = true
is_copied (reply.Lifted lifted) = true
is_copied (reply.Begun start) = false
is_copied (reply.Id id) = false
is_copied (reply.Wrote wrote) = false
is_copied (reply.Committed ts) = false
is_copied reply.Aborted = false
is_copied (reply.Marked marked) = false
is_copied reply.Installed = false
is_copied (reply.Stats stats) = false
is_copied (reply.Refused why) = false

copied_allowed : (r : Reply) → is_copied r ≡ true → not (is_refused r) ≡ true
copied_allowed (reply.Version object) h = refl
copied_allowed (reply.Lifted lifted) h = refl
copied_allowed (reply.Begun start) h = absurd cc
copied_allowed (reply.Id id) h = absurd cc
copied_allowed (reply.Wrote wrote) h = absurd cc
copied_allowed (reply.Committed ts) h = absurd cc
copied_allowed reply.Aborted h = absurd cc
copied_allowed (reply.Marked marked) h = absurd cc
copied_allowed reply.Installed h = absurd cc
copied_allowed (reply.Stats stats) h = absurd cc
copied_allowed (reply.Refused why) h = absurd cc

begins : (w : World) (c : ℕ) (r : Option BeginRefused) → is_copied (begin_step w c r).reply ≡ false
begins w c None = refl
begins w c (Some why) = refl

searches : (w : World) (why : Option Refused) (n : Option ℕ) → is_copied (seen_step w why (reply.Id n)).reply ≡ false
searches w None n = refl
searches w (Some why) n = refl

next_copies : (w : World) (kind : Kind) (after : Option ℕ) (when : When) (p : Option Txn) → is_copied (next_step w kind after when p).reply ≡ false
next_copies w kind after when None = refl
next_copies w kind after when (Some p) = searches w (time_ahead p when) (next_id kind after (graph_of w p when))

effects : (w : World) (c : ℕ) (ask : Ask) (op : Op) (b : Bool) → is_copied (effect_step w c ask op b).reply ≡ false
effects w c ask op true = refl
effects w c ask op false = refl

allowed : (w : World) (p : Txn) (c : ℕ) (ask : Ask) (r : Option Refused) → is_copied (allowed_write_step w p c ask r).reply ≡ false
allowed w p c ask None = effects w c ask (op_of w (view_of w p) ask) (changes (op_of w (view_of w p) ask) (view_of w p))
allowed w p c ask (Some why) = refl

writes : (w : World) (c : ℕ) (ask : Ask) (p : Option Txn) → is_copied (write_step w c ask p).reply ≡ false
writes w c ask None = refl
writes w c ask (Some p) = allowed w p c ask (write_refusal w p ask)

ends : (w : World) (c start : ℕ) (ops : List Op) → is_copied (committed w c start ops).reply ≡ false
ends w c start [] = refl
ends w c start (op ∷ ops) = refl

commits : (w : World) (c : ℕ) (p : Option Txn) → is_copied (commit_step w c p).reply ≡ false
commits w c None = refl
commits w c (Some p) = ends w c p.start p.ops

aborts : (w : World) (c : ℕ) (p : Option Txn) → is_copied (abort_step w c p).reply ≡ false
aborts w c None = refl
aborts w c (Some p) = refl

installs : (w : World) (piece : PieceParts) (fresh : Bool) → is_copied (cond fresh (record { reply = reply.Installed; world = installed_world w piece }) (refused w (Stale (cut_of w piece.x)))).reply ≡ false
installs w piece true = refl
installs w piece false = refl

seen_still : (w : World) (why : Option Refused) (r : Reply) → (seen_step w why r).world ≡ w
seen_still w None r = refl
seen_still w (Some why) r = refl

reads_still : (w : World) (x : Oid) (when : When) (p : Option Txn) → (read_step w x when p).world ≡ w
reads_still w x when None = refl
reads_still w x when (Some p) = seen_still w (time_ahead p when) (reply.Version (object_at (graph_of w p when) x))

lifts_still : (w : World) (x : Oid) (given : Bool) → (cond given (answered w (reply.Lifted (lifted_of w x))) (refused w (Missing x))).world ≡ w
lifts_still w x true = refl
lifts_still w x false = refl

never : {A : Type 0} (b : Bool) → b ≡ false → b ≡ true → A
never b isnt is = absurd (false≢true (sym isnt ∙ is))

step_copies : (w : World) (c : ℕ) (e : Event) → is_copied (step w c e).reply ≡ true → IsCopy w c e
step_copies w c event.Begin h = never _ (begins w c (begin_refusal (transactions_of w) c)) h
step_copies w c (event.Next kind after when) h = never _ (next_copies w kind after when (txn_of w c)) h
step_copies w c (event.Read x when) h = record { may = copied_allowed (step w c (event.Read x when)).reply h; still = reads_still w x when (txn_of w c) }
step_copies w c (event.Write ask) h = never _ (writes w c ask (txn_of w c)) h
step_copies w c event.Commit h = never _ (commits w c (txn_of w c)) h
step_copies w c event.Abort h = never _ (aborts w c (txn_of w c)) h
step_copies w c event.Mark h = absurd cc
step_copies w c (event.Lift x) h = record { may = copied_allowed (step w c (event.Lift x)).reply h; still = lifts_still w x (is_given w.vertices w.edges x) }
step_copies w c (event.Install piece) h = never _ (installs w piece (nat_eq piece.cut (cut_of w piece.x))) h
step_copies w c event.Stats h = absurd cc

-- what was answered so was asked so
pub copied : (w : World) (c : ℕ) (e : Event) (r : Reply) → IsAnswered w (record { caller = c; event = e; reply = r }) → is_copied r ≡ true → IsCopy w c e
copied w c e r (inl same) h = step_copies w c e (sym (ap is_copied same) ∙ h)
copied w c e r (inr wanting) h = never false refl (ap is_copied (sym wanting.0) ∙ h)
