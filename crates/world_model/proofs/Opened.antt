-- Whether a caller has a transaction open, after an entry of its own.
use Rattle.std.proofs.Common.{◌≡◌, ℕ, List, [], ◌∷◌, Option, Some, None, Bool, true, false, cond, refl, sym, ap, subst, ◌∙◌, arith, inl, inr, ◌⊎◌}
use Rattle.std.specs.Prelude.{nat_eq, option_map, is_some}
use Rattle.std.proofs.lemmas.Bool.{false≢true}
use Rattle.std.proofs.lemmas.Bool.Decides.{nat_tests}
use Rattle.graph_value.specs.declared.id.Oid.{Oid}
use Rattle.txn_manager.specs.Transactions.{begin_refusal}
use Rattle.txn_manager.specs.declared.refusals.BeginRefused.{BeginRefused}
use Rattle.undo_delta.specs.declared.ask.Ask.{Ask}
use Rattle.undo_delta.specs.declared.op.Op.{Op}
use Rattle.world_model.specs.Asked.{op_of}
use Rattle.world_model.specs.Op.{changes, is_given}
use Rattle.world_model.specs.Pieces.{PieceParts}
use Rattle.world_model.specs.Placement.{lifted_of}
use Rattle.world_model.specs.Refusals.{or_else, write_refusal}
use Rattle.world_model.specs.Reply.{Reply}
use Rattle.world_model.specs.Reply as reply
use Rattle.world_model.specs.World.{World, Txn, cut_of, find_txn, transactions_of, txn_of, view_of}
use Rattle.world_model.specs.declared.event.Event.{Event}
use Rattle.world_model.specs.declared.event.Event.TheVariants as event
use Rattle.world_model.specs.declared.answer.Refused.{Refused}
use Rattle.world_model.specs.declared.answer.Refused.TheVariants.{Missing, Stale}
use Rattle.world_model.specs.Step.{step, begin_step, write_step, allowed_write_step, effect_step, commit_step, committed, abort_step, answered, refused, installed_world, without}
use Rattle.world_model.specs.History.{Entry, IsAnswered, is_no_memory, is_refusal_no_memory, no_memory, world_after}
use Rattle.world_model.specs.Sending.{open_start}
use Rattle.world_model.proofs.Lists.{start_of-map}
use Rattle.world_model.proofs.Staying.{reading_leaves}
use Rattle.world_model.proofs.Txns.{find_txn-append, find_txn-with_op, find_txn-without, with_write}

same_number : (n : ℕ) → nat_eq n n ≡ true
same_number n = grind (arith, nat_tests)

-- the events that neither open a transaction nor end one
abbrev pub keeps_open : Event → Bool
keeps_open event.Begin = false
keeps_open (event.Next kind after when) = true
keeps_open (event.Read x when) = true
keeps_open (event.Write ask) = true
keeps_open event.Commit = false
keeps_open event.Abort = false
keeps_open event.Mark = true
keeps_open (event.Lift x) = true
keeps_open (event.Install piece) = true
keeps_open event.Stats = true

module _ (w : World) (c : ℕ) where
  effects : (ask : Ask) (op : Op) (b : Bool) → open_start (effect_step w c ask op b).world c ≡ open_start w c
  effects ask op true =
      ap (option_map (λ (p : Txn). p.start)) (find_txn-with_op w.running c op c ∙ ap (λ b. cond b (option_map (with_write op) (txn_of w c)) (txn_of w c)) (same_number c))
      ∙ started (txn_of w c)
    where
      started : (o : Option Txn) → option_map (λ (p : Txn). p.start) (option_map (with_write op) o) ≡ option_map (λ (p : Txn). p.start) o
      started None = refl
      started (Some p) = refl
  effects ask op false = refl

  allowed : (p : Txn) (ask : Ask) (r : Option Refused) → open_start (allowed_write_step w p c ask r).world c ≡ open_start w c
  allowed p ask None = effects ask (op_of w (view_of w p) ask) (changes (op_of w (view_of w p) ask) (view_of w p))
  allowed p ask (Some why) = refl

  writes : (ask : Ask) (p : Option Txn) → open_start (write_step w c ask p).world c ≡ open_start w c
  writes ask None = refl
  writes ask (Some p) = allowed p ask (write_refusal w p ask)

  lifts : (x : Oid) (given : Bool) → open_start (cond given (answered w (reply.Lifted (lifted_of w x))) (refused w (Missing x))).world c ≡ open_start w c
  lifts x true = refl
  lifts x false = refl

  installs : (piece : PieceParts) (fresh : Bool) → open_start (cond fresh (record { reply = reply.Installed; world = installed_world w piece }) (refused w (Stale (cut_of w piece.x)))).world c ≡ open_start w c
  installs piece true = refl
  installs piece false = refl

  step_keeps : (r : Reply) (e : Event) → keeps_open e ≡ true → open_start (world_after w (record { caller = c; event = e; reply = r })) c ≡ open_start w c
  step_keeps r event.Begin h = absurd (false≢true h)
  step_keeps r (event.Next kind after when) h = ap (λ (v : World). open_start v c) (reading_leaves w (record { caller = c; event = event.Next kind after when; reply = r }) refl)
  step_keeps r (event.Read x when) h = ap (λ (v : World). open_start v c) (reading_leaves w (record { caller = c; event = event.Read x when; reply = r }) refl)
  step_keeps r (event.Write ask) h = either (is_no_memory r) (step w c (event.Write ask)).world (writes ask (txn_of w c))
    where
      either : (b : Bool) (v : World) → open_start v c ≡ open_start w c → open_start (cond b w v) c ≡ open_start w c
      either true v e = refl
      either false v e = e
  step_keeps r event.Commit h = absurd (false≢true h)
  step_keeps r event.Abort h = absurd (false≢true h)
  step_keeps r event.Mark h = either (is_no_memory r)
    where
      either : (b : Bool) → open_start (cond b w w) c ≡ open_start w c
      either true = refl
      either false = refl
  step_keeps r (event.Lift x) h = either (is_no_memory r) (step w c (event.Lift x)).world (lifts x (is_given w.vertices w.edges x))
    where
      either : (b : Bool) (v : World) → open_start v c ≡ open_start w c → open_start (cond b w v) c ≡ open_start w c
      either true v e = refl
      either false v e = e
  step_keeps r (event.Install piece) h = either (is_no_memory r) (step w c (event.Install piece)).world (installs piece (nat_eq piece.cut (cut_of w piece.x)))
    where
      either : (b : Bool) (v : World) → open_start v c ≡ open_start w c → open_start (cond b w v) c ≡ open_start w c
      either true v e = refl
      either false v e = e
  step_keeps r event.Stats h = either (is_no_memory r)
    where
      either : (b : Bool) → open_start (cond b w w) c ≡ open_start w c
      either true = refl
      either false = refl

pub entry_keeps : (w : World) (e : Entry) → keeps_open e.event ≡ true → open_start (world_after w e) e.caller ≡ open_start w e.caller
entry_keeps w e h = step_keeps w e.caller e.reply e.event h

-- ---- a begin

not_open : (o : Option ℕ) (rest : Option BeginRefused) → cond (is_some o) (Some Rattle.txn_manager.specs.declared.refusals.BeginRefused.TheVariants.AlreadyOpen) rest ≡ None → o ≡ None
not_open None rest h = refl
not_open (Some n) rest h = absurd cc

nobody : (w : World) (c : ℕ) → begin_refusal (transactions_of w) c ≡ None → txn_of w c ≡ None
nobody w c h = by_found (txn_of w c) refl
  where
    by_found : (o : Option Txn) → txn_of w c ≡ o → o ≡ None
    by_found None e = refl
    by_found (Some p) e = absurd (some_none (sym (start_of-map w.running c p e) ∙ not_open _ _ h))
      where
        some_none : ◌≡◌ {A = Option ℕ} (Some p.start) None → ⊥
        some_none h = cc

begun_at : (w : World) (c start : ℕ) (r : Option BeginRefused) → begin_refusal (transactions_of w) c ≡ r → reply.Begun start ≡ (begin_step w c r).reply → open_start (begin_step w c r).world c ≡ Some start
begun_at w c start (Some why) e is = absurd cc
begun_at w c start None e is =
    let same : start ≡ w.clock = cc in
    ap (option_map (λ (p : Txn). p.start)) (find_txn-append w.running (record { caller = c; start = w.clock; ops = [] }) c
    ∙ ap (λ o. or_else o (cond (nat_eq c c) (Some (record { caller = c; start = w.clock; ops = [] })) None)) (nobody w c e)
    ∙ ap (λ b. cond b (Some (record { caller = c; start = w.clock; ops = [] })) None) (same_number c))
    ∙ ap Some (sym same)

-- a begin that was answered has opened the transaction
pub begun_opens : (w : World) (c start : ℕ) → IsAnswered w (record { caller = c; event = event.Begin; reply = reply.Begun start }) →
    open_start (world_after w (record { caller = c; event = event.Begin; reply = reply.Begun start })) c ≡ Some start
begun_opens w c start (inl is) = begun_at w c start (begin_refusal (transactions_of w) c) refl is
begun_opens w c start (inr want) = absurd cc

refused_begun : (w : World) (c : ℕ) (why : Refused) (r : Option BeginRefused) → reply.Refused why ≡ (begin_step w c r).reply → (begin_step w c r).world ≡ w
refused_begun w c why None is = absurd cc
refused_begun w c why (Some because) is = refl

-- and one that was refused has changed nothing
pub refused_begin_leaves : (w : World) (c : ℕ) (why : Refused) → IsAnswered w (record { caller = c; event = event.Begin; reply = reply.Refused why }) →
    world_after w (record { caller = c; event = event.Begin; reply = reply.Refused why }) ≡ w
refused_begin_leaves w c why (inl is) = either (is_refusal_no_memory why)
  where
    either : (b : Bool) → cond b w (step w c event.Begin).world ≡ w
    either true = refl
    either false = refused_begun w c why (begin_refusal (transactions_of w) c) is
refused_begin_leaves w c why (inr want) = subst (λ (r : Reply). cond (is_no_memory r) w (step w c event.Begin).world ≡ w) (sym want.0) refl

-- ---- an end

gone : (w : World) (c : ℕ) → option_map (λ (p : Txn). p.start) (find_txn (without c w.running) c) ≡ None
gone w c = ap (option_map (λ (p : Txn). p.start)) (find_txn-without c w.running c ∙ ap (λ b. cond b None (txn_of w c)) (same_number c))

committed_ends : (w : World) (c ts : ℕ) (p : Option Txn) → reply.Committed ts ≡ (commit_step w c p).reply → open_start (commit_step w c p).world c ≡ None
committed_ends w c ts None is = absurd cc
committed_ends w c ts (Some p) is = by_writes p.ops
  where
    by_writes : (ops : List Op) → open_start (committed w c p.start ops).world c ≡ None
    by_writes [] = gone w c
    by_writes (op ∷ ops) = gone w c

pub commit_ends : (w : World) (c ts : ℕ) → IsAnswered w (record { caller = c; event = event.Commit; reply = reply.Committed ts }) →
    open_start (world_after w (record { caller = c; event = event.Commit; reply = reply.Committed ts })) c ≡ None
commit_ends w c ts (inl is) = committed_ends w c ts (txn_of w c) is
commit_ends w c ts (inr want) = absurd cc

aborted_ends : (w : World) (c : ℕ) (p : Option Txn) → reply.Aborted ≡ (abort_step w c p).reply → open_start (abort_step w c p).world c ≡ None
aborted_ends w c None is = absurd cc
aborted_ends w c (Some p) is = gone w c

pub abort_ends : (w : World) (c : ℕ) → IsAnswered w (record { caller = c; event = event.Abort; reply = reply.Aborted }) →
    open_start (world_after w (record { caller = c; event = event.Abort; reply = reply.Aborted })) c ≡ None
abort_ends w c (inl is) = aborted_ends w c (txn_of w c) is
abort_ends w c (inr want) = absurd cc

-- ---- what is answered where a transaction is open

committed_is : (w : World) (c start : ℕ) (p : Option Txn) → option_map (λ (p : Txn). p.start) p ≡ Some start → (ts : ℕ) × ((commit_step w c p).reply ≡ reply.Committed ts)
committed_is w c start None h = absurd cc
committed_is w c start (Some p) h = by_writes p.ops
  where
    by_writes : (ops : List Op) → (ts : ℕ) × ((committed w c p.start ops).reply ≡ reply.Committed ts)
    by_writes [] = (p.start, refl)
    by_writes (op ∷ ops) = (w.clock, refl)

pub commit_answers : (w : World) (c start : ℕ) (r : Reply) → IsAnswered w (record { caller = c; event = event.Commit; reply = r }) → open_start w c ≡ Some start →
    (ts : ℕ) × (r ≡ reply.Committed ts)
commit_answers w c start r (inl is) found = let k = committed_is w c start (txn_of w c) found in (k.0, is ∙ k.1)
commit_answers w c start r (inr want) found = absurd (false≢true want.1)

aborted_is : (w : World) (c start : ℕ) (p : Option Txn) → option_map (λ (p : Txn). p.start) p ≡ Some start → (abort_step w c p).reply ≡ reply.Aborted
aborted_is w c start None h = absurd cc
aborted_is w c start (Some p) h = refl

pub abort_answers : (w : World) (c start : ℕ) (r : Reply) → IsAnswered w (record { caller = c; event = event.Abort; reply = r }) → open_start w c ≡ Some start → r ≡ reply.Aborted
abort_answers w c start r (inl is) found = is ∙ aborted_is w c start (txn_of w c) found
abort_answers w c start r (inr want) found = absurd (false≢true want.1)

-- an installation is refused as stale, or for want of memory
install_reply : (w : World) (piece : PieceParts) (fresh : Bool) →
    ((cond fresh (record { reply = reply.Installed; world = installed_world w piece }) (refused w (Stale (cut_of w piece.x)))).reply ≡ reply.Installed)
    ⊎ ((cut : ℕ) × ((cond fresh (record { reply = reply.Installed; world = installed_world w piece }) (refused w (Stale (cut_of w piece.x)))).reply ≡ reply.Refused (Stale cut)))
install_reply w piece true = inl refl
install_reply w piece false = inr (cut_of w piece.x, refl)

pub install_answers : (w : World) (c : ℕ) (piece : PieceParts) (r : Reply) → IsAnswered w (record { caller = c; event = event.Install piece; reply = r }) →
    (r ≡ reply.Installed) ⊎ (((cut : ℕ) × (r ≡ reply.Refused (Stale cut))) ⊎ (r ≡ no_memory))
install_answers w c piece r (inl is) = by_reply (install_reply w piece (nat_eq piece.cut (cut_of w piece.x)))
  where
    by_reply : ((step w c (event.Install piece)).reply ≡ reply.Installed) ⊎ ((cut : ℕ) × ((step w c (event.Install piece)).reply ≡ reply.Refused (Stale cut))) →
        (r ≡ reply.Installed) ⊎ (((cut : ℕ) × (r ≡ reply.Refused (Stale cut))) ⊎ (r ≡ no_memory))
    by_reply (inl e) = inl (is ∙ e)
    by_reply (inr e) = inr (inl (e.0, is ∙ e.1))
install_answers w c piece r (inr want) = inr (inr want.0)
