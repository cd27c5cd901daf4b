-- The mark never falls.
use Rattle.std.proofs.Common.{◌≡◌, ℕ, ◌+◌, ◌≤◌, ◌<◌, List, [], ◌∷◌, ◌++◌, Option, Some, None, Bool, true, false, not, cond, min, fold, map, filter, refl, sym, ap, subst, ◌∙◌, arith}
use Rattle.std.specs.Prelude.{◌==◌, length, nat_eq}
use Rattle.txn_manager.specs.declared.running.Running.{Running}
use Rattle.txn_manager.specs.declared.refusals.BeginRefused.{BeginRefused}
use Rattle.txn_manager.specs.RunningList as list
use Rattle.txn_manager.specs.Transactions.{begin_refusal, least_start}
use Rattle.graph_value.specs.declared.id.Oid.{Oid}
use Rattle.undo_delta.specs.declared.ask.Ask.{Ask}
use Rattle.world_model.specs.declared.event.Event.{Event}
use Rattle.world_model.specs.declared.event.Event.TheVariants as event
use Rattle.world_model.specs.declared.event.Kind.{Kind}
use Rattle.world_model.specs.declared.event.When.{When}
use Rattle.world_model.specs.Reply.{Reply}
use Rattle.world_model.specs.Reply as reply
use Rattle.world_model.specs.declared.answer.Refused.{Refused}
use Rattle.world_model.specs.declared.answer.Refused.TheVariants.{Missing, Stale}
use Rattle.world_model.specs.Pieces.{PieceParts}
use Rattle.world_model.specs.Placement.{lifted_of}
use Rattle.undo_delta.specs.declared.op.Op.{Op}
use Rattle.world_model.specs.Op.{changes, is_given}
use Rattle.world_model.specs.World.{World, Start, start_world, Txn, find_txn, txn_of, transactions_of, InOrder, view_of, mark, cut_of}
use Rattle.world_model.specs.Asked.{op_of}
use Rattle.world_model.specs.Refusals.{write_refusal}
use Rattle.world_model.specs.Views.{time_ahead}
use Rattle.world_model.specs.Step.{step, begin_step, seen_step, next_step, read_step, write_step, commit_step, abort_step, allowed_write_step, effect_step, committed, answered, refused, installed_world}
use Rattle.world_model.specs.History.{Entry, IsStart, run, world_after, is_no_memory}
use Rattle.world_model.proofs.Begins.{fresh}
use Rattle.world_model.proofs.Lists.{bare, map-one, map-with_op, map-without}
use Rattle.world_model.proofs.Histories.{entry_keeps_order, run_keeps_order, start_in_order}

-- each of these began at n or later
abbrev AllFrom : ℕ → List Running → Type 0
AllFrom n [] = Unit {0}
AllFrom n (t ∷ ts) = (n ≤ t.start) × AllFrom n ts

least_low : (n a : ℕ) (ts : List Running) → n ≤ fold (λ least u. min least u.start) a ts → (n ≤ a) × AllFrom n ts
least_low n a [] h = (h, tt)
least_low n a (t ∷ ts) h =
    let rest = least_low n (min a t.start) ts h in
    let low : n ≤ min a t.start = rest.0 in
    (omega arith, (omega arith, rest.1))

least_high : (n a : ℕ) (ts : List Running) → n ≤ a → AllFrom n ts → n ≤ fold (λ least u. min least u.start) a ts
least_high n a [] h all = h
least_high n a (t ∷ ts) h all =
    let low : n ≤ t.start = all.0 in least_high n (min a t.start) ts (omega arith) all.1

-- n is at most the least start exactly where all began at n or later
all_from : (n clock : ℕ) (ts : List Running) → n ≤ least_start clock ts → AllFrom n ts
all_from n clock [] h = tt
all_from n clock (t ∷ ts) h = least_low n t.start ts h

from_all : (n clock : ℕ) (ts : List Running) → AllFrom n ts → n ≤ clock → n ≤ least_start clock ts
from_all n clock [] all h = h
from_all n clock (t ∷ ts) all h = least_high n t.start ts all.0 all.1

least_below : (clock : ℕ) (ts : List Running) → ((k : ℕ) (d : Running) → k < length ts → (Rattle.std.proofs.Common.get_or ts k d).start < clock) → least_start clock ts ≤ clock
least_below clock [] past = omega arith
least_below clock (t ∷ ts) past =
    let first = least_low (least_start clock (t ∷ ts)) t.start ts (omega arith) in
    let low : least_start clock (t ∷ ts) ≤ t.start = first.0 in
    let below : t.start < clock = past 0 t (omega arith) in
    omega arith

-- the mark is at most the clock
pub mark_below : (w : World) → InOrder w → mark w ≤ w.clock
mark_below w o = least_below w.clock (map bare w.running) o.ready.past

all_one : (n : ℕ) (ts : List Running) (t : Running) → AllFrom n ts → n ≤ t.start → AllFrom n (ts ++ t ∷ [])
all_one n [] t all h = (h, tt)
all_one n (u ∷ ts) t all h = (all.0, all_one n ts t all.1 h)

all_without : (n c : ℕ) (ts : List Running) → AllFrom n ts → AllFrom n (list.without c ts)
all_without n c [] all = tt
all_without n c (t ∷ ts) all = pick (t.caller == c) (all_without n c ts all.1)
  where
    pick : (b : Bool) → AllFrom n (list.without c ts) → AllFrom n (cond (not b) (t ∷ list.without c ts) (list.without c ts))
    pick true rest = rest
    pick false rest = (all.0, rest)

itself : (n : ℕ) → n ≤ n
itself n = omega arith

-- all that is open began at the mark or later
all_open : (w : World) → AllFrom (mark w) (map bare w.running)
all_open w = all_from (mark w) w.clock (map bare w.running) (itself (mark w))

open_from : (n : ℕ) (ps : List Txn) (c : ℕ) (p : Txn) → AllFrom n (map bare ps) → find_txn ps c ≡ Some p → n ≤ p.start
unfolding find_txn
open_from n [] c p all f = absurd cc
open_from n (q ∷ ps) c p all f = by_test (nat_eq q.caller c) refl (open_from n ps c p all.1)
  where
    by_test : (b : Bool) → nat_eq q.caller c ≡ b → (find_txn ps c ≡ Some p → n ≤ p.start) → n ≤ p.start
    by_test true e rest =
        let both : ◌≡◌ {A = Option Txn} (Some q) (Some p) = sym (ap (λ b. cond b (Some q) (find_txn ps c)) e) ∙ f in
        let same : q ≡ p = cc in
        subst (λ (t : Txn). n ≤ t.start) same all.0
    by_test false e rest = rest (sym (ap (λ b. cond b (Some q) (find_txn ps c)) e) ∙ f)

-- no transaction that is open began below the mark
pub mark_of_open : (w : World) (c : ℕ) (p : Txn) → txn_of w c ≡ Some p → mark w ≤ p.start
mark_of_open w c p f = open_from (mark w) w.running c p (all_open w) f

pub begins : (w : World) (c : ℕ) → InOrder w → (r : Option BeginRefused) → mark w ≤ mark (begin_step w c r).world
begins w c o (Some why) = itself (mark w)
begins w c o None =
    let low : mark w ≤ w.clock = mark_below w o in
    subst (λ (ts : List Running). mark w ≤ least_start (w.clock + 1) ts) (sym (map-one w.running (fresh w c)))
    (from_all (mark w) (w.clock + 1) (map bare w.running ++ bare (fresh w c) ∷ []) (all_one (mark w) (map bare w.running) (bare (fresh w c)) (all_open w) low) (omega arith))

seen : (w : World) (why : Option Refused) (reply : Reply) → mark w ≤ mark (seen_step w why reply).world
seen w None reply = itself (mark w)
seen w (Some why) reply = itself (mark w)

searches : (w : World) (kind : Kind) (after : Option ℕ) (when : When) (p : Option Txn) → mark w ≤ mark (next_step w kind after when p).world
searches w kind after when None = itself (mark w)
searches w kind after when (Some p) = seen w (time_ahead p when) _

reads : (w : World) (x : Oid) (when : When) (p : Option Txn) → mark w ≤ mark (read_step w x when p).world
reads w x when None = itself (mark w)
reads w x when (Some p) = seen w (time_ahead p when) _

pub effects : (w : World) (c : ℕ) (ask : Ask) (op : Op) (b : Bool) → mark w ≤ mark (effect_step w c ask op b).world
effects w c ask op true = subst (λ (ts : List Running). mark w ≤ least_start w.clock ts) (sym (map-with_op w.running c op)) (itself (mark w))
effects w c ask op false = itself (mark w)

allowed : (w : World) (p : Txn) (c : ℕ) (ask : Ask) (r : Option Refused) → mark w ≤ mark (allowed_write_step w p c ask r).world
allowed w p c ask None = effects w c ask (op_of w (view_of w p) ask) (changes (op_of w (view_of w p) ask) (view_of w p))
allowed w p c ask (Some why) = itself (mark w)

writes : (w : World) (c : ℕ) (ask : Ask) (p : Option Txn) → mark w ≤ mark (write_step w c ask p).world
writes w c ask None = itself (mark w)
writes w c ask (Some p) = allowed w p c ask (write_refusal w p ask)

-- a transaction ends: the clock may rise, and what is still open was open
pub left : (w : World) (c clock : ℕ) → InOrder w → w.clock ≤ clock → mark w ≤ least_start clock (map bare (Rattle.world_model.specs.Step.without c w.running))
left w c clock o later =
    let low : mark w ≤ w.clock = mark_below w o in
    subst (λ (ts : List Running). mark w ≤ least_start clock ts) (sym (map-without w.running c))
    (from_all (mark w) clock (list.without c (map bare w.running)) (all_without (mark w) c (map bare w.running) (all_open w)) (omega arith))

commits : (w : World) (c : ℕ) → InOrder w → (p : Option Txn) → mark w ≤ mark (commit_step w c p).world
commits w c o None = itself (mark w)
commits w c o (Some p) = by_writes p.ops
  where
    by_writes : (ops : List Op) → mark w ≤ mark (committed w c p.start ops).world
    by_writes [] = left w c w.clock o (itself w.clock)
    by_writes (op ∷ ops) = left w c (w.clock + 1) o (omega arith)

aborts : (w : World) (c : ℕ) → InOrder w → (p : Option Txn) → mark w ≤ mark (abort_step w c p).world
aborts w c o None = itself (mark w)
aborts w c o (Some p) = left w c w.clock o (itself w.clock)

lifts : (w : World) (x : Oid) (given : Bool) → mark w ≤ mark (cond given (answered w (reply.Lifted (lifted_of w x))) (refused w (Missing x))).world
lifts w x true = itself (mark w)
lifts w x false = itself (mark w)

installs : (w : World) (piece : PieceParts) (fresh : Bool) → mark w ≤ mark (cond fresh (record { reply = reply.Installed; world = installed_world w piece }) (refused w (Stale (cut_of w piece.x)))).world
installs w piece true = itself (mark w)
installs w piece false = itself (mark w)

pub step_mark : (w : World) (c : ℕ) (e : Event) → InOrder w → mark w ≤ mark (step w c e).world
step_mark w c event.Begin o = begins w c o (begin_refusal (transactions_of w) c)
step_mark w c (event.Next kind after when) o = searches w kind after when (txn_of w c)
step_mark w c (event.Read x when) o = reads w x when (txn_of w c)
step_mark w c (event.Write ask) o = writes w c ask (txn_of w c)
step_mark w c event.Commit o = commits w c o (txn_of w c)
step_mark w c event.Abort o = aborts w c o (txn_of w c)
step_mark w c event.Mark o = itself (mark w)
step_mark w c (event.Lift x) o = lifts w x (is_given w.vertices w.edges x)
step_mark w c (event.Install piece) o = installs w piece (nat_eq piece.cut (cut_of w piece.x))
step_mark w c event.Stats o = itself (mark w)

entry_mark : (w : World) (e : Entry) → InOrder w → mark w ≤ mark (world_after w e)
entry_mark w e o = pick (is_no_memory e.reply)
  where
    pick : (b : Bool) → mark w ≤ mark (cond b w (step w e.caller e.event).world)
    pick true = itself (mark w)
    pick false = step_mark w e.caller e.event o

pub run_mark : (w : World) (es : List Entry) → InOrder w → mark w ≤ mark (run w es)
unfolding run
run_mark w [] o = itself (mark w)
run_mark w (e ∷ es) o =
    let first = entry_mark w e o in
    let rest = run_mark (world_after w e) es (entry_keeps_order w e o) in
    omega arith

pub run-more : (w : World) (es later : List Entry) → run w (es ++ later) ≡ run (run w es) later
unfolding run
run-more w [] later = refl
run-more w (e ∷ es) later = run-more (world_after w e) es later

pub history_mark : (s : Start) (es later : List Entry) → IsStart s → mark (run (start_world s) es) ≤ mark (run (start_world s) (es ++ later))
history_mark s es later h =
    subst (λ (w : World). mark (run (start_world s) es) ≤ mark w) (sym (run-more (start_world s) es later))
    (run_mark (run (start_world s) es) later (run_keeps_order (start_world s) es (start_in_order s h)))
