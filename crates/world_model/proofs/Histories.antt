-- A history and one more entry.
use Rattle.std.proofs.Common.{◌≡◌, ℕ, List, [], ◌∷◌, ◌++◌, Option, Some, None, Bool, true, false, cond, refl, sym, ap, ◌∙◌, inl, inr, arith, map}
use Rattle.std.specs.Prelude.{nat_eq, nat_lt}
use Rattle.std.proofs.lemmas.Bool.{false≢true}
use Rattle.txn_manager.specs.declared.refusals.BeginRefused.{BeginRefused}
use Rattle.txn_manager.specs.Transactions.{begin_refusal}
use Rattle.undo_delta.specs.declared.ask.Ask.{Ask}
use Rattle.world_model.specs.declared.event.Event.{Event}
use Rattle.world_model.specs.declared.event.Event.TheVariants as event
use Rattle.world_model.specs.declared.event.Kind.{Kind}
use Rattle.world_model.specs.declared.event.When.{When}
use Rattle.graph_value.specs.declared.id.Oid.{Oid}
use Rattle.world_model.specs.Reply.{Reply}
use Rattle.world_model.specs.Reply as reply
use Rattle.world_model.specs.declared.answer.Refused.{Refused}
use Rattle.world_model.specs.declared.answer.Refused.TheVariants.{Missing, Stale}
use Rattle.world_model.specs.Pieces.{PieceParts}
use Rattle.world_model.specs.Placement.{lifted_of}
use Rattle.undo_delta.specs.declared.op.Op.{Op}
use Rattle.world_model.specs.Op.{changes, are_below, are_sound, is_given}
use Rattle.world_model.specs.World.{World, Start, start_world, InOrder, Commit, Txn, stamps_ascend, rises, txn_of, find_txn, transactions_of, view_of, ops_of, cut_of}
use Rattle.world_model.specs.Asked.{op_of}
use Rattle.world_model.specs.Refusals.{write_refusal}
use Rattle.world_model.specs.Views.{time_ahead}
use Rattle.world_model.specs.Step.{step, begin_step, seen_step, next_step, read_step, write_step, allowed_write_step, effect_step, commit_step, committed, abort_step, answered, refused, installed_world}
use Rattle.world_model.specs.History.{Entry, run, AreAnswered, IsAnswered, world_after, is_no_memory, IsLegal, IsStart, stamp_given, stamp_of_txn, stamp_of_writes, stamps_given}
use Rattle.std.specs.List.{list_all}
use Rattle.world_model.proofs.Folds.{both_true, and_left_true, and_right_true}
use Rattle.world_model.proofs.Order.{step_keeps_order}

pub run-append : (w : World) (es : List Entry) (e : Entry) → run w (es ++ e ∷ []) ≡ world_after (run w es) e
unfolding run
run-append w [] e = refl
run-append w (d ∷ es) e = run-append (world_after w d) es e

pub answered-append : (w : World) (es : List Entry) (e : Entry) → AreAnswered w es → IsAnswered (run w es) e → AreAnswered w (es ++ e ∷ [])
unfolding run AreAnswered
answered-append w [] e h a = (a, tt)
answered-append w (d ∷ es) e h a = (h.0, answered-append (world_after w d) es e h.1 a)

pub entry_keeps_order : (w : World) (e : Entry) → InOrder w → InOrder (world_after w e)
entry_keeps_order w e o = pick (is_no_memory e.reply)
  where
    pick : (b : Bool) → InOrder (cond b w (step w e.caller e.event).world)
    pick true = o
    pick false = step_keeps_order w e.caller e.event o

-- every world that a history comes to is in order
pub run_keeps_order : (w : World) (es : List Entry) → InOrder w → InOrder (run w es)
unfolding run
run_keeps_order w [] o = o
run_keeps_order w (e ∷ es) o = run_keeps_order (world_after w e) es (entry_keeps_order w e o)

-- the world that a store begins with is in order
pub start_in_order : (s : Start) → IsStart s → InOrder (start_world s)
unfolding find_txn stamps_ascend ops_of are_below are_sound
start_in_order s h = record {
  ready = record {
    begun = h.clock.0;
    room = omega (arith, h.clock.1);
    few = omega arith;
    started = λ k d lt. absurd (omega arith);
    past = λ k d lt. absurd (omega arith);
    ascending = λ j k d lt le. absurd (omega arith);
    apart = λ j k d lt le. absurd (omega arith);
  };
  counters = (h.vertices, h.edges);
  ascending = refl;
  stamped = refl;
  apart = λ d q f. absurd cc;
  alone = λ a b q r fq fr ne x t. absurd cc;
  unrivalled = λ d q f x t. absurd cc;
  committed_below = refl;
  running_below = λ d q f. absurd cc;
  committed_sound = refl;
  running_sound = λ d q f. absurd cc;
}

abbrev stamps : List Commit → List ℕ
stamps cs = map (λ c. c.ts) cs

nothing_more : (ns : List ℕ) → ns ≡ ns ++ []
nothing_more [] = refl
nothing_more (n ∷ ns) = ap (λ ms. n ∷ ms) (nothing_more ns)

stamps-one : (cs : List Commit) (c : Commit) → stamps (cs ++ c ∷ []) ≡ stamps cs ++ c.ts ∷ []
stamps-one [] c = refl
stamps-one (d ∷ cs) c = ap (λ ns. d.ts ∷ ns) (stamps-one cs c)

-- no other event than a commit changes the commits
begin_commits : (w : World) (c : ℕ) (r : Option BeginRefused) → (begin_step w c r).world.commits ≡ w.commits
begin_commits w c None = refl
begin_commits w c (Some why) = refl

seen_commits : (w : World) (why : Option Refused) (reply : Reply) → (seen_step w why reply).world.commits ≡ w.commits
seen_commits w None reply = refl
seen_commits w (Some why) reply = refl

next_commits : (w : World) (kind : Kind) (after : Option ℕ) (when : When) (p : Option Txn) → (next_step w kind after when p).world.commits ≡ w.commits
next_commits w kind after when None = refl
next_commits w kind after when (Some p) = seen_commits w (time_ahead p when) _

read_commits : (w : World) (x : Oid) (when : When) (p : Option Txn) → (read_step w x when p).world.commits ≡ w.commits
read_commits w x when None = refl
read_commits w x when (Some p) = seen_commits w (time_ahead p when) _

abort_commits : (w : World) (c : ℕ) (p : Option Txn) → (abort_step w c p).world.commits ≡ w.commits
abort_commits w c None = refl
abort_commits w c (Some p) = refl

effect_commits : (w : World) (c : ℕ) (ask : Ask) (op : Op) (b : Bool) → (effect_step w c ask op b).world.commits ≡ w.commits
effect_commits w c ask op true = refl
effect_commits w c ask op false = refl

allowed_commits : (w : World) (p : Txn) (c : ℕ) (ask : Ask) (r : Option Refused) → (allowed_write_step w p c ask r).world.commits ≡ w.commits
allowed_commits w p c ask None = effect_commits w c ask (op_of w (view_of w p) ask) (changes (op_of w (view_of w p) ask) (view_of w p))
allowed_commits w p c ask (Some why) = refl

write_commits : (w : World) (c : ℕ) (ask : Ask) (p : Option Txn) → (write_step w c ask p).world.commits ≡ w.commits
write_commits w c ask None = refl
write_commits w c ask (Some p) = allowed_commits w p c ask (write_refusal w p ask)

lift_commits : (w : World) (x : Oid) (given : Bool) → (cond given (answered w (reply.Lifted (lifted_of w x))) (refused w (Missing x))).world.commits ≡ w.commits
lift_commits w x true = refl
lift_commits w x false = refl

install_commits : (w : World) (piece : PieceParts) (fresh : Bool) → (cond fresh (record { reply = reply.Installed; world = installed_world w piece }) (refused w (Stale (cut_of w piece.x)))).world.commits ≡ w.commits
install_commits w piece true = refl
install_commits w piece false = refl

commit_stamps : (w : World) (c : ℕ) (p : Option Txn) (reply : Reply) → reply ≡ (commit_step w c p).reply → stamps (commit_step w c p).world.commits ≡ stamps w.commits ++ stamp_of_txn p reply
commit_stamps w c None reply e = nothing_more (stamps w.commits)
commit_stamps w c (Some p) reply e = by_writes p.ops e
  where
    by_writes : (ops : List Op) → reply ≡ (committed w c p.start ops).reply → stamps (committed w c p.start ops).world.commits ≡ stamps w.commits ++ stamp_of_writes ops reply
    by_writes [] e = nothing_more (stamps w.commits)
    by_writes (op ∷ ops) e = stamps-one w.commits (record { ts = w.clock; ops = op ∷ ops }) ∙ ap (λ r. stamps w.commits ++ stamp_of_writes (op ∷ ops) r) (sym e)

-- a commit never answers that memory was wanting
commit_memory : (w : World) (c : ℕ) (p : Option Txn) → is_no_memory (commit_step w c p).reply ≡ false
commit_memory w c None = refl
commit_memory w c (Some p) = by_writes p.ops
  where
    by_writes : (ops : List Op) → is_no_memory (committed w c p.start ops).reply ≡ false
    by_writes [] = refl
    by_writes (op ∷ ops) = refl

true_false : (b : Bool) → b ≡ true → b ≡ false → ⊥
true_false b t f = false≢true (sym f ∙ t)

-- a step that adds no commit adds no timestamp
no_stamp : (w : World) (b : Bool) (later : World) → later.commits ≡ w.commits → stamps (cond b w later).commits ≡ stamps w.commits ++ []
no_stamp w true later same = nothing_more (stamps w.commits)
no_stamp w false later same = ap stamps same ∙ nothing_more (stamps w.commits)

-- what an entry adds to the timestamps
entry_stamps : (w : World) (c : ℕ) (e : Event) (r : Reply) → IsAnswered w (record { caller = c; event = e; reply = r }) →
    stamps (world_after w (record { caller = c; event = e; reply = r })).commits ≡ stamps w.commits ++ stamp_given w (record { caller = c; event = e; reply = r }) e
entry_stamps w c event.Begin r h = no_stamp w (is_no_memory r) (step w c event.Begin).world (begin_commits w c (begin_refusal (transactions_of w) c))
entry_stamps w c (event.Next kind after when) r h = no_stamp w (is_no_memory r) (step w c (event.Next kind after when)).world (next_commits w kind after when (txn_of w c))
entry_stamps w c (event.Read x when) r h = no_stamp w (is_no_memory r) (step w c (event.Read x when)).world (read_commits w x when (txn_of w c))
entry_stamps w c (event.Write ask) r h = no_stamp w (is_no_memory r) (step w c (event.Write ask)).world (write_commits w c ask (txn_of w c))
entry_stamps w c event.Abort r h = no_stamp w (is_no_memory r) (step w c event.Abort).world (abort_commits w c (txn_of w c))
entry_stamps w c event.Mark r h = no_stamp w (is_no_memory r) w refl
entry_stamps w c (event.Lift x) r h = no_stamp w (is_no_memory r) (step w c (event.Lift x)).world (lift_commits w x (is_given w.vertices w.edges x))
entry_stamps w c (event.Install piece) r h = no_stamp w (is_no_memory r) (step w c (event.Install piece)).world (install_commits w piece (nat_eq piece.cut (cut_of w piece.x)))
entry_stamps w c event.Stats r h = no_stamp w (is_no_memory r) w refl
entry_stamps w c event.Commit r (inl same) = pick (is_no_memory r) refl
  where
    pick : (b : Bool) → is_no_memory r ≡ b → stamps (cond b w (step w c event.Commit).world).commits ≡ stamps w.commits ++ stamp_of_txn (txn_of w c) r
    pick true t = absurd (true_false (is_no_memory r) t (ap is_no_memory same ∙ commit_memory w c (txn_of w c)))
    pick false t = commit_stamps w c (txn_of w c) r same
entry_stamps w c event.Commit r (inr wanting) = absurd (false≢true wanting.1)

list_assoc : (xs ys zs : List ℕ) → (xs ++ ys) ++ zs ≡ xs ++ (ys ++ zs)
list_assoc [] ys zs = refl
list_assoc (x ∷ xs) ys zs = ap (λ ns. x ∷ ns) (list_assoc xs ys zs)

-- The commits stand under the timestamps that the history gives, in its order.
pub history_stamps : (w : World) (es : List Entry) → AreAnswered w es → stamps (run w es).commits ≡ stamps w.commits ++ stamps_given w es
unfolding run AreAnswered stamps_given
history_stamps w [] h = nothing_more (stamps w.commits)
history_stamps w (e ∷ es) h =
    history_stamps (world_after w e) es h.1
    ∙ ap (λ ns. ns ++ stamps_given (world_after w e) es) (entry_stamps w e.caller e.event e.reply h.0)
    ∙ list_assoc (stamps w.commits) (stamp_given w e e.event) (stamps_given (world_after w e) es)

rises-stamps : (cs : List Commit) → stamps_ascend cs ≡ true → rises (stamps cs) ≡ true
unfolding rises stamps_ascend
rises-stamps [] h = refl
rises-stamps (c ∷ cs) h = both_true _ _ (all_above c.ts cs (and_left_true _ _ h)) (rises-stamps cs (and_right_true _ _ h))
  where
    all_above : (n : ℕ) (cs : List Commit) → list_all (λ d. nat_lt n d.ts) cs ≡ true → list_all (nat_lt n) (map (λ c. c.ts) cs) ≡ true
    all_above n [] h = refl
    all_above n (d ∷ cs) h = both_true _ _ (and_left_true _ _ h) (all_above n cs (and_right_true _ _ h))

-- the timestamps that a legal history gives rise
pub history_rises : (s : Start) (es : List Entry) → IsStart s → IsLegal s es → rises (stamps_given (start_world s) es) ≡ true
history_rises s es h legal =
    ap rises (sym (history_stamps (start_world s) es legal.answered)) ∙ rises-stamps (run (start_world s) es).commits (run_keeps_order (start_world s) es (start_in_order s h)).ascending
