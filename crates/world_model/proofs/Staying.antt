-- What a caller's transaction sees stays, while others act and it only reads.
use Rattle.std.proofs.Common.{◌≡◌, ℕ, ◌<◌, ◌≤◌, List, [], ◌∷◌, ◌++◌, Option, Some, None, Bool, true, false, not, cond, filter, refl, ap, ◌∙◌, arith}
use Rattle.std.specs.Prelude.{nat_eq, nat_lt, nat_le, option_map}
use Rattle.std.specs.List.{list_all}
use Rattle.std.proofs.lemmas.Bool.{false≢true}
use Rattle.std.proofs.lemmas.Bool.Decides.{nat_tests}
use Rattle.std.proofs.lemmas.List.{append-nil}
use Rattle.std.proofs.lemmas.List.Elements.{filter-append}
use Rattle.graph_value.specs.declared.id.Oid.{Oid}
use Rattle.graph_record.specs.Graph.{IsCoherent}
use Rattle.txn_manager.specs.Transactions.{begin_refusal}
use Rattle.txn_manager.specs.declared.refusals.BeginRefused.{BeginRefused}
use Rattle.undo_delta.specs.declared.ask.Ask.{Ask}
use Rattle.undo_delta.specs.declared.op.Op.{Op}
use Rattle.world_model.specs.Asked.{op_of}
use Rattle.world_model.specs.Op.{apply_all, changes, is_given}
use Rattle.world_model.specs.Pieces.{PieceParts}
use Rattle.world_model.specs.Placement.{lifted_of}
use Rattle.world_model.specs.Refusals.{or_else, write_refusal}
use Rattle.world_model.specs.Reply.{Reply}
use Rattle.world_model.specs.Reply as reply
use Rattle.world_model.specs.Views.{graph_of, time_ahead}
use Rattle.world_model.specs.World.{Commit, World, Start, Txn, InOrder, before, cut_of, find_txn, fold_of, start_world, transactions_of, txn_of, view_of}
use Rattle.world_model.specs.declared.event.Event.{Event}
use Rattle.world_model.specs.declared.event.Event.TheVariants as event
use Rattle.world_model.specs.declared.event.Kind.{Kind}
use Rattle.world_model.specs.declared.event.When.{When}
use Rattle.world_model.specs.declared.event.When.TheVariants.{Own, At}
use Rattle.world_model.specs.declared.answer.Refused.{Refused}
use Rattle.world_model.specs.declared.answer.Refused.TheVariants.{Missing, Stale, TimeAhead}
use Rattle.world_model.specs.Step.{step, begin_step, seen_step, next_step, read_step, write_step, allowed_write_step, effect_step, commit_step, committed, abort_step, answered, refused, installed_world, without}
use Rattle.world_model.specs.History.{Entry, IsStart, run, is_no_memory, world_after}
use Rattle.world_model.specs.Sending.{are_beside, is_beside, is_reading}
use Rattle.world_model.proofs.Folds.{and_left_true, and_right_true}
use Rattle.world_model.proofs.Growing.{Grown, instant_grown, run_grown}
use Rattle.world_model.proofs.Histories.{run_keeps_order, start_in_order}
use Rattle.world_model.proofs.Lists.{started_below}
use Rattle.world_model.proofs.Marks.{run-more}
use Rattle.world_model.proofs.Txns.{find_txn-append, find_txn-with_op, find_txn-without, with_write}
use Rattle.world_model.proofs.Views.{instant_coherent, view_coherent}

-- ---- the transaction of another caller

module _ (w : World) (d c : ℕ) (other : nat_eq d c ≡ false) where
  begins : (r : Option BeginRefused) → txn_of (begin_step w d r).world c ≡ txn_of w c
  begins None =
      find_txn-append w.running (record { caller = d; start = w.clock; ops = [] }) c
      ∙ ap (λ b. or_else (txn_of w c) (cond b (Some (record { caller = d; start = w.clock; ops = [] })) None)) other
      ∙ nothing_else (txn_of w c)
    where
      nothing_else : (o : Option Txn) → or_else o None ≡ o
      nothing_else None = refl
      nothing_else (Some p) = refl
  begins (Some why) = refl

  seen : (why : Option Refused) (r : Reply) → txn_of (seen_step w why r).world c ≡ txn_of w c
  seen None r = refl
  seen (Some why) r = refl

  searches : (kind : Kind) (after : Option ℕ) (when : When) (p : Option Txn) → txn_of (next_step w kind after when p).world c ≡ txn_of w c
  searches kind after when None = refl
  searches kind after when (Some p) = seen (time_ahead p when) _

  reads : (x : Oid) (when : When) (p : Option Txn) → txn_of (read_step w x when p).world c ≡ txn_of w c
  reads x when None = refl
  reads x when (Some p) = seen (time_ahead p when) _

  effects : (ask : Ask) (op : Op) (b : Bool) → txn_of (effect_step w d ask op b).world c ≡ txn_of w c
  effects ask op true =
      find_txn-with_op w.running d op c
      ∙ ap (λ b. cond b (option_map (with_write op) (txn_of w c)) (txn_of w c)) other
  effects ask op false = refl

  allowed : (p : Txn) (ask : Ask) (r : Option Refused) → txn_of (allowed_write_step w p d ask r).world c ≡ txn_of w c
  allowed p ask None = effects ask (op_of w (view_of w p) ask) (changes (op_of w (view_of w p) ask) (view_of w p))
  allowed p ask (Some why) = refl

  writes : (ask : Ask) (p : Option Txn) → txn_of (write_step w d ask p).world c ≡ txn_of w c
  writes ask None = refl
  writes ask (Some p) = allowed p ask (write_refusal w p ask)

  left : find_txn (without d w.running) c ≡ txn_of w c
  left = find_txn-without d w.running c ∙ ap (λ b. cond b None (txn_of w c)) other

  commits : (p : Option Txn) → txn_of (commit_step w d p).world c ≡ txn_of w c
  commits None = refl
  commits (Some p) = by_writes p.ops
    where
      by_writes : (ops : List Op) → txn_of (committed w d p.start ops).world c ≡ txn_of w c
      by_writes [] = left
      by_writes (op ∷ ops) = left

  aborts : (p : Option Txn) → txn_of (abort_step w d p).world c ≡ txn_of w c
  aborts None = refl
  aborts (Some p) = left

  lifts : (x : Oid) (given : Bool) → txn_of (cond given (answered w (reply.Lifted (lifted_of w x))) (refused w (Missing x))).world c ≡ txn_of w c
  lifts x true = refl
  lifts x false = refl

  installs : (piece : PieceParts) (fresh : Bool) → txn_of (cond fresh (record { reply = reply.Installed; world = installed_world w piece }) (refused w (Stale (cut_of w piece.x)))).world c ≡ txn_of w c
  installs piece true = refl
  installs piece false = refl

  step_leaves : (e : Event) → txn_of (step w d e).world c ≡ txn_of w c
  step_leaves event.Begin = begins (begin_refusal (transactions_of w) d)
  step_leaves (event.Next kind after when) = searches kind after when (txn_of w d)
  step_leaves (event.Read x when) = reads x when (txn_of w d)
  step_leaves (event.Write ask) = writes ask (txn_of w d)
  step_leaves event.Commit = commits (txn_of w d)
  step_leaves event.Abort = aborts (txn_of w d)
  step_leaves event.Mark = refl
  step_leaves (event.Lift x) = lifts x (is_given w.vertices w.edges x)
  step_leaves (event.Install piece) = installs piece (nat_eq piece.cut (cut_of w piece.x))
  step_leaves event.Stats = refl

pub others_leave : (w : World) (e : Entry) (c : ℕ) → nat_eq e.caller c ≡ false → txn_of (world_after w e) c ≡ txn_of w c
others_leave w e c other = pick (is_no_memory e.reply)
  where
    pick : (b : Bool) → txn_of (cond b w (step w e.caller e.event).world) c ≡ txn_of w c
    pick true = refl
    pick false = step_leaves w e.caller c other e.event

-- ---- reading

reading_seen : (w : World) (why : Option Refused) (r : Reply) → (seen_step w why r).world ≡ w
reading_seen w None r = refl
reading_seen w (Some why) r = refl

reading_next : (w : World) (kind : Kind) (after : Option ℕ) (when : When) (p : Option Txn) → (next_step w kind after when p).world ≡ w
reading_next w kind after when None = refl
reading_next w kind after when (Some p) = reading_seen w (time_ahead p when) _

reading_read : (w : World) (x : Oid) (when : When) (p : Option Txn) → (read_step w x when p).world ≡ w
reading_read w x when None = refl
reading_read w x when (Some p) = reading_seen w (time_ahead p when) _

reading_step : (w : World) (c : ℕ) (e : Event) → is_reading e ≡ true → (step w c e).world ≡ w
reading_step w c event.Begin h = absurd (false≢true h)
reading_step w c (event.Next kind after when) h = reading_next w kind after when (txn_of w c)
reading_step w c (event.Read x when) h = reading_read w x when (txn_of w c)
reading_step w c (event.Write ask) h = absurd (false≢true h)
reading_step w c event.Commit h = absurd (false≢true h)
reading_step w c event.Abort h = absurd (false≢true h)
reading_step w c event.Mark h = absurd (false≢true h)
reading_step w c (event.Lift x) h = absurd (false≢true h)
reading_step w c (event.Install piece) h = absurd (false≢true h)
reading_step w c event.Stats h = absurd (false≢true h)

-- an entry that only reads leaves the world
pub reading_leaves : (w : World) (e : Entry) → is_reading e.event ≡ true → world_after w e ≡ w
reading_leaves w e h = pick (is_no_memory e.reply)
  where
    pick : (b : Bool) → cond b w (step w e.caller e.event).world ≡ w
    pick true = refl
    pick false = reading_step w e.caller e.event h

beside_leaves : (alone : Bool) (w : World) (e : Entry) (c : ℕ) → is_beside alone c e ≡ true → txn_of (world_after w e) c ≡ txn_of w c
beside_leaves alone w e c h =
    elim (nat_eq e.caller c) as (λ b. nat_eq e.caller c ≡ b → cond b (is_reading e.event) (not alone) ≡ true → txn_of (world_after w e) c ≡ txn_of w c) [
      | true ↦ λ own reads. ap (λ (v : World). txn_of v c) (reading_leaves w e reads)
      | false ↦ λ other acts. others_leave w e c other
    ] refl h

pub all_leave : (alone : Bool) (w : World) (es : List Entry) (c : ℕ) → are_beside alone c es ≡ true → txn_of (run w es) c ≡ txn_of w c
unfolding run are_beside
all_leave alone w [] c h = refl
all_leave alone w (e ∷ es) c h =
    all_leave alone (world_after w e) es c (and_right_true (is_beside alone c e) _ h)
    ∙ beside_leaves alone w e c (and_left_true (is_beside alone c e) _ h)

-- ---- what a transaction sees

none_before : (t n : ℕ) (cs : List Commit) → t < n → list_all (λ c. nat_le n c.ts) cs ≡ true → filter (λ c. nat_lt c.ts t) cs ≡ []
none_before t n [] below h = refl
none_before t n (c ∷ cs) below h =
    let first : nat_le n c.ts ≡ true = and_left_true _ _ h in
    let fails : nat_lt c.ts t ≡ false = grind (arith, nat_tests) in
    ap (λ b. cond b (c ∷ filter (λ c. nat_lt c.ts t) cs) (filter (λ c. nat_lt c.ts t) cs)) fails ∙ none_before t n cs below (and_right_true _ _ h)

before_grown : (w v : World) (t : ℕ) → Grown w v → t < w.clock → before t v.commits ≡ before t w.commits
unfolding before
before_grown w v t g below =
    ap (filter (λ c. nat_lt c.ts t)) g.commits
    ∙ filter-append (λ c. nat_lt c.ts t) w.commits g.more
    ∙ ap (λ cs. filter (λ c. nat_lt c.ts t) w.commits ++ cs) (none_before t w.clock g.more below g.above)
    ∙ append-nil (filter (λ c. nat_lt c.ts t) w.commits)

instant_low : (p : Txn) (t : ℕ) → time_ahead p (At t) ≡ None → t ≤ p.start
instant_low p t h = by_test (nat_lt p.start t) refl h
  where
    by_test : (b : Bool) → nat_lt p.start t ≡ b → cond b (Some (TimeAhead t p.start)) None ≡ None → t ≤ p.start
    by_test true e s = absurd cc
    by_test false e s = grind (arith, nat_tests)

graph_stays : (w v : World) (p : Txn) (when : When) → Grown w v → p.start < w.clock → time_ahead p when ≡ None → graph_of v p when ≡ graph_of w p when
graph_stays w v p Own g below there = ap (λ (cs : List Commit). apply_all p.ops (fold_of cs)) (before_grown w v p.start g below)
graph_stays w v p (At t) g below there =
    let low : t ≤ p.start = instant_low p t there in
    instant_grown w v g t (omega arith)

-- an open transaction began before the clock's reading
pub began_before : (w : World) (c : ℕ) (p : Txn) → InOrder w → txn_of w c ≡ Some p → p.start < w.clock
began_before w c p o h = started_below w.clock w.running c p o.ready.past h

-- what a transaction may ask for stays, whatever others do behind
pub views_stay : (s : Start) (es later : List Entry) (alone : Bool) (c : ℕ) (p : Txn) (when : When) → IsStart s →
    txn_of (run (start_world s) es) c ≡ Some p → time_ahead p when ≡ None → are_beside alone c later ≡ true →
    (txn_of (run (start_world s) (es ++ later)) c ≡ Some p) × (graph_of (run (start_world s) (es ++ later)) p when ≡ graph_of (run (start_world s) es) p when)
views_stay s es later alone c p when h found there beside =
    let now : World = run (start_world s) es in
    let order = run_keeps_order (start_world s) es (start_in_order s h) in
    let more = run-more (start_world s) es later in (
      ap (λ (w : World). txn_of w c) more ∙ all_leave alone now later c beside ∙ found,
      ap (λ (w : World). graph_of w p when) more ∙ graph_stays now (run now later) p when (run_grown now later) (began_before now c p order found) there,
    )

-- and is coherent
pub seen_coherent : (w : World) (c : ℕ) (p : Txn) (when : When) → InOrder w → txn_of w c ≡ Some p → IsCoherent (graph_of w p when)
seen_coherent w c p Own o found = view_coherent w c p o found
seen_coherent w c p (At t) o found = instant_coherent w o t
