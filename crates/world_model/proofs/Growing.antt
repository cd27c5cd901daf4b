-- What a step adds to the commits stands at the clock or above, so nothing changes that stood below.
use Rattle.std.proofs.Common.{◌≡◌, ℕ, ◌<◌, ◌≤◌, List, [], ◌∷◌, ◌++◌, Option, Some, None, Bool, true, false, cond, refl, sym, ap, ◌∙◌, arith, filter}
use Rattle.std.specs.Prelude.{nat_eq, nat_lt, nat_le, reverse}
use Rattle.std.specs.List.{list_all}
use Rattle.std.proofs.lemmas.Bool.Decides.{nat_tests}
use Rattle.std.proofs.lemmas.List.{append_assoc, append-nil}
use Rattle.std.proofs.lemmas.List.Elements.{filter-append}
use Rattle.std.proofs.lemmas.List.Folds.{list_all-append}
use Rattle.graph_value.specs.declared.id.Oid.{Oid}
use Rattle.graph_record.specs.Graph.{Graph, empty_graph}
use Rattle.txn_manager.specs.declared.refusals.BeginRefused.{BeginRefused}
use Rattle.txn_manager.specs.Transactions.{begin_refusal}
use Rattle.undo_delta.specs.declared.ask.Ask.{Ask}
use Rattle.undo_delta.specs.declared.delta.Delta.{Delta}
use Rattle.undo_delta.specs.declared.op.Op.{Op}
use Rattle.world_model.specs.Reply.{Reply}
use Rattle.world_model.specs.Reply as reply
use Rattle.world_model.specs.declared.answer.Refused.{Refused}
use Rattle.world_model.specs.declared.answer.Refused.TheVariants.{Missing, Stale}
use Rattle.world_model.specs.Pieces.{PieceParts}
use Rattle.world_model.specs.declared.event.Event.{Event}
use Rattle.world_model.specs.declared.event.Event.TheVariants as event
use Rattle.world_model.specs.declared.event.Kind.{Kind}
use Rattle.world_model.specs.declared.event.When.{When}
use Rattle.world_model.specs.Op.{apply_all, changes, is_given}
use Rattle.world_model.specs.World.{World, Commit, Txn, Start, start_world, txn_of, transactions_of, view_of, graph_at, fold_of, ops_of, mark, cut_of}
use Rattle.world_model.specs.Undo.{dated, left_by_all, left_since, undo_list}
use Rattle.world_model.specs.Placement.{below, lifted_of}
use Rattle.world_model.specs.Asked.{op_of}
use Rattle.world_model.specs.Refusals.{write_refusal}
use Rattle.world_model.specs.Views.{time_ahead}
use Rattle.world_model.specs.Step.{step, begin_step, seen_step, next_step, read_step, write_step, allowed_write_step, effect_step, commit_step, committed, abort_step, answered, refused, installed_world}
use Rattle.world_model.specs.History.{Entry, IsStart, run, world_after, is_no_memory}
use Rattle.world_model.proofs.Folds.{both_true, and_left_true, and_right_true}
use Rattle.world_model.proofs.Objects.{apply_all-append}
use Rattle.world_model.proofs.Undo.{filter-reverse}
use Rattle.world_model.proofs.Histories.{run_keeps_order, start_in_order}
use Rattle.world_model.proofs.Marks.{mark_below, run-more}

-- the commits of a later world are those of an earlier one, and some at its clock or above
pub record Grown (w v : World) : Type 0 where
  pub more : List Commit
  pub commits : v.commits ≡ w.commits ++ more
  pub above : list_all (λ c. nat_le w.clock c.ts) more ≡ true
  pub clock : w.clock ≤ v.clock
  pub interval : v.interval ≡ w.interval
  pub counters : (w.vertices ≤ v.vertices) × (w.edges ≤ v.edges)

no_less : (n : ℕ) → n ≤ n
no_less n = omega arith

-- no commit is new
still : (w v : World) → v.commits ≡ w.commits → v.interval ≡ w.interval → w.clock ≤ v.clock → (w.vertices ≤ v.vertices) × (w.edges ≤ v.edges) → Grown w v
still w v e i clock counters = record { more = []; commits = e ∙ sym (append-nil w.commits); above = refl; clock = clock; interval = i; counters = counters }

itself : (w : World) → Grown w w
itself w = still w w refl refl (no_less w.clock) (no_less w.vertices, no_less w.edges)

above_lower : (m n : ℕ) (cs : List Commit) → m ≤ n → list_all (λ c. nat_le n c.ts) cs ≡ true → list_all (λ c. nat_le m c.ts) cs ≡ true
above_lower m n [] low h = refl
above_lower m n (c ∷ cs) low h =
    let first : nat_le n c.ts ≡ true = and_left_true _ _ h in
    both_true _ _ (grind (arith, nat_tests)) (above_lower m n cs low (and_right_true _ _ h))

onward : (u v w : World) → Grown u v → Grown v w → Grown u w
onward u v w a b = record {
  more = a.more ++ b.more;
  commits = b.commits ∙ ap (λ cs. cs ++ b.more) a.commits ∙ append_assoc u.commits a.more b.more;
  above = list_all-append (λ c. nat_le u.clock c.ts) a.more b.more ∙ both_true _ _ a.above (above_lower u.clock v.clock b.more a.clock b.above);
  clock = omega (arith, a.clock, b.clock);
  interval = b.interval ∙ a.interval;
  counters = (omega (arith, a.counters.0, b.counters.0), omega (arith, a.counters.1, b.counters.1));
}

-- ---- one step

begins : (w : World) (c : ℕ) (r : Option BeginRefused) → Grown w (begin_step w c r).world
begins w c None = still w (begin_step w c None).world refl refl (omega arith) (no_less w.vertices, no_less w.edges)
begins w c (Some why) = itself w

seen : (w : World) (why : Option Refused) (reply : Reply) → Grown w (seen_step w why reply).world
seen w None reply = itself w
seen w (Some why) reply = itself w

searches : (w : World) (kind : Kind) (after : Option ℕ) (when : When) (p : Option Txn) → Grown w (next_step w kind after when p).world
searches w kind after when None = itself w
searches w kind after when (Some p) = seen w (time_ahead p when) _

reads : (w : World) (x : Oid) (when : When) (p : Option Txn) → Grown w (read_step w x when p).world
reads w x when None = itself w
reads w x when (Some p) = seen w (time_ahead p when) _

effects : (w : World) (c : ℕ) (ask : Ask) (op : Op) (b : Bool) → Grown w (effect_step w c ask op b).world
effects w c ask op true = still w (effect_step w c ask op true).world refl refl (no_less w.clock) (omega arith, omega arith)
effects w c ask op false = itself w

allowed : (w : World) (p : Txn) (c : ℕ) (ask : Ask) (r : Option Refused) → Grown w (allowed_write_step w p c ask r).world
allowed w p c ask None = effects w c ask (op_of w (view_of w p) ask) (changes (op_of w (view_of w p) ask) (view_of w p))
allowed w p c ask (Some why) = itself w

writes : (w : World) (c : ℕ) (ask : Ask) (p : Option Txn) → Grown w (write_step w c ask p).world
writes w c ask None = itself w
writes w c ask (Some p) = allowed w p c ask (write_refusal w p ask)

commits : (w : World) (c : ℕ) (p : Option Txn) → Grown w (commit_step w c p).world
commits w c None = itself w
commits w c (Some p) = by_writes p.ops
  where
    by_writes : (ops : List Op) → Grown w (committed w c p.start ops).world
    by_writes [] = still w (committed w c p.start []).world refl refl (no_less w.clock) (no_less w.vertices, no_less w.edges)
    by_writes (op ∷ ops) = record {
      more = record { ts = w.clock; ops = op ∷ ops } ∷ [];
      commits = refl;
      above = both_true _ _ (grind (arith, nat_tests)) refl;
      clock = omega arith;
      interval = refl;
      counters = (no_less w.vertices, no_less w.edges);
    }

aborts : (w : World) (c : ℕ) (p : Option Txn) → Grown w (abort_step w c p).world
aborts w c None = itself w
aborts w c (Some p) = still w (abort_step w c (Some p)).world refl refl (no_less w.clock) (no_less w.vertices, no_less w.edges)

lifts : (w : World) (x : Oid) (given : Bool) → Grown w (cond given (answered w (reply.Lifted (lifted_of w x))) (refused w (Missing x))).world
lifts w x true = itself w
lifts w x false = itself w

installs : (w : World) (piece : PieceParts) (fresh : Bool) → Grown w (cond fresh (record { reply = reply.Installed; world = installed_world w piece }) (refused w (Stale (cut_of w piece.x)))).world
installs w piece true = still w (installed_world w piece) refl refl (no_less w.clock) (no_less w.vertices, no_less w.edges)
installs w piece false = itself w

step_grown : (w : World) (c : ℕ) (e : Event) → Grown w (step w c e).world
step_grown w c event.Begin = begins w c (begin_refusal (transactions_of w) c)
step_grown w c (event.Next kind after when) = searches w kind after when (txn_of w c)
step_grown w c (event.Read x when) = reads w x when (txn_of w c)
step_grown w c (event.Write ask) = writes w c ask (txn_of w c)
step_grown w c event.Commit = commits w c (txn_of w c)
step_grown w c event.Abort = aborts w c (txn_of w c)
step_grown w c event.Mark = itself w
step_grown w c (event.Lift x) = lifts w x (is_given w.vertices w.edges x)
step_grown w c (event.Install piece) = installs w piece (nat_eq piece.cut (cut_of w piece.x))
step_grown w c event.Stats = itself w

entry_grown : (w : World) (e : Entry) → Grown w (world_after w e)
entry_grown w e = pick (is_no_memory e.reply)
  where
    pick : (b : Bool) → Grown w (cond b w (step w e.caller e.event).world)
    pick true = itself w
    pick false = step_grown w e.caller e.event

pub run_grown : (w : World) (es : List Entry) → Grown w (run w es)
unfolding run
run_grown w [] = itself w
run_grown w (e ∷ es) = onward w (world_after w e) (run (world_after w e) es) (entry_grown w e) (run_grown (world_after w e) es)

-- ---- what stays

none_up_to : (t n : ℕ) (cs : List Commit) → t < n → list_all (λ c. nat_le n c.ts) cs ≡ true → filter (λ c. nat_le c.ts t) cs ≡ []
none_up_to t n [] below h = refl
none_up_to t n (c ∷ cs) below h =
    let first : nat_le n c.ts ≡ true = and_left_true _ _ h in
    let fails : nat_le c.ts t ≡ false = grind (arith, nat_tests) in
    ap (λ b. cond b (c ∷ filter (λ c. nat_le c.ts t) cs) (filter (λ c. nat_le c.ts t) cs)) fails ∙ none_up_to t n cs below (and_right_true _ _ h)

pub instant_grown : (w v : World) → Grown w v → (t : ℕ) → t < w.clock → graph_at v.commits t ≡ graph_at w.commits t
instant_grown w v g t below =
    ap (λ cs. fold_of (filter (λ c. nat_le c.ts t) cs)) g.commits
    ∙ ap fold_of (filter-append (λ c. nat_le c.ts t) w.commits g.more
    ∙ ap (λ cs. filter (λ c. nat_le c.ts t) w.commits ++ cs) (none_up_to t w.clock g.more below g.above)
    ∙ append-nil (filter (λ c. nat_le c.ts t) w.commits))

-- the graph at an instant below the clock stays
pub instant_stays : (s : Start) (es later : List Entry) (t : ℕ) → t < (run (start_world s) es).clock →
    graph_at (run (start_world s) (es ++ later)).commits t ≡ graph_at (run (start_world s) es).commits t
instant_stays s es later t below =
    let now : World = run (start_world s) es in
    ap (λ (w : World). graph_at w.commits t) (run-more (start_world s) es later)
    ∙ instant_grown now (run now later) (run_grown now later) t below

-- ---- deltas

dated_late : (m ts : ℕ) (ds : List Delta) → m ≤ ts → filter (λ d. nat_lt d.ts m) (dated ts ds) ≡ []
dated_late m ts [] late = refl
dated_late m ts (d ∷ ds) late =
    let fails : nat_lt ts m ≡ false = grind (arith, nat_tests) in
    ap (λ b. cond b (record { ts = ts; delta = d } ∷ filter (λ d. nat_lt d.ts m) (dated ts ds)) (filter (λ d. nat_lt d.ts m) (dated ts ds))) fails ∙ dated_late m ts ds late

left_late : (m n : ℕ) (cs : List Commit) (g : Graph) (x : Oid) → m ≤ n → list_all (λ c. nat_le n c.ts) cs ≡ true → filter (λ d. nat_lt d.ts m) (left_since g cs x) ≡ []
unfolding left_since
left_late m n [] g x low h = refl
left_late m n (c ∷ cs) g x low h =
    let first : nat_le n c.ts ≡ true = and_left_true _ _ h in
    filter-append (λ d. nat_lt d.ts m) (dated c.ts (left_by_all c.ops x g)) (left_since (apply_all c.ops g) cs x)
    ∙ ap (λ ds. ds ++ filter (λ d. nat_lt d.ts m) (left_since (apply_all c.ops g) cs x)) (dated_late m c.ts (left_by_all c.ops x g) (grind (arith, nat_tests)))
    ∙ left_late m n cs (apply_all c.ops g) x low (and_right_true _ _ h)

pub left_since-append : (cs ds : List Commit) (g : Graph) (x : Oid) → left_since g (cs ++ ds) x ≡ left_since g cs x ++ left_since (apply_all (ops_of cs) g) ds x
unfolding left_since ops_of apply_all
left_since-append [] ds g x = refl
left_since-append (c ∷ cs) ds g x =
    let rest = left_since-append cs ds (apply_all c.ops g) x in
    let first = dated c.ts (left_by_all c.ops x g) in
    ap (λ es. first ++ es) rest
    ∙ sym (append_assoc first (left_since (apply_all c.ops g) cs x) (left_since (apply_all (ops_of cs) (apply_all c.ops g)) ds x))
    ∙ ap (λ (h : Graph). (first ++ left_since (apply_all c.ops g) cs x) ++ left_since h ds x) (sym (apply_all-append c.ops (ops_of cs) g))

pub below_grown : (w v : World) → Grown w v → (m : ℕ) (x : Oid) → m ≤ w.clock → below m (undo_list v x) ≡ below m (undo_list w x)
below_grown w v g m x low =
    let old = left_since empty_graph w.commits x in
    filter-reverse (λ d. nat_lt d.ts m) (left_since empty_graph v.commits x)
    ∙ ap reverse (ap (λ cs. filter (λ d. nat_lt d.ts m) (left_since empty_graph cs x)) g.commits
    ∙ ap (filter (λ d. nat_lt d.ts m)) (left_since-append w.commits g.more empty_graph x)
    ∙ filter-append (λ d. nat_lt d.ts m) old (left_since (fold_of w.commits) g.more x)
    ∙ ap (λ ds. filter (λ d. nat_lt d.ts m) old ++ ds) (left_late m w.clock g.more (fold_of w.commits) x low g.above)
    ∙ append-nil (filter (λ d. nat_lt d.ts m) old))
    ∙ sym (filter-reverse (λ d. nat_lt d.ts m) old)

-- the deltas below the mark stay
pub past_deltas_stay : (s : Start) (es later : List Entry) (x : Oid) → IsStart s →
    below (mark (run (start_world s) es)) (undo_list (run (start_world s) (es ++ later)) x)
    ≡ below (mark (run (start_world s) es)) (undo_list (run (start_world s) es) x)
past_deltas_stay s es later x h =
    let now : World = run (start_world s) es in
    let low : mark now ≤ now.clock = mark_below now (run_keeps_order (start_world s) es (start_in_order s h)) in
    ap (λ (w : World). below (mark now) (undo_list w x)) (run-more (start_world s) es later)
    ∙ below_grown now (run now later) (run_grown now later) (mark now) x low
