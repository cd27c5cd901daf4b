-- After a begin and an end the state keeps the world that they leave.
use Rattle.std.proofs.Common.{◌≡◌, ℕ, ◌+◌, ◌<◌, List, [], ◌∷◌, ◌++◌, Option, Some, None, Result, Err, ◌⊎◌, inl, inr, Bool, true, false, not, ◌&&◌, ◌||◌, cond, length, map, reverse, get_or, refl, sym, ap, subst, ◌∙◌, arith}
use Rattle.std.specs.Prelude.{◌≤◌, nat_eq, nat_lt, nat_le, All, IfSome}
use Rattle.std.specs.List.{list_any, list_all, sum_by}
use Rattle.std.proofs.lemmas.Bool.{false≢true}
use Rattle.std.proofs.lemmas.Bool.Decides.{nat_tests}
use Rattle.std.proofs.lemmas.List.{map-append, reverse-append}
use Rattle.graph_value.specs.declared.id.Oid.{Oid}
use Rattle.graph_value.specs.declared.id.Oid.TheVariants.{Vertex, Edge}
use Rattle.graph_record.specs.Graph.{Graph, empty_graph}
use Rattle.txn_manager.specs.RunningList as list
use Rattle.txn_manager.specs.Transactions.{Transactions, begin_refusal, begun, clock_after_end, least_start}
use Rattle.txn_manager.specs.declared.running.Running.{Running}
use Rattle.undo_law.specs.declared.dated.Dated.{Dated}
use Rattle.undo_delta.specs.Touch.{is_touched, same_oid}
use Rattle.undo_delta.specs.declared.delta.Delta.{Delta}
use Rattle.undo_delta.specs.declared.op.Op.{Op}
use Rattle.undo_delta.specs.declared.op.Op.TheVariants as op
use Rattle.std.proofs.lemmas.List.Sums.{AllPass-from_list_all, sum_by-append}
use Rattle.version_chain.specs.Entry.{open_entry}
use Rattle.version_chain.specs.Parts.{timestamps_of}
use Rattle.version_chain.specs.declared.entry.Entry.{Entry}
use Rattle.world_model.specs.Op.{apply_all, are_touching}
use Rattle.txn_manager.specs.declared.refusals.BeginRefused.{BeginRefused}
use Rattle.txn_manager.specs.declared.refusals.BeginRefused.TheVariants as begin
use Rattle.world_model.specs.History.{is_refused}
use Rattle.world_model.specs.Refusals.{or_else, refused_begin}
use Rattle.world_model.specs.Step.{begin_step, begun_world, commit_step, committed, without}
use Rattle.world_model.specs.Counts.{all_left, deltas_left}
use Rattle.world_model.specs.Undo.{dated, left_by_all, left_since, open_list, undo_list}
use Rattle.undo_delta.specs.Apply.{after}
use Rattle.anchor_store.specs.Blocks.{blocks}
use Rattle.world_model.specs.Placement.{below, blocks_of, chain, object_below, since}
use Rattle.world_model.proofs.Growing.{Grown, below_grown}
use Rattle.world_model.proofs.Pieced.{object_below_stays}
use Rattle.world_model.proofs.Marks.{left, mark_below, begins as mark_begun}
use Rattle.world_model.specs.World.{World, Commit as OneCommit, Txn, find_txn as find_world, txn_of, transactions_of, ops_of, cut_of, mark, InOrder}
use Rattle.world_model.proofs.Begins.{begin_keeps_order, no_touch}
use Rattle.world_model.proofs.Commits.{commit_keeps_order, end_keeps_order}
use Rattle.world_model.proofs.Folds.{both_true, and_left_true, and_right_true, nat_eq_refl, one_touched, ops_of-one, same_itself}
use Rattle.world_model.proofs.Lists.{bare, map-one, map-without}
use Rattle.world_model.proofs.Objects.{touched_end, touched_edge}
use Rattle.world_model.proofs.Txns.{find_txn-append, find_txn-without}
use Rattle.front_core.specs.Books.{Book, Closed, MOST_DELTAS, end_number, find_txn, is_empty, opened, place_in, running_of, times_of}
use Rattle.front_core.specs.Keeps.{Keeps, Obeys, committed_entry, FitsBy, FitsDeltas, FitsRow, FitsWritten, open_left}
use Rattle.front_core.specs.Objects.{Ended, row_at}
use Rattle.front_core.specs.Opened.{Opened}
use Rattle.front_core.specs.Rows.{ObjectRow, aborted_row, committed_row, is_writer, IsStampFor, MayCommit}
use Rattle.front_core.specs.Tables.{next_of}
use Rattle.front_core.specs.declared.objects.Objects.{Objects}
use Rattle.front_core.specs.declared.row.Writing.{Writing}
use Rattle.front_core.specs.declared.state.State.{State}
use Rattle.front_core.specs.declared.tally.Tally.{Tally}
use Rattle.front_core.specs.declared.transactions.Transaction.{Transaction}
use Rattle.front_core.proofs.Fitting.{fits_aborted, fits_begun, fits_committed, fits_kept, fits_spared}
use Rattle.world_model.specs.Reply as answer
use Rattle.world_model.specs.declared.event.Event.TheVariants.{Begin, Commit}
use Rattle.front_core.proofs.Tallied.{begun as begun_open, ended}
use Rattle.front_core.proofs.Stepping.{entry, obeys_no_memory, obeys_refusal, obeys_step, open_of}
use Rattle.front_core.proofs.Sight.{all_stamps, own_touch}

-- A BEGIN

find-append : (ts : List Transaction) (t : Transaction) (d : ℕ) → find_txn (ts ++ t ∷ []) d ≡ or_else (find_txn ts d) (cond (nat_eq t.caller d) (Some t) None)
find-append [] t d = refl
find-append (u ∷ ts) t d = ap (cond (nat_eq u.caller d) (Some u)) (find-append ts t d) ∙ by_test (nat_eq u.caller d)
  where
    by_test : (b : Bool) → cond b (Some u) (or_else (find_txn ts d) (cond (nat_eq t.caller d) (Some t) None)) ≡ or_else (cond b (Some u) (find_txn ts d)) (cond (nat_eq t.caller d) (Some t) None)
    by_test true = refl
    by_test false = refl

pub keeps_begun : (s : State) (w : World) (c : ℕ) → Keeps s w → begin_refusal (transactions_of w) c ≡ None → Keeps (record s { transactions = opened s.transactions c }) (begun_world w c)
keeps_begun s w c keeps free = record {
  ordered = begin_keeps_order w c keeps.ordered free;
  times = ap (λ rs. record { clock = s.transactions.clock + 1; running = rs }) (map-append running_of s.transactions.txns (t ∷ []))
      ∙ ap (λ times. begun times c) keeps.times
      ∙ ap (λ rs. record { clock = w.clock + 1; running = rs }) (sym (map-one w.running fresh));
  written = written';
  vertices = keeps.vertices;
  edges = keeps.edges;
  rows = λ x. fits_begun w c x (row_at s.objects x) (keeps.rows x);
  cuts = λ x. let low : cut_of w x ≤ mark w = keeps.cuts x in let rises : mark w ≤ mark (begun_world w c) = mark_begun w c keeps.ordered None in omega (arith, low, rises);
  deltas = deltas';
  counts = record {
    committed = keeps.counts.committed;
    all = keeps.counts.all ∙ ap (λ n. all_left (ops_of w.commits) + n) (sym (begun_open w.running fresh refl));
    most = keeps.counts.most;
  };
  alike = keeps.alike;
  interval = keeps.interval;
  histories = keeps.histories;
}
  where
    t : Transaction
    t = record { caller = c; start = s.transactions.clock; deltas = 0; written = [] }

    fresh : Txn
    fresh = record { caller = c; start = w.clock; ops = [] }

    both_new : (d : ℕ) (b : Bool) (u : Option Transaction) (q : Option Txn) → FitsWritten u q → FitsWritten (or_else u (cond b (Some t) None)) (or_else q (cond b (Some fresh) None))
    both_new d true None None fits = λ x. sym (no_touch x)
    both_new d false None None fits = tt
    both_new d b None (Some q) fits = absurd fits
    both_new d b (Some u) None fits = absurd fits
    both_new d b (Some u) (Some q) fits = fits

    written' : (d : ℕ) → FitsWritten (find_txn (s.transactions.txns ++ t ∷ []) d) (find_world (w.running ++ fresh ∷ []) d)
    written' d =
        subst (λ (u : Option Transaction). FitsWritten u (find_world (w.running ++ fresh ∷ []) d)) (sym (find-append s.transactions.txns t d))
        (subst (λ (q : Option Txn). FitsWritten (or_else (find_txn s.transactions.txns d) (cond (nat_eq c d) (Some t) None)) q) (sym (find_txn-append w.running fresh d))
        (both_new d (nat_eq c d) (find_txn s.transactions.txns d) (txn_of w d) (keeps.written d)))

    both_counted : (d : ℕ) (b : Bool) (u : Option Transaction) (q : Option Txn) → FitsWritten u q → FitsDeltas u q → FitsDeltas (or_else u (cond b (Some t) None)) (or_else q (cond b (Some fresh) None))
    both_counted d true None None fits same = refl
    both_counted d false None None fits same = tt
    both_counted d b None (Some q) fits same = absurd fits
    both_counted d b (Some u) None fits same = absurd fits
    both_counted d b (Some u) (Some q) fits same = same

    deltas' : (d : ℕ) → FitsDeltas (find_txn (s.transactions.txns ++ t ∷ []) d) (find_world (w.running ++ fresh ∷ []) d)
    deltas' d =
        subst (λ (u : Option Transaction). FitsDeltas u (find_world (w.running ++ fresh ∷ []) d)) (sym (find-append s.transactions.txns t d))
        (subst (λ (q : Option Txn). FitsDeltas (or_else (find_txn s.transactions.txns d) (cond (nat_eq c d) (Some t) None)) q) (sym (find_txn-append w.running fresh d))
        (both_counted d (nat_eq c d) (find_txn s.transactions.txns d) (txn_of w d) (keeps.written d) (keeps.deltas d)))

-- a begin that is refused
pub begin_refused : (s : State) (w : World) (c : ℕ) (why : BeginRefused) → Keeps s w → IfSome (begin_refusal (times_of s.transactions) c) (λ due. ◌≡◌ {A = Result ℕ BeginRefused} (Err why) (Err due)) →
    (begin_refusal (times_of s.transactions) c ≡ Some why) ⊎ (why ≡ begin.NoMemory) → Obeys w s (entry c Begin (answer.Refused (refused_begin why)))
begin_refused s w c why keeps due reason = by_refusal (begin_refusal (times_of s.transactions) c) refl due reason
  where
    same : begin_refusal (transactions_of w) c ≡ begin_refusal (times_of s.transactions) c
    same = ap (λ (u : Transactions). begin_refusal u c) (sym keeps.times)

    is_err : (a b : BeginRefused) → ◌≡◌ {A = Result ℕ BeginRefused} (Err a) (Err b) → b ≡ a
    is_err a b h = cc

    by_refusal : (o : Option BeginRefused) → begin_refusal (times_of s.transactions) c ≡ o → IfSome o (λ d. ◌≡◌ {A = Result ℕ BeginRefused} (Err why) (Err d)) → (o ≡ Some why) ⊎ (why ≡ begin.NoMemory) → Obeys w s (entry c Begin (answer.Refused (refused_begin why)))
    by_refusal (Some d) e told r = obeys_refusal s w c Begin (refused_begin why) keeps (ap (begin_step w c) (same ∙ e ∙ ap Some (is_err why d told)))
    by_refusal None e told (inl h) = absurd (cc)
    by_refusal None e told (inr h) =
        subst (λ (y : BeginRefused). Obeys w s (entry c Begin (answer.Refused (refused_begin y)))) (sym h)
        (obeys_no_memory s w c Begin keeps (ap (λ (o : Option BeginRefused). not (is_refused (begin_step w c o).reply)) (same ∙ e)))

-- THE TIMESTAMPS OF A ROW

all-append : (p : ℕ → Bool) (xs ys : List ℕ) → list_all p xs ≡ true → list_all p ys ≡ true → list_all p (xs ++ ys) ≡ true
all-append p [] ys a b = b
all-append p (x ∷ xs) ys a b = both_true (p x) _ (and_left_true (p x) _ a) (all-append p xs ys (and_right_true (p x) _ a) b)

all_dated : (clock ts : ℕ) (ds : List Delta) → nat_lt ts clock ≡ true → list_all (λ n. nat_lt n clock) (map (λ d. d.ts) (dated ts ds)) ≡ true
all_dated clock ts [] h = refl
all_dated clock ts (d ∷ ds) h = both_true _ _ h (all_dated clock ts ds h)

all_since : (clock : ℕ) (cs : List OneCommit) (g : Graph) (x : Oid) → list_all (λ c. nat_le 1 c.ts && nat_lt c.ts clock) cs ≡ true → list_all (λ n. nat_lt n clock) (map (λ d. d.ts) (left_since g cs x)) ≡ true
unfolding left_since
all_since clock [] g x h = refl
all_since clock (c ∷ cs) g x h =
    ap (list_all (λ n. nat_lt n clock)) (map-append (λ (d : Dated Delta). d.ts) (dated c.ts (left_by_all c.ops x g)) (left_since (apply_all c.ops g) cs x))
    ∙ all-append (λ n. nat_lt n clock) (map (λ d. d.ts) (dated c.ts (left_by_all c.ops x g))) (map (λ d. d.ts) (left_since (apply_all c.ops g) cs x))
    (all_dated clock c.ts (left_by_all c.ops x g) (and_right_true (nat_le 1 c.ts) _ (and_left_true (nat_le 1 c.ts && nat_lt c.ts clock) _ h)))
    (all_since clock cs (apply_all c.ops g) x (and_right_true (nat_le 1 c.ts && nat_lt c.ts clock) _ h))

all_reversed : (clock : ℕ) (ds : List (Dated Delta)) → list_all (λ n. nat_lt n clock) (map (λ d. d.ts) ds) ≡ true → list_all (λ n. nat_lt n clock) (map (λ d. d.ts) (reverse ds)) ≡ true
all_reversed clock [] h = refl
all_reversed clock (d ∷ ds) h =
    ap (λ es. list_all (λ n. nat_lt n clock) (map (λ d. d.ts) es)) (reverse-append (d ∷ []) ds)
    ∙ ap (list_all (λ n. nat_lt n clock)) (map-append (λ (e : Dated Delta). e.ts) (reverse ds) (d ∷ []))
    ∙ all-append (λ n. nat_lt n clock) (map (λ d. d.ts) (reverse ds)) (d.ts ∷ []) (all_reversed clock ds (and_right_true (nat_lt d.ts clock) _ h)) (both_true _ _ (and_left_true (nat_lt d.ts clock) _ h) refl)

all_kept : (clock c : ℕ) (ds : List (Dated Delta)) → list_all (λ n. nat_lt n clock) (map (λ d. d.ts) ds) ≡ true → list_all (λ n. nat_lt n clock) (map (λ d. d.ts) (since c ds)) ≡ true
all_kept clock c [] h = refl
all_kept clock c (d ∷ ds) h = by_test (nat_le c d.ts) (all_kept clock c ds (and_right_true (nat_lt d.ts clock) _ h))
  where
    by_test : (b : Bool) → list_all (λ n. nat_lt n clock) (map (λ d. d.ts) (since c ds)) ≡ true → list_all (λ n. nat_lt n clock) (map (λ d. d.ts) (cond b (d ∷ since c ds) (since c ds))) ≡ true
    by_test true rest = both_true _ _ (and_left_true (nat_lt d.ts clock) _ h) rest
    by_test false rest = rest

pub may_commit : (s : State) (w : World) → Keeps s w → (x : Oid) → MayCommit s.transactions.clock (row_at s.objects x)
may_commit s w keeps x = by_writing (row_at s.objects x).writing (keeps.rows x)
  where
    clock : s.transactions.clock ≡ w.clock
    clock = ap (λ (t : Transactions). t.clock) keeps.times

    by_writing : (b : Option Writing) → FitsBy w x (row_at s.objects x) b → IsStampFor s.transactions.clock (row_at s.objects x) b
    by_writing None fits = tt
    by_writing (Some by) fits = λ k d lt. below _ w.clock (AllPass-from_list_all (λ n. nat_lt n w.clock) (timestamps_of (row_at s.objects x).chain) (all_below fits.0 fits.1.chain) k d lt)
      where
        below : (n m : ℕ) → nat_lt n w.clock ≡ true → n < s.transactions.clock
        below n m h = let lt : n < w.clock = grind (arith, nat_tests, h) in omega (arith, lt, clock)

        all_below : (p : Txn) → (row_at s.objects x).chain ≡ map open_entry (open_list w p x) ++ map committed_entry (chain w x) → list_all (λ n. nat_lt n w.clock) (timestamps_of (row_at s.objects x).chain) ≡ true
        all_below p is =
            ap (λ (es : List (Entry Delta)). list_all (λ n. nat_lt n w.clock) (timestamps_of es)) is
            ∙ ap (list_all (λ n. nat_lt n w.clock)) (all_stamps (open_list w p x) (chain w x))
            ∙ all_kept w.clock (cut_of w x) (undo_list w x) (all_reversed w.clock (left_since empty_graph w.commits x) (all_since w.clock w.commits empty_graph x keeps.ordered.stamped))

-- AN OBJECT THAT A WRITE TOUCHES

main_of : Op → Oid
main_of (op.CreateVertex v) = Vertex v
main_of (op.DeleteVertex v) = Vertex v
main_of (op.AddLabel v name) = Vertex v
main_of (op.RemoveLabel v name) = Vertex v
main_of (op.SetVertexProp v name value) = Vertex v
main_of (op.CreateEdge e from kind to) = Edge e
main_of (op.DeleteEdge e from to) = Edge e
main_of (op.SetEdgeProp e name value) = Edge e

main_touched : (write : Op) → is_touched write (main_of write) ≡ true
unfolding main_of
main_touched (op.CreateVertex v) = one_touched v.0
main_touched (op.DeleteVertex v) = one_touched v.0
main_touched (op.AddLabel v name) = one_touched v.0
main_touched (op.RemoveLabel v name) = one_touched v.0
main_touched (op.SetVertexProp v name value) = one_touched v.0
main_touched (op.CreateEdge e from kind to) = touched_edge e e from to ∙ nat_eq_refl e.0
main_touched (op.DeleteEdge e from to) = touched_edge e e from to ∙ nat_eq_refl e.0
main_touched (op.SetEdgeProp e name value) = one_touched e.0

first_touches : (write : Op) (ops : List Op) → are_touching (write ∷ ops) (main_of write) ≡ true
unfolding are_touching
first_touches write ops = ap (λ b. b || are_touching ops (main_of write)) (main_touched write)

-- AN END

at_clock : (n : ℕ) → (nat_le n n && true) ≡ true
at_clock n = grind (arith, nat_tests)

module _ (s : State) (w : World) (c start : ℕ) (p : Txn) (o : Opened s w c start p) (t : Transaction) (here : find_txn s.transactions.txns c ≡ Some t) where
  -- the list of the caller's transaction has what it has written
  lists : (x : Oid) → list_any (same_oid x) t.written ≡ are_touching p.ops x
  lists = subst (λ (q : Option Txn). FitsWritten (Some t) q) o.found (subst (λ (u : Option Transaction). FitsWritten u (txn_of w c)) here (o.keeps.written c))

  -- and its rows are the caller's
  mine : (x : Oid) → list_any (same_oid x) t.written ≡ is_writer c (row_at s.objects x).writing
  mine x = lists x ∙ sym (own_touch w o.keeps.ordered x (o.keeps.cuts x) c p o.found (row_at s.objects x) (row_at s.objects x).writing (o.keeps.rows x))

  -- it counts what its writes left
  pub own_deltas : t.deltas ≡ all_left p.ops
  own_deltas = subst (λ (q : Option Txn). FitsDeltas (Some t) q) o.found (subst (λ (u : Option Transaction). FitsDeltas u (txn_of w c)) here (o.keeps.deltas c))

  open_parts : open_left w ≡ sum_by (λ p. all_left p.ops) (without c w.running) + all_left p.ops
  open_parts = ended w o.keeps.ordered c p o.found

  -- which is among all that is counted
  pub among_all : s.tally.committed + t.deltas ≤ s.tally.all
  among_all = omega (arith, own_deltas, open_parts, o.keeps.counts.committed, o.keeps.counts.all)

  below_clock : (x : Oid) → cut_of w x ≤ w.clock
  below_clock x = let low : cut_of w x ≤ mark w = o.keeps.cuts x in let past : mark w ≤ w.clock = mark_below w o.keeps.ordered in omega (arith, low, past)

  -- no cut is above the mark once the transaction has ended
  cuts_left : (clock : ℕ) → w.clock ≤ clock → (x : Oid) → cut_of w x ≤ least_start clock (map bare (without c w.running))
  cuts_left clock later x = let low : cut_of w x ≤ mark w = o.keeps.cuts x in let rises = left w c clock o.keeps.ordered later in omega (arith, low, rises)

  module _ (book : Book) (now : ℕ) (closed : Closed s.transactions book c now) where
    written' : (d : ℕ) → FitsWritten (find_txn book.txns d) (find_world (without c w.running) d)
    written' d =
        subst (λ (u : Option Transaction). FitsWritten u (find_world (without c w.running) d)) (sym (closed.found d))
        (subst (λ (q : Option Txn). FitsWritten (cond (nat_eq c d) None (find_txn s.transactions.txns d)) q) (sym (find_txn-without c w.running d))
        (by_test (nat_eq c d) (find_txn s.transactions.txns d) (txn_of w d) (o.keeps.written d)))
      where
        by_test : (b : Bool) (u : Option Transaction) (q : Option Txn) → FitsWritten u q → FitsWritten (cond b None u) (cond b None q)
        by_test true u q fits = tt
        by_test false u q fits = fits

    deltas' : (d : ℕ) → FitsDeltas (find_txn book.txns d) (find_world (without c w.running) d)
    deltas' d =
        subst (λ (u : Option Transaction). FitsDeltas u (find_world (without c w.running) d)) (sym (closed.found d))
        (subst (λ (q : Option Txn). FitsDeltas (cond (nat_eq c d) None (find_txn s.transactions.txns d)) q) (sym (find_txn-without c w.running d))
        (by_test (nat_eq c d) (find_txn s.transactions.txns d) (txn_of w d) (o.keeps.deltas d)))
      where
        by_test : (b : Bool) (u : Option Transaction) (q : Option Txn) → FitsDeltas u q → FitsDeltas (cond b None u) (cond b None q)
        by_test true u q fits = tt
        by_test false u q fits = fits

    times' : (clock : ℕ) → now ≡ clock → times_of book ≡ record { clock = clock; running = map bare (without c w.running) }
    times' clock is =
        ap (λ n. record { clock = n; running = map running_of book.txns }) (closed.clock ∙ is)
        ∙ ap (λ rs. record { clock = clock; running = rs }) (closed.running ∙ ap (λ (u : Transactions). list.without c u.running) o.keeps.times ∙ sym (map-without w.running c))

    -- AN ABORT

    pub keeps_aborted : (objects : Objects) (tally : Tally) → tally.committed ≡ s.tally.committed → tally.all + t.deltas ≡ s.tally.all → now ≡ s.transactions.clock → Ended s.objects objects aborted_row t.written → Keeps (record s { transactions = book; objects = objects; tally = tally }) (record w { running = without c w.running })
    keeps_aborted objects tally same less is ended = record {
      ordered = end_keeps_order w c p o.keeps.ordered o.found;
      times = times' w.clock (is ∙ ap (λ (u : Transactions). u.clock) o.keeps.times);
      written = written';
      vertices = omega (arith, ended.ids.vertices.first, ended.ids.vertices.count, o.keeps.vertices);
      edges = omega (arith, ended.ids.edges.first, ended.ids.edges.count, o.keeps.edges);
      rows = λ x. subst (FitsRow (record w { running = without c w.running }) x) (sym (ended.rows x)) (row x (list_any (same_oid x) t.written) (mine x));
      cuts = cuts_left w.clock (omega arith);
      deltas = deltas';
      counts = record {
        committed = same ∙ o.keeps.counts.committed;
        all = omega (arith, less, own_deltas, open_parts, o.keeps.counts.all);
        most = omega (arith, less, o.keeps.counts.most);
      };
      alike = record { vertices = o.keeps.alike.vertices ∙ sym ended.ids.vertices.first; edges = o.keeps.alike.edges ∙ sym ended.ids.edges.first };
      interval = o.keeps.interval;
      histories = o.keeps.histories;
    }
      where
        row : (x : Oid) (b : Bool) → b ≡ is_writer c (row_at s.objects x).writing → FitsRow (record w { running = without c w.running }) x (cond b (aborted_row (row_at s.objects x)) (row_at s.objects x))
        row x true is = fits_aborted w c p o.keeps.ordered o.found x (row_at s.objects x) (o.keeps.rows x) (sym is)
        row x false is = fits_spared w c p o.keeps.ordered o.found x (row_at s.objects x) (o.keeps.rows x) (sym is)

    -- A COMMIT

    pub keeps_committed : (objects : Objects) (tally : Tally) → tally.committed ≡ s.tally.committed + t.deltas → tally.all ≡ s.tally.all → now ≡ s.transactions.clock + 1 → Ended s.objects objects (committed_row s.transactions.clock) t.written →
        Keeps (record s { transactions = book; objects = objects; tally = tally }) (record w { clock = w.clock + 1; commits = w.commits ++ record { ts = w.clock; ops = p.ops } ∷ []; running = without c w.running })
    keeps_committed objects tally more same is ended = record {
      ordered = commit_keeps_order w c p o.keeps.ordered o.found;
      times = times' (w.clock + 1) (is ∙ ap (λ (u : Transactions). u.clock + 1) o.keeps.times);
      written = written';
      vertices = omega (arith, ended.ids.vertices.first, ended.ids.vertices.count, o.keeps.vertices);
      edges = omega (arith, ended.ids.edges.first, ended.ids.edges.count, o.keeps.edges);
      rows = λ x. subst (FitsRow done x) (sym (ended.rows x)) (row x (list_any (same_oid x) t.written) (mine x));
      cuts = cuts_left (w.clock + 1) (omega arith);
      deltas = deltas';
      counts = record {
        committed = more ∙ omega (arith, own_deltas, all_now, o.keeps.counts.committed);
        all = same ∙ omega (arith, open_parts, all_now, o.keeps.counts.all);
        most = omega (arith, same, o.keeps.counts.most);
      };
      alike = record { vertices = o.keeps.alike.vertices ∙ sym ended.ids.vertices.first; edges = o.keeps.alike.edges ∙ sym ended.ids.edges.first };
      interval = o.keeps.interval;
      histories = λ x. o.keeps.histories x ∙ ap (λ bs. record { cut = cut_of w x; blocks = bs }) (sym (blocks_stay x));
    }
      where
        done : World
        done = record w { clock = w.clock + 1; commits = w.commits ++ record { ts = w.clock; ops = p.ops } ∷ []; running = without c w.running }

        -- all deltas of the commits, this one's among them
        all_now : all_left (ops_of done.commits) ≡ all_left (ops_of w.commits) + all_left p.ops
        all_now = ap all_left (ops_of-one w.commits (record { ts = w.clock; ops = p.ops })) ∙ sum_by-append deltas_left (ops_of w.commits) p.ops

        grown : Grown w done
        grown = record {
          more = record { ts = w.clock; ops = p.ops } ∷ [];
          commits = refl;
          above = at_clock w.clock;
          clock = omega arith;
          interval = refl;
          counters = (omega arith, omega arith);
        }

        -- what lies in the history is below the clock, where the commit stands
        blocks_stay : (x : Oid) → blocks_of done x ≡ blocks_of w x
        blocks_stay x =
            ap (λ n. blocks after w.interval n (below (cut_of w x) (undo_list done x))) (object_below_stays w done x o.keeps.ordered (commit_keeps_order w c p o.keeps.ordered o.found) grown (cut_of w x) (below_clock x))
            ∙ ap (blocks after w.interval (object_below w x (cut_of w x))) (below_grown w done grown (cut_of w x) x (below_clock x))

        row : (x : Oid) (b : Bool) → b ≡ is_writer c (row_at s.objects x).writing → FitsRow (record w { clock = w.clock + 1; commits = w.commits ++ record { ts = w.clock; ops = p.ops } ∷ []; running = without c w.running }) x (cond b (committed_row s.transactions.clock (row_at s.objects x)) (row_at s.objects x))
        row x true is =
            subst (λ (n : ℕ). FitsRow (record w { clock = w.clock + 1; commits = w.commits ++ record { ts = w.clock; ops = p.ops } ∷ []; running = without c w.running }) x (committed_row n (row_at s.objects x))) (sym (ap (λ (u : Transactions). u.clock) o.keeps.times))
            (fits_committed w c p o.keeps.ordered o.found x (row_at s.objects x) (below_clock x) (o.keeps.rows x) (sym is))
        row x false is = fits_kept w c p o.keeps.ordered o.found x (row_at s.objects x) (below_clock x) (o.keeps.rows x) (sym is)

    -- without a write nothing is committed
    pub keeps_left : (objects : Objects) (tally : Tally) → tally.committed ≡ s.tally.committed + t.deltas → tally.all ≡ s.tally.all → now ≡ s.transactions.clock → p.ops ≡ [] → Ended s.objects objects (committed_row s.transactions.clock) t.written → Keeps (record s { transactions = book; objects = objects; tally = tally }) (record w { running = without c w.running })
    keeps_left objects tally more same is none ended = record {
      ordered = end_keeps_order w c p o.keeps.ordered o.found;
      times = times' w.clock (is ∙ ap (λ (u : Transactions). u.clock) o.keeps.times);
      written = written';
      vertices = omega (arith, ended.ids.vertices.first, ended.ids.vertices.count, o.keeps.vertices);
      edges = omega (arith, ended.ids.edges.first, ended.ids.edges.count, o.keeps.edges);
      rows = λ x. subst (FitsRow (record w { running = without c w.running }) x) (sym (ended.rows x ∙ ap (λ b. cond b (committed_row s.transactions.clock (row_at s.objects x)) (row_at s.objects x)) (quiet x)))
          (fits_spared w c p o.keeps.ordered o.found x (row_at s.objects x) (o.keeps.rows x) (sym (mine x) ∙ quiet x));
      cuts = cuts_left w.clock (omega arith);
      deltas = deltas';
      counts = record {
        committed = more ∙ ap (λ n. s.tally.committed + n) (own_deltas ∙ ap all_left none) ∙ nothing s.tally.committed ∙ o.keeps.counts.committed;
        all = same ∙ o.keeps.counts.all ∙ ap (λ n. all_left (ops_of w.commits) + n) (open_parts ∙ ap (λ ops. sum_by (λ q. all_left q.ops) (without c w.running) + all_left ops) none ∙ nothing (sum_by (λ q. all_left q.ops) (without c w.running)));
        most = omega (arith, same, o.keeps.counts.most);
      };
      alike = record { vertices = o.keeps.alike.vertices ∙ sym ended.ids.vertices.first; edges = o.keeps.alike.edges ∙ sym ended.ids.edges.first };
      interval = o.keeps.interval;
      histories = o.keeps.histories;
    }
      where
        nothing : (n : ℕ) → n + 0 ≡ n
        nothing n = omega arith

        quiet : (x : Oid) → list_any (same_oid x) t.written ≡ false
        quiet x = lists x ∙ ap (λ ops. are_touching ops x) none ∙ no_touch x

  -- WHETHER IT HAS WRITTEN

  pub nothing_written : p.ops ≡ [] → is_empty t.written ≡ true
  nothing_written none = by_list t.written lists
    where
      by_list : (xs : List Oid) → ((x : Oid) → list_any (same_oid x) xs ≡ are_touching p.ops x) → is_empty xs ≡ true
      by_list [] h = refl
      by_list (x ∷ xs) h = absurd (false≢true (sym (h x ∙ ap (λ ops. are_touching ops x) none ∙ no_touch x) ∙ ap (λ b. b || list_any (same_oid x) xs) (same_itself x)))

  pub something_written : (write : Op) (ops : List Op) → p.ops ≡ write ∷ ops → is_empty t.written ≡ false
  something_written write ops some = by_list t.written lists
    where
      by_list : (xs : List Oid) → ((x : Oid) → list_any (same_oid x) xs ≡ are_touching p.ops x) → is_empty xs ≡ false
      by_list [] h = absurd (false≢true (h (main_of write) ∙ ap (λ ops. are_touching ops (main_of write)) some ∙ first_touches write ops))
      by_list (x ∷ xs) h = refl

-- what an ended transaction counts is among all that is counted
pub ended_among : (s : State) (w : World) (c place : ℕ) (ended : Transaction) → Keeps s w → place_in s.transactions.txns c ≡ Some place → IfSome (find_txn s.transactions.txns c) (λ t. ended ≡ t) → (s.tally.committed + ended.deltas ≤ s.tally.all) × (s.tally.all ≤ MOST_DELTAS)
ended_among s w c place ended keeps placed taken =
    let f = open_of s w c place keeps placed in
    let is : ended ≡ f.0 = subst (λ o. IfSome o (λ (u : Transaction). ended ≡ u)) f.3 taken in
    let among = among_all s w c f.0.start f.1 f.2 f.0 f.3 in
    (omega (arith, among, ap (λ (u : Transaction). u.deltas) is), keeps.counts.most)

-- the answer to a commit is the world's
pub committed_obeys : (s : State) (w : World) (c : ℕ) (p : Txn) (t : Transaction) → (o : Opened s w c t.start p) → find_txn s.transactions.txns c ≡ Some t → (n : ℕ) → n ≡ end_number s.transactions.clock t → (book : Book) → Closed s.transactions book c (clock_after_end (not (is_empty t.written)) s.transactions.clock) →
    (objects : Objects) → Ended s.objects objects (committed_row s.transactions.clock) t.written → (tally : Tally) → tally.committed ≡ s.tally.committed + t.deltas → tally.all ≡ s.tally.all → Obeys w (record s { transactions = book; objects = objects; tally = tally }) (entry c Commit (answer.Committed n))
committed_obeys s w c p t o here n is book closed objects ended tally more same = by_ops p.ops refl
  where
    clock : s.transactions.clock ≡ w.clock
    clock = ap (λ (u : Transactions). u.clock) o.keeps.times

    by_ops : (ops : List Op) → p.ops ≡ ops → Obeys w (record s { transactions = book; objects = objects; tally = tally }) (entry c Commit (answer.Committed n))
    by_ops [] none =
        let empty = nothing_written s w c t.start p o t here none in
        obeys_step (record s { transactions = book; objects = objects; tally = tally }) w (record w { running = without c w.running }) c Commit (answer.Committed n)
        (ap (commit_step w c) o.found ∙ ap (committed w c p.start) none
        ∙ ap (λ m. record { reply = answer.Committed m; world = record w { running = without c w.running } }) (sym (is ∙ ap (λ b. cond b t.start s.transactions.clock) empty ∙ sym o.began)))
        refl
        (keeps_left s w c t.start p o t here book (clock_after_end (not (is_empty t.written)) s.transactions.clock) closed objects tally more same (ap (λ b. clock_after_end (not b) s.transactions.clock) empty) none ended)
    by_ops (write ∷ ops) some =
        let full = something_written s w c t.start p o t here write ops some in
        obeys_step (record s { transactions = book; objects = objects; tally = tally }) w (record w { clock = w.clock + 1; commits = w.commits ++ record { ts = w.clock; ops = p.ops } ∷ []; running = without c w.running }) c Commit (answer.Committed n)
        (ap (commit_step w c) o.found ∙ ap (committed w c p.start) some
        ∙ ap (λ os. record { reply = answer.Committed w.clock; world = record w { clock = w.clock + 1; commits = w.commits ++ record { ts = w.clock; ops = os } ∷ []; running = without c w.running } }) (sym some)
        ∙ ap (λ m. record { reply = answer.Committed m; world = record w { clock = w.clock + 1; commits = w.commits ++ record { ts = w.clock; ops = p.ops } ∷ []; running = without c w.running } }) (sym (is ∙ ap (λ b. cond b t.start s.transactions.clock) full ∙ clock)))
        refl
        (keeps_committed s w c t.start p o t here book (clock_after_end (not (is_empty t.written)) s.transactions.clock) closed objects tally more same (ap (λ b. clock_after_end (not b) s.transactions.clock) full) ended)
