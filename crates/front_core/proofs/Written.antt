-- After a write the state keeps the world with it.
use Rattle.std.proofs.Common.{◌≡◌, ℕ, ◌+◌, ◌<◌, ◌≤◌, List, [], ◌∷◌, ◌++◌, Option, Some, None, ◌⊎◌, inl, inr, Bool, true, false, ◌&&◌, ◌||◌, cond, length, filter, refl, sym, ap, subst, ◌∙◌, arith}
use Rattle.std.specs.Prelude.{nat_eq, nat_lt, is_none, option_map, IsTrue, IfSome}
use Rattle.std.specs.List.{list_any}
use Rattle.std.proofs.lemmas.Bool.{false≢true}
use Rattle.std.proofs.lemmas.Bool.Decides.{nat_tests}
use Rattle.graph_value.specs.declared.id.Oid.{Oid}
use Rattle.graph_value.specs.declared.id.Oid.TheVariants.{Vertex, Edge}
use Rattle.graph_record.specs.declared.object.Object.{Object}
use Rattle.graph_record.specs.declared.object.Object.TheVariants as object
use Rattle.graph_record.specs.Graph.{Graph, object_at}
use Rattle.txn_manager.specs.Transactions.{Transactions}
use Rattle.undo_delta.specs.Change as one
use Rattle.undo_delta.specs.Touch.{is_touched, same_oid, touches}
use Rattle.undo_delta.specs.declared.ask.Ask.{Ask}
use Rattle.undo_delta.specs.declared.ask.Ask.TheVariants as ask
use Rattle.undo_delta.specs.declared.op.Op.{Op}
use Rattle.undo_delta.specs.declared.op.Op.TheVariants as op
use Rattle.world_model.specs.Asked.{op_of, vertices_made, edges_made}
use Rattle.world_model.specs.Counts.{all_left, deltas_left}
use Rattle.world_model.specs.Op.{are_touching, changes, is_possible}
use Rattle.world_model.specs.Refusals.{conflict, missing, or_else, write_refusal}
use Rattle.world_model.specs.Asked.{named}
use Rattle.world_model.specs.Step.{allowed_write_step, effect_step, with_op, write_step, written_world}
use Rattle.world_model.specs.World.{World, Txn, find_txn as find_world, txn_of, view_of, rival_at, transactions_of, ops_of, cut_of, mark, InOrder}
use Rattle.world_model.proofs.Marks.{effects as mark_written}
use Rattle.world_model.proofs.Folds.{and_left_true, possible_at, same_id}
use Rattle.world_model.proofs.Lists.{bare, map-with_op}
use Rattle.world_model.proofs.Objects.{are_touching-append, or_false}
use Rattle.world_model.proofs.Rivals.{free_at, free_of_others, none_first, none_second}
use Rattle.world_model.proofs.Txns.{find_txn-with_op, found_caller, with_write}
use Rattle.world_model.proofs.Writes.{allowed_possible, allowed_given, write_keeps_order}
use Rattle.front_core.specs.Books.{Book, Counted, MOST_DELTAS, Noted, find_txn, with_deltas, with_written}
use Rattle.front_core.specs.Keeps.{Keeps, CountsFor, FitsBy, FitsDeltas, FitsRow, FitsWritten, open_left}
use Rattle.front_core.specs.Histories.{Unchanged}
use Rattle.front_core.specs.Objects.{Grown, Has, Rewritten, Unmoved, made_edges, made_vertices, row_at, unwritten}
use Rattle.front_core.specs.Opened.{Allowed, Asked, Opened}
use Rattle.front_core.specs.Rows.{ObjectRow, is_writer, written_row}
use Rattle.front_core.specs.Tables.{next_of}
use Rattle.front_core.specs.declared.objects.Objects.{Objects}
use Rattle.front_core.specs.declared.row.Writing.{Writing}
use Rattle.front_core.specs.declared.state.State.{State}
use Rattle.front_core.specs.declared.transactions.Transaction.{Transaction}
use Rattle.front_core.proofs.Booked.{noted_none}
use Rattle.front_core.proofs.Changing.{touched_newest}
use Rattle.front_core.proofs.Finding.{equal_of, some_same, swapped, test_of}
use Rattle.front_core.proofs.Fitting.{fits_beside, fits_written}
use Rattle.front_core.proofs.Sight.{own_touch}
use Rattle.front_core.proofs.Tallied.{at_most_open, one_more, written as more_open}

pub made_vertices_is : (w : World) (g : Graph) (a : Ask) → made_vertices (op_of w g a) ≡ vertices_made a
made_vertices_is w g ask.CreateVertex = refl
made_vertices_is w g (ask.DeleteVertex v) = refl
made_vertices_is w g (ask.AddLabel v name) = refl
made_vertices_is w g (ask.RemoveLabel v name) = refl
made_vertices_is w g (ask.SetVertexProp v name value) = refl
made_vertices_is w g (ask.CreateEdge from kind to) = refl
made_vertices_is w g (ask.DeleteEdge e) = refl
made_vertices_is w g (ask.SetEdgeProp e name value) = refl

pub made_edges_is : (w : World) (g : Graph) (a : Ask) → made_edges (op_of w g a) ≡ edges_made a
made_edges_is w g ask.CreateVertex = refl
made_edges_is w g (ask.DeleteVertex v) = refl
made_edges_is w g (ask.AddLabel v name) = refl
made_edges_is w g (ask.RemoveLabel v name) = refl
made_edges_is w g (ask.SetVertexProp v name value) = refl
made_edges_is w g (ask.CreateEdge from kind to) = refl
made_edges_is w g (ask.DeleteEdge e) = refl
made_edges_is w g (ask.SetEdgeProp e name value) = refl

any-append : (y : Oid) (xs ys : List Oid) → list_any (same_oid y) (xs ++ ys) ≡ (list_any (same_oid y) xs || list_any (same_oid y) ys)
any-append y [] ys = refl
any-append y (x ∷ xs) ys = ap (λ b. same_oid y x || b) (any-append y xs ys) ∙ assoc (same_oid y x) (list_any (same_oid y) xs) (list_any (same_oid y) ys)
  where
    assoc : (a b c : Bool) → (a || (b || c)) ≡ (a || b || c)
    assoc true b c = refl
    assoc false b c = refl

-- among those that aren't written yet are just those that are listed and aren't
any_unwritten : (o : Objects) (y : Oid) (xs : List Oid) → list_any (same_oid y) (unwritten o xs) ≡ (list_any (same_oid y) xs && is_none (row_at o y).writing)
any_unwritten o y [] = refl
any_unwritten o y (x ∷ xs) = by_here (any_unwritten o y xs) (same_oid y x) (is_none (row_at o x).writing) refl refl
  where
    by_here : list_any (same_oid y) (unwritten o xs) ≡ (list_any (same_oid y) xs && is_none (row_at o y).writing) → (a n : Bool) → same_oid y x ≡ a → is_none (row_at o x).writing ≡ n →
        list_any (same_oid y) (cond n (x ∷ unwritten o xs) (unwritten o xs)) ≡ ((a || list_any (same_oid y) xs) && is_none (row_at o y).writing)
    by_here rest true true is none = ap (λ b. b || list_any (same_oid y) (unwritten o xs)) is ∙ sym (ap (λ z. is_none (row_at o z).writing) (same_id y x is) ∙ none)
    by_here rest true false is none =
        rest ∙ ap (λ b. list_any (same_oid y) xs && b) here ∙ neither (list_any (same_oid y) xs) ∙ sym here
      where
        here : is_none (row_at o y).writing ≡ false
        here = ap (λ z. is_none (row_at o z).writing) (same_id y x is) ∙ none

        neither : (b : Bool) → (b && false) ≡ false
        neither true = refl
        neither false = refl
    by_here rest false true is none = ap (λ b. b || list_any (same_oid y) (unwritten o xs)) is ∙ rest
    by_here rest false false is none = rest

-- the same rows leave the same objects unwritten
pub unwritten_same : (a b : Objects) → ((y : Oid) → row_at b y ≡ row_at a y) → (xs : List Oid) → unwritten b xs ≡ unwritten a xs
unwritten_same a b same [] = refl
unwritten_same a b same (x ∷ xs) =
    ap (λ (r : ObjectRow). cond (is_none r.writing) (x ∷ unwritten b xs) (unwritten b xs)) (same x)
    ∙ ap (λ ys. cond (is_none (row_at a x).writing) (x ∷ ys) ys) (unwritten_same a b same xs)

module _ (s : State) (w : World) (c start : ℕ) (p : Txn) (o : Opened s w c start p) (a : Ask) (write : Op) (asked : Asked w p a write) (allowed : Allowed w p a write) where
  free_all : conflict w p (touches write) ≡ None
  free_all = ap (λ (z : Op). conflict w p (touches z)) asked.is ∙ none_first _ _ (none_second (missing (view_of w p) (named a)) _ allowed.free)

  free_here : (x : Oid) → is_touched write x ≡ true → rival_at w p x ≡ None
  free_here x touched = free_at w p (touches write) x free_all touched

  pub newest_here : (x : Oid) → is_touched write x ≡ true → (row_at s.objects x).newest ≡ object_at (view_of w p) x
  newest_here x touched = touched_newest s w c start p o write x free_all touched

  -- each object that it touches allows it
  pub possible_here : (x : Oid) → is_touched write x ≡ true → one.is_possible write x (row_at s.objects x).newest ≡ true
  possible_here x touched =
      ap (one.is_possible write x) (newest_here x touched)
      ∙ possible_at write (view_of w p) x (ap (λ (z : Op). is_possible z (view_of w p)) asked.is ∙ allowed_possible w c p a o.keeps.ordered o.found allowed.free) touched

  -- the writer of an object that it touches is the caller or nobody
  own_or_none : (x : Oid) → is_touched write x ≡ true → (b : Option Writing) → FitsBy w x (row_at s.objects x) b → (is_writer c b ≡ true) ⊎ (b ≡ None)
  own_or_none x touched None fits = inr refl
  own_or_none x touched (Some by) fits = by_test (nat_eq by.caller c) refl
    where
      by_test : (t : Bool) → nat_eq by.caller c ≡ t → (is_writer c (Some by) ≡ true) ⊎ (Some by ≡ None)
      by_test true e = inl e
      by_test false e =
          let other : nat_eq p.caller by.caller ≡ false = subst (λ (n : ℕ). nat_eq n by.caller ≡ false) (sym (equal_of p.caller c (found_caller w.running c p o.found))) (swapped by.caller c e) in
          absurd (false≢true (sym (free_of_others w p x (free_here x touched) by.caller fits.0 fits.1.opened other) ∙ fits.1.touching))

  -- what it touches for the first time nobody writes yet
  first_touch : (x : Oid) → is_touched write x ≡ true → is_none (row_at s.objects x).writing ≡ false → are_touching p.ops x ≡ true
  first_touch x touched written = by_writing (row_at s.objects x).writing (o.keeps.rows x) written
    where
      by_writing : (b : Option Writing) → FitsBy w x (row_at s.objects x) b → is_none b ≡ false → are_touching p.ops x ≡ true
      by_writing None fits h = absurd (false≢true (sym h))
      by_writing (Some by) fits h = elim (own_or_none x touched (Some by) fits) [
        | inl its ↦ sym (own_touch w o.keeps.ordered x (o.keeps.cuts x) c p o.found (row_at s.objects x) (Some by) fits) ∙ its
        | inr none ↦ absurd cc
      ]

  -- THE CALLER'S LIST

  pub list_is : (x : Oid) (t : Transaction) → list_any (same_oid x) t.written ≡ are_touching p.ops x → list_any (same_oid x) (t.written ++ unwritten s.objects (touches write)) ≡ are_touching (p.ops ++ write ∷ []) x
  unfolding are_touching
  list_is x t before =
      any-append x t.written (unwritten s.objects (touches write))
      ∙ ap (λ b. b || list_any (same_oid x) (unwritten s.objects (touches write))) before
      ∙ ap (λ b. are_touching p.ops x || b) (any_unwritten s.objects x (touches write))
      ∙ by_touch (is_touched write x) (is_none (row_at s.objects x).writing) refl refl
      ∙ sym (are_touching-append p.ops (write ∷ []) x)
    where
      by_touch : (t n : Bool) → is_touched write x ≡ t → is_none (row_at s.objects x).writing ≡ n → (are_touching p.ops x || (t && n)) ≡ (are_touching p.ops x || (is_touched write x || false))
      by_touch true true is none = ap (λ b. are_touching p.ops x || (b || false)) (sym is)
      by_touch true false is none = ap (λ b. b || false) touching ∙ sym (ap (λ b. b || (is_touched write x || false)) touching)
        where
          touching : are_touching p.ops x ≡ true
          touching = first_touch x is none
      by_touch false n is none = ap (λ b. are_touching p.ops x || (b || false)) (sym is)

  -- THE WORLD WITH IT

  module _ (mid : Objects) (new : State) (remembered : Unchanged s.histories new.histories) (grown : Grown s.objects mid (made_vertices write) (made_edges write)) (rewritten : Rewritten mid new.objects c start write) (booked : Book) (noted : Noted s.transactions booked c (unwritten s.objects (touches write))) (counted : Counted booked new.transactions c (deltas_left write)) (committed : new.tally.committed ≡ s.tally.committed) (all : new.tally.all ≡ s.tally.all + deltas_left write) (most : new.tally.all ≤ MOST_DELTAS) where
    abbrev w' : World
    w' = written_world w c a write

    row_is : (x : Oid) → row_at new.objects x ≡ cond (is_touched write x) (written_row c start write x (row_at s.objects x)) (row_at s.objects x)
    row_is x = rewritten.rows x ∙ ap (λ (r : ObjectRow). cond (is_touched write x) (written_row c start write x r) r) (grown.rows x)

    rows' : (x : Oid) → FitsRow w' x (row_at new.objects x)
    rows' x = subst (FitsRow w' x) (sym (row_is x)) (by_touch (is_touched write x) refl)
      where
        by_touch : (t : Bool) → is_touched write x ≡ t → FitsRow w' x (cond t (written_row c start write x (row_at s.objects x)) (row_at s.objects x))
        by_touch true touched = fits_written w c p o.found write (w.vertices + vertices_made a) (w.edges + edges_made a) x touched (row_at s.objects x) start (sym o.began) (newest_here x touched) (o.keeps.rows x) (own_or_none x touched (row_at s.objects x).writing (o.keeps.rows x))
        by_touch false quiet = fits_beside w c p o.found write (w.vertices + vertices_made a) (w.edges + edges_made a) x quiet (row_at s.objects x) (o.keeps.rows x)

    -- what has become of the caller's transaction
    grow : Transaction → Transaction
    grow t = with_deltas (deltas_left write) (with_written (unwritten s.objects (touches write)) t)

    grown_txn : (d : ℕ) → find_txn new.transactions.txns d ≡ cond (nat_eq c d) (option_map grow (find_txn s.transactions.txns d)) (find_txn s.transactions.txns d)
    unfolding grow
    grown_txn d = counted.found d ∙ ap (λ t. cond (nat_eq c d) (option_map (with_deltas (deltas_left write)) t) t) (noted.found d) ∙ by_test (nat_eq c d) (find_txn s.transactions.txns d)
      where
        by_test : (b : Bool) (t : Option Transaction) → cond b (option_map (with_deltas (deltas_left write)) (cond b (option_map (with_written (unwritten s.objects (touches write))) t) t)) (cond b (option_map (with_written (unwritten s.objects (touches write))) t) t) ≡ cond b (option_map grow t) t
        by_test true None = refl
        by_test true (Some t) = refl
        by_test false t = refl

    deltas' : (d : ℕ) → FitsDeltas (find_txn new.transactions.txns d) (txn_of w' d)
    unfolding grow
    deltas' d =
        subst (λ (t : Option Transaction). FitsDeltas t (txn_of w' d)) (sym (grown_txn d))
        (subst (λ (t : Option Txn). FitsDeltas (cond (nat_eq c d) (option_map grow (find_txn s.transactions.txns d)) (find_txn s.transactions.txns d)) t) (sym (find_txn-with_op w.running c write d))
        (by_test (nat_eq c d) (find_txn s.transactions.txns d) (txn_of w d) (o.keeps.deltas d)))
      where
        by_test : (b : Bool) (t : Option Transaction) (q : Option Txn) → FitsDeltas t q → FitsDeltas (cond b (option_map grow t) t) (cond b (option_map (with_write write) q) q)
        by_test false t q fits = fits
        by_test true None q fits = tt
        by_test true (Some t) None fits = tt
        by_test true (Some t) (Some q) fits = ap (λ n. n + deltas_left write) fits ∙ sym (one_more q.ops write)

    written' : (d : ℕ) → FitsWritten (find_txn new.transactions.txns d) (txn_of w' d)
    unfolding grow
    written' d =
        subst (λ (t : Option Transaction). FitsWritten t (txn_of w' d)) (sym (grown_txn d))
        (subst (λ (t : Option Txn). FitsWritten (cond (nat_eq c d) (option_map grow (find_txn s.transactions.txns d)) (find_txn s.transactions.txns d)) t) (sym (find_txn-with_op w.running c write d))
        (by_test (nat_eq c d) refl (find_txn s.transactions.txns d) (txn_of w d) refl (o.keeps.written d)))
      where
        by_test : (b : Bool) → nat_eq c d ≡ b → (t : Option Transaction) (q : Option Txn) → txn_of w d ≡ q → FitsWritten t q →
            FitsWritten (cond b (option_map grow t) t) (cond b (option_map (with_write write) q) q)
        by_test false e t q found fits = fits
        by_test true e None None found fits = tt
        by_test true e None (Some q) found fits = fits
        by_test true e (Some t) None found fits = fits
        by_test true e (Some t) (Some q) found fits =
            let same : q ≡ p = some_same (sym found ∙ ap (find_world w.running) (sym (equal_of c d e)) ∙ o.found) in
            λ x. list_is x t (fits x ∙ ap (λ (z : Txn). are_touching z.ops x) same) ∙ ap (λ (z : Txn). are_touching (z.ops ++ write ∷ []) x) (sym same)

    pub keeps_written : Keeps new w'
    keeps_written = record {
      ordered = subst (λ (z : Op). InOrder (written_world w c a z)) (sym asked.is) (write_keeps_order w c p a o.keeps.ordered o.found allowed.free (subst (λ (z : Op). Rattle.world_model.specs.Op.changes z (view_of w p) ≡ true) asked.is allowed.effective));
      times = counted.times ∙ noted.times ∙ o.keeps.times ∙ ap (λ rs. record { clock = w.clock; running = rs }) (sym (map-with_op w.running c write));
      written = written';
      vertices = omega (arith, rewritten.ids.vertices.first, rewritten.ids.vertices.count, grown.first_vertex, grown.vertices, o.keeps.vertices, ap made_vertices asked.is, made_vertices_is w (view_of w p) a);
      edges = omega (arith, rewritten.ids.edges.first, rewritten.ids.edges.count, grown.first_edge, grown.edges, o.keeps.edges, ap made_edges asked.is, made_edges_is w (view_of w p) a);
      rows = rows';
      cuts = λ x. let low : cut_of w x ≤ mark w = o.keeps.cuts x in let rises : mark w ≤ mark w' = mark_written w c a write true in omega (arith, low, rises);
      deltas = deltas';
      counts = record {
        committed = committed ∙ o.keeps.counts.committed;
        all = all ∙ ap (λ n. n + deltas_left write) o.keeps.counts.all ∙ joined (all_left (ops_of w.commits)) (open_left w) (deltas_left write)
            ∙ ap (λ n. all_left (ops_of w.commits) + n) (sym (more_open w.running c write p o.found));
        most = most;
      };
      alike = record {
        vertices = remembered.base.vertices ∙ o.keeps.alike.vertices ∙ sym (rewritten.ids.vertices.first ∙ grown.first_vertex);
        edges = remembered.base.edges ∙ o.keeps.alike.edges ∙ sym (rewritten.ids.edges.first ∙ grown.first_edge);
      };
      interval = remembered.base.interval ∙ o.keeps.interval;
      histories = λ x. remembered.rows x ∙ o.keeps.histories x;
    }
      where
        joined : (a b n : ℕ) → (a + b) + n ≡ a + (b + n)
        joined a b n = omega arith

-- ROOM TO COUNT

equal_itself : (n : ℕ) → nat_eq n n ≡ true
equal_itself n = grind (arith, nat_tests)

-- what the caller's transaction has left is among all that is counted
pub room_left : (s : State) (w : World) (c start : ℕ) (p : Txn) → Opened s w c start p → (book : Book) (more : List Oid) → Noted s.transactions book c more → (n k : ℕ) → s.tally.all + n ≤ k → IfSome (find_txn book.txns c) (λ t. t.deltas + n ≤ k)
room_left s w c start p o book more noted n k room =
    subst (λ (t : Option Transaction). IfSome t (λ t. t.deltas + n ≤ k))
    (sym (noted.found c ∙ ap (λ b. cond b (option_map (with_written more) (find_txn s.transactions.txns c)) (find_txn s.transactions.txns c)) (equal_itself c)))
    (by_txn (find_txn s.transactions.txns c) (o.keeps.deltas c))
  where
    by_txn : (t : Option Transaction) → FitsDeltas t (txn_of w c) → IfSome (option_map (with_written more) t) (λ t. t.deltas + n ≤ k)
    by_txn None fits = tt
    by_txn (Some t) fits =
        let same : t.deltas ≡ all_left p.ops = subst (λ (q : Option Txn). FitsDeltas (Some t) q) o.found fits in
        let part = at_most_open w o.keeps.ordered c p o.found in
        omega (arith, same, part, room, o.keeps.counts.all)

-- A WRITE THAT FOUND NO MEMORY

grown_then : (a b d : Objects) (v e : ℕ) → Grown a b v e → Unmoved b d → Grown a d v e
grown_then a b d v e grown stays = record {
  rows = λ y. stays.rows y ∙ grown.rows y;
  first_vertex = stays.ids.vertices.first ∙ grown.first_vertex;
  first_edge = stays.ids.edges.first ∙ grown.first_edge;
  vertices = stays.ids.vertices.count ∙ grown.vertices;
  edges = stays.ids.edges.count ∙ grown.edges;
}

pub grown_back : (a b d e : Objects) (v f : ℕ) → Grown a b v f → Unmoved b d → ((before : Objects) → Grown before d v f → Grown before e 0 0) → Grown a e 0 0
grown_back a b d e v f grown stays back = back a (grown_then a b d v f grown stays)

pub grown_none : (a : Objects) → Grown a a 0 0
grown_none a = record { rows = λ y. refl; first_vertex = refl; first_edge = refl; vertices = omega arith; edges = omega arith }

-- it leaves the world as it was
pub keeps_same : (s new : State) (w : World) (c : ℕ) → Keeps s w → Grown s.objects new.objects 0 0 → Noted s.transactions new.transactions c [] → Unchanged s.histories new.histories → new.tally ≡ s.tally → Keeps new w
keeps_same s new w c keeps grown noted remembered tally = record {
  ordered = keeps.ordered;
  times = noted.times ∙ keeps.times;
  written = λ d. subst (λ (t : Option Transaction). FitsWritten t (txn_of w d)) (sym (found_same noted d)) (keeps.written d);
  vertices = omega (arith, grown.first_vertex, grown.vertices, keeps.vertices);
  edges = omega (arith, grown.first_edge, grown.edges, keeps.edges);
  rows = λ x. subst (FitsRow w x) (sym (grown.rows x)) (keeps.rows x);
  cuts = keeps.cuts;
  deltas = λ d. subst (λ (t : Option Transaction). FitsDeltas t (txn_of w d)) (sym (found_same noted d)) (keeps.deltas d);
  counts = subst (CountsFor w) (sym tally) keeps.counts;
  alike = record {
    vertices = remembered.base.vertices ∙ keeps.alike.vertices ∙ sym grown.first_vertex;
    edges = remembered.base.edges ∙ keeps.alike.edges ∙ sym grown.first_edge;
  };
  interval = remembered.base.interval ∙ keeps.interval;
  histories = λ x. remembered.rows x ∙ keeps.histories x;
}
  where
    found_same : Noted s.transactions new.transactions c [] → (d : ℕ) → find_txn new.transactions.txns d ≡ find_txn s.transactions.txns d
    found_same n d = n.found d ∙ noted_none (nat_eq c d) (find_txn s.transactions.txns d)

-- WHAT THE STEP SAYS

-- a write that nothing refuses has no rival at what it touches
pub conflict_free : (w : World) (p : Txn) (a : Ask) (write : Op) → Asked w p a write → write_refusal w p a ≡ None → conflict w p (touches write) ≡ None
conflict_free w p a write asked free = ap (λ (z : Op). conflict w p (touches z)) asked.is ∙ none_first _ _ (none_second (missing (view_of w p) (named a)) _ free)

-- the step of such a write is told by whether it changes something
pub effect_told : (w : World) (c : ℕ) (p : Txn) (a : Ask) (write : Op) (b : Bool) → txn_of w c ≡ Some p → Asked w p a write → write_refusal w p a ≡ None → b ≡ changes write (view_of w p) → write_step w c a (txn_of w c) ≡ effect_step w c a write b
effect_told w c p a write b found asked free told =
    ap (write_step w c a) found
    ∙ ap (allowed_write_step w p c a) free
    ∙ ap (λ (z : Op). effect_step w c a z (changes z (view_of w p))) (sym asked.is)
    ∙ ap (effect_step w c a write) (sym told)
