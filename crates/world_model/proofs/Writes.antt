-- A write that is allowed and changes the graph leaves a world in order.
use Rattle.std.proofs.Common.{◌≡◌, ◌≢◌, ℕ, ◌+◌, ◌^◌, ◌≤◌, List, [], ◌∷◌, ◌++◌, Option, Some, None, Bool, true, false, not, ◌&&◌, ◌||◌, cond, refl, sym, ap, subst, ◌∙◌, ◌⊎◌, inl, inr, arith}
use Rattle.std.specs.Prelude.{nat_eq, nat_lt, nat_le, option_map}
use Rattle.std.specs.List.{list_any, list_all}
use Rattle.std.proofs.lemmas.Bool.{false≢true}
use Rattle.std.proofs.lemmas.Bool.Decides.{nat_tests}
use Rattle.graph_value.specs.declared.id.VertexId.{VertexId}
use Rattle.graph_value.specs.declared.id.EdgeId.{EdgeId}
use Rattle.graph_value.specs.declared.id.Oid.{Oid}
use Rattle.graph_value.specs.declared.id.Oid.TheVariants.{Vertex, Edge}
use Rattle.graph_record.specs.declared.object.Object.{Object}
use Rattle.graph_record.specs.declared.object.Object.TheVariants as object
use Rattle.graph_record.specs.declared.object.VertexRecord.{VertexRecord}
use Rattle.graph_record.specs.declared.object.EdgeRecord.{EdgeRecord}
use Rattle.std.specs.FinMap.{find}
use Rattle.graph_record.specs.Graph.{Graph, IsCoherent, vertex_cmp, edge_cmp, vertex_object, edge_object, object_at, is_dead, has_out, has_in, comes_from, goes_to}
use Rattle.graph_record.specs.Edits.{has}
use Rattle.txn_manager.specs.declared.running.Running.{Running}
use Rattle.txn_manager.specs.Transactions.{IsReady}
use Rattle.undo_delta.specs.declared.ask.Ask.{Ask}
use Rattle.undo_delta.specs.declared.ask.Ask.TheVariants.{CreateVertex, DeleteVertex, AddLabel, RemoveLabel, SetVertexProp, CreateEdge, DeleteEdge, SetEdgeProp}
use Rattle.world_model.specs.declared.answer.Refused.{Refused}
use Rattle.world_model.specs.declared.answer.Refused.TheVariants.{Missing, HasEdges, IdEnd}
use Rattle.undo_delta.specs.Change as one
use Rattle.undo_delta.specs.Change.{is_vertex, is_edge, is_without_edges, is_free_of, has_ends, goes_between}
use Rattle.undo_delta.specs.Touch.{touches, is_touched, ends}
use Rattle.undo_delta.specs.declared.op.Op.{Op}
use Rattle.world_model.specs.Op.{are_touching, are_below, are_sound, is_given, is_possible, changes}
use Rattle.world_model.specs.World.{World, Txn, find_txn, txn_of, touched_after, InOrder, fold_of, before, ops_of, view_of, rival_at}
use Rattle.world_model.specs.Asked.{op_of, named, edge_start, edge_end, vertices_made, edges_made}
use Rattle.world_model.specs.Refusals.{missing, conflict, has_edges, id_end, none_left, write_refusal}
use Rattle.world_model.specs.Step.{with_op, written_world}
use Rattle.world_model.proofs.Objects.{are_touching-append, tied}
use Rattle.world_model.proofs.EdgeLists.{lists}
use Rattle.world_model.proofs.Ends.{number_of}
use Rattle.world_model.proofs.Txns.{find_txn-with_op, with_write, found_caller}
use Rattle.world_model.proofs.Folds.{are_sound-append, are_below-append, are_below-more, is_given-more, both_true, nat_eq_refl}
use Rattle.world_model.proofs.Lists.{map-with_op}
use Rattle.world_model.proofs.Rivals.{none_first, none_second, free_at, free_of_others, free_of_commits}
use Rattle.world_model.proofs.ObjectViews.{unborn}
use Rattle.world_model.proofs.Views.{view_coherent}

-- ---- what isn't refused

pub alive_given : (w : World) (c : ℕ) (p : Txn) (x : Oid) → InOrder w → txn_of w c ≡ Some p → is_dead (object_at (view_of w p) x) ≡ false → is_given w.vertices w.edges x ≡ true
alive_given w c p x o open_p alive =
    elim (is_given w.vertices w.edges x) as (λ b. is_given w.vertices w.edges x ≡ b → b ≡ true) [
      | true ↦ λ e. refl
      | false ↦ λ e. absurd (false≢true (sym alive ∙ ap is_dead (unborn w c p x o open_p e)))
    ] refl

none_missing : (x : Oid) (b : Bool) (rest : Option Refused) → cond b (Some (Missing x)) rest ≡ None → (b ≡ false) × (rest ≡ None)
none_missing x true rest e = absurd cc
none_missing x false rest e = (refl, e)

-- the first object of those that a write names is there, and so are the others
pub not_missing : (g : Graph) (x : Oid) (xs : List Oid) → missing g (x ∷ xs) ≡ None → (is_dead (object_at g x) ≡ false) × (missing g xs ≡ None)
not_missing g x xs h = none_missing x (is_dead (object_at g x)) (missing g xs) h

without_edges : (v : VertexId) (b : Bool) → cond b None (Some (HasEdges v)) ≡ None → b ≡ true
without_edges v true e = refl
without_edges v false e = absurd cc

-- what is alive under a vertex's id is a vertex, and under an edge's an edge
pub alive_vertex : (r : Option VertexRecord) → is_dead (vertex_object r) ≡ false → is_vertex (vertex_object r) ≡ true
alive_vertex None h = sym h
alive_vertex (Some r) h = refl

pub alive_edge : (r : Option EdgeRecord) → is_dead (edge_object r) ≡ false → is_edge (edge_object r) ≡ true
alive_edge None h = sym h
alive_edge (Some r) h = refl

-- ---- the ends of an edge

-- what holds of both ends of an edge and of the edge holds of all that its write touches
pub all_ends : (P : Oid → Bool) (from to : VertexId) (e : EdgeId) → P (Vertex from) ≡ true → P (Vertex to) ≡ true → P (Edge e) ≡ true → list_all P (ends from to (Edge e ∷ [])) ≡ true
all_ends P from to e at_from at_to at_edge = by_test (nat_eq from.0 to.0)
  where
    by_test : (b : Bool) → list_all P (cond b (Vertex from ∷ Edge e ∷ []) (Vertex from ∷ Vertex to ∷ Edge e ∷ [])) ≡ true
    by_test true = both_true _ _ at_from (both_true _ _ at_edge refl)
    by_test false = both_true _ _ at_from (both_true _ _ at_to (both_true _ _ at_edge refl))

pub has_lists : (e : EdgeId) (es : List EdgeId) → has edge_cmp e es ≡ lists e es
has_lists e [] = refl
has_lists e (f ∷ fs) = ap (λ b. b || has edge_cmp e fs) (tied e.0 f.0 ∙ number_of e.0 f.0) ∙ ap (λ b. nat_eq f.0 e.0 || b) (has_lists e fs)

-- a vertex that lists the edge at neither end
free_vertex : (e : EdgeId) (o : Object) → is_vertex o ≡ true → has_out e o ≡ false → has_in e o ≡ false → is_free_of e o ≡ true
free_vertex e object.Dead alive out come = alive
free_vertex e (object.Vertex r) alive out come = both_true _ _ (ap not (has_lists e r.outs ∙ out)) (ap not (has_lists e r.ins ∙ come))
free_vertex e (object.Edge r) alive out come = alive

dead_edge : (v : VertexId) (o : Object) → o ≡ object.Dead → (comes_from v o ≡ false) × (goes_to v o ≡ false)
dead_edge v o h = (ap (comes_from v) h, ap (goes_to v) h)

-- and one that lists it at each end that it is
listed_ends : (e : EdgeId) (a b : Bool) (o : Object) → has_out e o ≡ a → has_in e o ≡ b → (a || b) ≡ true → has_ends a b e o ≡ true
listed_ends e a b object.Dead out come either = come ∙ ap (λ c. c || b) out ∙ either
listed_ends e a b (object.Vertex r) out come either =
    both_true _ _ (implied a (has edge_cmp e r.outs) (has_lists e r.outs ∙ out)) (implied b (has edge_cmp e r.ins) (has_lists e r.ins ∙ come))
  where
    implied : (a h : Bool) → h ≡ a → (not a || h) ≡ true
    implied true h e = e
    implied false h e = refl
listed_ends e a b (object.Edge r) out come either = come ∙ ap (λ c. c || b) out ∙ either

-- an edge comes from its start alone, and goes to its end alone
starts_at : (v : VertexId) (o : Object) → is_edge o ≡ true → comes_from v o ≡ nat_eq v.0 (edge_start o).0
starts_at v object.Dead h = absurd (false≢true h)
starts_at v (object.Vertex r) h = absurd (false≢true h)
starts_at v (object.Edge r) h = number_of r.from.0 v.0

ends_at : (v : VertexId) (o : Object) → is_edge o ≡ true → goes_to v o ≡ nat_eq v.0 (edge_end o).0
ends_at v object.Dead h = absurd (false≢true h)
ends_at v (object.Vertex r) h = absurd (false≢true h)
ends_at v (object.Edge r) h = number_of r.to.0 v.0

between_own : (o : Object) → is_edge o ≡ true → goes_between (edge_start o) (edge_end o) o ≡ true
between_own object.Dead h = h
between_own (object.Vertex r) h = h
between_own (object.Edge r) h = both_true _ _ (nat_eq_refl r.from.0) (nat_eq_refl r.to.0)

true_or : (b : Bool) → (b || true) ≡ true
true_or true = refl
true_or false = refl

module _ (g : Graph) (c : IsCoherent g) where
  -- a vertex isn't among the ends of an edge that isn't there
  pub free_of_dead : (e : EdgeId) (v : VertexId) → is_dead (object_at g (Vertex v)) ≡ false → object_at g (Edge e) ≡ object.Dead → is_free_of e (object_at g (Vertex v)) ≡ true
  free_of_dead e v alive gone =
      let none = dead_edge v (object_at g (Edge e)) gone in
      free_vertex e (object_at g (Vertex v)) (alive_vertex (find vertex_cmp v g.vertices) alive) (sym (c.starts e v) ∙ none.0) (sym (c.ends e v) ∙ none.1)

  module _ (e : EdgeId) (alive : is_edge (object_at g (Edge e)) ≡ true) where
    abbrev from : VertexId
    from = edge_start (object_at g (Edge e))

    abbrev to : VertexId
    to = edge_end (object_at g (Edge e))

    pub out_of : (v : VertexId) → has_out e (object_at g (Vertex v)) ≡ nat_eq v.0 from.0
    out_of v = sym (c.starts e v) ∙ starts_at v (object_at g (Edge e)) alive

    pub into : (v : VertexId) → has_in e (object_at g (Vertex v)) ≡ nat_eq v.0 to.0
    into v = sym (c.ends e v) ∙ ends_at v (object_at g (Edge e)) alive

    -- each end of an edge lists it
    lists_own : (v : VertexId) → (nat_eq v.0 from.0 || nat_eq v.0 to.0) ≡ true → has_ends (nat_eq v.0 from.0) (nat_eq v.0 to.0) e (object_at g (Vertex v)) ≡ true
    lists_own v either = listed_ends e (nat_eq v.0 from.0) (nat_eq v.0 to.0) (object_at g (Vertex v)) (out_of v) (into v) either

    -- and is alive
    pub start_alive : is_dead (object_at g (Vertex from)) ≡ false
    start_alive = listing (object_at g (Vertex from)) (out_of from ∙ nat_eq_refl from.0)
      where
        listing : (o : Object) → has_out e o ≡ true → is_dead o ≡ false
        listing object.Dead h = absurd (false≢true h)
        listing (object.Vertex r) h = refl
        listing (object.Edge r) h = refl

    pub end_alive : is_dead (object_at g (Vertex to)) ≡ false
    end_alive = listing (object_at g (Vertex to)) (into to ∙ nat_eq_refl to.0)
      where
        listing : (o : Object) → has_in e o ≡ true → is_dead o ≡ false
        listing object.Dead h = absurd (false≢true h)
        listing (object.Vertex r) h = refl
        listing (object.Edge r) h = refl

    pub own_ends_possible : is_possible (Rattle.undo_delta.specs.declared.op.Op.TheVariants.DeleteEdge e from to) g ≡ true
    own_ends_possible =
        all_ends (λ x. one.is_possible (Rattle.undo_delta.specs.declared.op.Op.TheVariants.DeleteEdge e from to) x (object_at g x)) from to e
        (lists_own from (ap (λ b. b || nat_eq from.0 to.0) (nat_eq_refl from.0)))
        (lists_own to (ap (λ b. nat_eq to.0 from.0 || b) (nat_eq_refl to.0) ∙ true_or (nat_eq to.0 from.0)))
        (between_own (object_at g (Edge e)) alive)

-- an allowed write is possible in the view
pub allowed_possible : (w : World) (c : ℕ) (p : Txn) (ask : Ask) → InOrder w → txn_of w c ≡ Some p → write_refusal w p ask ≡ None → is_possible (op_of w (view_of w p) ask) (view_of w p) ≡ true
allowed_possible w c p CreateVertex o open_p h = both_true _ _ (ap is_dead (unborn w c p (Vertex (record { 0 = w.vertices })) o open_p (itself w.vertices))) refl
  where
    itself : (n : ℕ) → nat_lt n n ≡ false
    itself n = grind (arith, nat_tests)
allowed_possible w c p (DeleteVertex v) o open_p h =
    let later = none_second (missing (view_of w p) (named (DeleteVertex v))) _ h in
    let bare = none_first _ _ (none_second (conflict w p (touches (op_of w (view_of w p) (DeleteVertex v)))) _ later) in
    both_true _ _ (without_edges v (is_without_edges (object_at (view_of w p) (Vertex v))) bare) refl
allowed_possible w c p (AddLabel v name) o open_p h =
    both_true _ _ (alive_vertex (find vertex_cmp v (view_of w p).vertices) (not_missing (view_of w p) (Vertex v) [] (none_first _ _ h)).0) refl
allowed_possible w c p (RemoveLabel v name) o open_p h =
    both_true _ _ (alive_vertex (find vertex_cmp v (view_of w p).vertices) (not_missing (view_of w p) (Vertex v) [] (none_first _ _ h)).0) refl
allowed_possible w c p (SetVertexProp v name value) o open_p h =
    both_true _ _ (alive_vertex (find vertex_cmp v (view_of w p).vertices) (not_missing (view_of w p) (Vertex v) [] (none_first _ _ h)).0) refl
allowed_possible w c p (CreateEdge from kind to) o open_p h =
    let g : Graph = view_of w p in
    let coherent : IsCoherent g = view_coherent w c p o open_p in
    let e : EdgeId = record { 0 = w.edges } in
    let gone : object_at g (Edge e) ≡ object.Dead = unborn w c p (Edge e) o open_p (itself w.edges) in
    let first = not_missing g (Vertex from) (Vertex to ∷ []) (none_first _ _ h) in
    let second = not_missing g (Vertex to) [] first.1 in
    all_ends (λ x. one.is_possible (op_of w g (CreateEdge from kind to)) x (object_at g x)) from to e
    (free_of_dead g coherent e from first.0 gone) (free_of_dead g coherent e to second.0 gone) (ap is_dead gone)
  where
    itself : (n : ℕ) → nat_lt n n ≡ false
    itself n = grind (arith, nat_tests)
allowed_possible w c p (DeleteEdge e) o open_p h =
    own_ends_possible (view_of w p) (view_coherent w c p o open_p) e
    (alive_edge (find edge_cmp e (view_of w p).edges) (not_missing (view_of w p) (Edge e) [] (none_first _ _ h)).0)
allowed_possible w c p (SetEdgeProp e name value) o open_p h =
    both_true _ _ (alive_edge (find edge_cmp e (view_of w p).edges) (not_missing (view_of w p) (Edge e) [] (none_first _ _ h)).0) refl

-- and touches what the counters have come to, once it is written
module _ (w : World) (c : ℕ) (p : Txn) (o : InOrder w) (open_p : txn_of w c ≡ Some p) where
  given_then : (ask : Ask) (x : Oid) → is_dead (object_at (view_of w p) x) ≡ false → is_given (w.vertices + vertices_made ask) (w.edges + edges_made ask) x ≡ true
  given_then ask x alive =
      is_given-more w.vertices (w.vertices + vertices_made ask) w.edges (w.edges + edges_made ask) x (omega arith) (omega arith) (alive_given w c p x o open_p alive)

  one_given : (ask : Ask) (x : Oid) → missing (view_of w p) (x ∷ []) ≡ None → is_given (w.vertices + vertices_made ask) (w.edges + edges_made ask) x ≡ true
  one_given ask x there = given_then ask x (not_missing (view_of w p) x [] there).0

  one_below : (ask : Ask) (x : Oid) → is_given (w.vertices + vertices_made ask) (w.edges + edges_made ask) x ≡ true → ((is_given (w.vertices + vertices_made ask) (w.edges + edges_made ask) x && true) && true) ≡ true
  one_below ask x h = both_true _ _ (both_true _ _ h refl) refl

  next : (n : ℕ) → nat_lt n (n + 1) ≡ true
  next n = grind (arith, nat_tests)

  pub allowed_given : (ask : Ask) → write_refusal w p ask ≡ None → are_below (w.vertices + vertices_made ask) (w.edges + edges_made ask) (op_of w (view_of w p) ask ∷ []) ≡ true
  unfolding are_below
  allowed_given CreateVertex h = one_below CreateVertex (Vertex (record { 0 = w.vertices })) (next w.vertices)
  allowed_given (DeleteVertex v) h = one_below (DeleteVertex v) (Vertex v) (one_given (DeleteVertex v) (Vertex v) (none_first _ _ h))
  allowed_given (AddLabel v name) h = one_below (AddLabel v name) (Vertex v) (one_given (AddLabel v name) (Vertex v) (none_first _ _ h))
  allowed_given (RemoveLabel v name) h = one_below (RemoveLabel v name) (Vertex v) (one_given (RemoveLabel v name) (Vertex v) (none_first _ _ h))
  allowed_given (SetVertexProp v name value) h = one_below (SetVertexProp v name value) (Vertex v) (one_given (SetVertexProp v name value) (Vertex v) (none_first _ _ h))
  allowed_given (CreateEdge from kind to) h =
      let g : Graph = view_of w p in
      let first = not_missing g (Vertex from) (Vertex to ∷ []) (none_first _ _ h) in
      let second = not_missing g (Vertex to) [] first.1 in
      both_true _ _
      (all_ends (is_given (w.vertices + 0) (w.edges + 1)) from to (record { 0 = w.edges })
      (given_then (CreateEdge from kind to) (Vertex from) first.0) (given_then (CreateEdge from kind to) (Vertex to) second.0) (next w.edges))
      refl
  allowed_given (DeleteEdge e) h =
      let g : Graph = view_of w p in
      let coherent : IsCoherent g = view_coherent w c p o open_p in
      let there = (not_missing g (Edge e) [] (none_first _ _ h)).0 in
      let alive = alive_edge (find edge_cmp e g.edges) there in
      both_true _ _
      (all_ends (is_given (w.vertices + 0) (w.edges + 0)) (edge_start (object_at g (Edge e))) (edge_end (object_at g (Edge e))) e
      (given_then (DeleteEdge e) (Vertex (edge_start (object_at g (Edge e)))) (start_alive g coherent e alive))
      (given_then (DeleteEdge e) (Vertex (edge_end (object_at g (Edge e)))) (end_alive g coherent e alive))
      (given_then (DeleteEdge e) (Edge e) there))
      refl
  allowed_given (SetEdgeProp e name value) h = one_below (SetEdgeProp e name value) (Edge e) (one_given (SetEdgeProp e name value) (Edge e) (none_first _ _ h))

-- the counters stay within their end
room : (n : ℕ) → none_left n ≡ None → n + 1 ≤ 2 ^ 62
room n e = by_test (nat_le (2 ^ 62) n) refl e
  where
    by_test : (b : Bool) → nat_le (2 ^ 62) n ≡ b → cond b (Some IdEnd) None ≡ None → n + 1 ≤ 2 ^ 62
    by_test true t e = absurd cc
    by_test false t e = grind (arith, nat_tests)

pub id_left : (w : World) (p : Txn) (ask : Ask) → write_refusal w p ask ≡ None → id_end w ask ≡ None
id_left w p ask h =
    none_second (has_edges (view_of w p) ask) _
    (none_second (conflict w p (touches (op_of w (view_of w p) ask))) _ (none_second (missing (view_of w p) (named ask)) _ h))

vertices_counted : (w : World) (ask : Ask) → w.vertices ≤ 2 ^ 62 → id_end w ask ≡ None → w.vertices + vertices_made ask ≤ 2 ^ 62
vertices_counted w CreateVertex le h = room w.vertices h
vertices_counted w (DeleteVertex v) le h = omega arith
vertices_counted w (AddLabel v name) le h = omega arith
vertices_counted w (RemoveLabel v name) le h = omega arith
vertices_counted w (SetVertexProp v name value) le h = omega arith
vertices_counted w (CreateEdge from kind to) le h = omega arith
vertices_counted w (DeleteEdge e) le h = omega arith
vertices_counted w (SetEdgeProp e name value) le h = omega arith

edges_counted : (w : World) (ask : Ask) → w.edges ≤ 2 ^ 62 → id_end w ask ≡ None → w.edges + edges_made ask ≤ 2 ^ 62
edges_counted w CreateVertex le h = omega arith
edges_counted w (DeleteVertex v) le h = omega arith
edges_counted w (AddLabel v name) le h = omega arith
edges_counted w (RemoveLabel v name) le h = omega arith
edges_counted w (SetVertexProp v name value) le h = omega arith
edges_counted w (CreateEdge from kind to) le h = room w.edges h
edges_counted w (DeleteEdge e) le h = omega arith
edges_counted w (SetEdgeProp e name value) le h = omega arith

-- a transaction afterwards is the caller's with one more write, or another's as before
pub data Written (c : ℕ) (op : Op) (ps : List Txn) (d : ℕ) (q : Txn) : Type 0 where
  own : (p : Txn) → nat_eq c d ≡ true → find_txn ps d ≡ Some p → q ≡ with_write op p → Written c op ps d q
  others : nat_eq c d ≡ false → find_txn ps d ≡ Some q → Written c op ps d q

pub written_found : (c : ℕ) (op : Op) (ps : List Txn) (d : ℕ) (q : Txn) → find_txn (with_op ps c op) d ≡ Some q → Written c op ps d q
written_found c op ps d q h = pick (nat_eq c d) (find_txn ps d) refl refl (sym (find_txn-with_op ps c op d) ∙ h)
  where
    pick : (b : Bool) (found : Option Txn) → nat_eq c d ≡ b → find_txn ps d ≡ found → cond b (option_map (with_write op) found) found ≡ Some q → Written c op ps d q
    pick true (Some p) e f h = own p e f cc
    pick true None e f h = absurd cc
    pick false found e f h = others e (f ∙ h)

-- one more write is seen as the writes before it, and then itself
with_view : (w : World) (p : Txn) (op : Op) → are_sound (p.ops ++ op ∷ []) (fold_of (before p.start w.commits)) ≡ (are_sound p.ops (fold_of (before p.start w.commits)) && (is_possible op (view_of w p) && changes op (view_of w p) && true))
unfolding are_sound
with_view w p op = are_sound-append p.ops (op ∷ []) (fold_of (before p.start w.commits))

touching_more : (p : Txn) (op : Op) (x : Oid) → are_touching (p.ops ++ op ∷ []) x ≡ (are_touching p.ops x || (is_touched op x || false))
unfolding are_touching
touching_more p op x = are_touching-append p.ops (op ∷ []) x

one_of : (a b : Bool) → (a || (b || false)) ≡ true → (a ≡ true) ⊎ (b ≡ true)
one_of true b h = inl refl
one_of false true h = inr refl
one_of false false h = absurd (false≢true h)

neither : (a b : Bool) → a ≡ false → b ≡ false → (a || (b || false)) ≡ false
neither a b p q = ap (λ c. c || (b || false)) p ∙ ap (λ c. c || false) q

module _ (w : World) (c : ℕ) (p : Txn) (ask : Ask) (o : InOrder w) (open_p : txn_of w c ≡ Some p) (allowed : write_refusal w p ask ≡ None) (effective : changes (op_of w (view_of w p) ask) (view_of w p) ≡ true) where
  abbrev op : Op
  op = op_of w (view_of w p) ask

  -- no rival stands where it writes
  free : (x : Oid) → is_touched op x ≡ true → rival_at w p x ≡ None
  free x t = free_at w p (touches op) x (none_first _ _ (none_second (missing (view_of w p) (named ask)) _ allowed)) t

  own_caller : nat_eq p.caller c ≡ true
  own_caller = found_caller w.running c p open_p

  caller_is : p.caller ≡ c
  caller_is = same p.caller c own_caller
    where
      same : (a b : ℕ) → nat_eq a b ≡ true → a ≡ b
      same a b h = grind (arith, nat_tests)

  -- another caller's writes touch nothing that it touches
  others_apart : (d : ℕ) (q : Txn) → find_txn w.running d ≡ Some q → nat_eq c d ≡ false → (x : Oid) → is_touched op x ≡ true → are_touching q.ops x ≡ false
  others_apart d q f ne x t = free_of_others w p x (free x t) d q f (subst (λ (n : ℕ). nat_eq n d ≡ false) (sym caller_is) ne)

  differs : (d : ℕ) → nat_eq c d ≡ false → c ≢ d
  differs d h same = false≢true (sym h ∙ equal c d same)
    where
      equal : (a b : ℕ) → a ≡ b → nat_eq a b ≡ true
      equal a b e = grind (arith, nat_tests)

  same_txn : (d : ℕ) (q : Txn) → nat_eq c d ≡ true → find_txn w.running d ≡ Some q → q ≡ p
  same_txn d q e f = let at : c ≡ d = number c d e in some_same (sym f ∙ ap (find_txn w.running) (sym at) ∙ open_p)
    where
      number : (a b : ℕ) → nat_eq a b ≡ true → a ≡ b
      number a b h = grind (arith, nat_tests)

      some_same : {A : Type 0} {a b : A} → Some a ≡ Some b → a ≡ b
      some_same e = cc

  -- the caller's transaction and another one
  own_apart : (d : ℕ) (q : Txn) → nat_eq c d ≡ false → find_txn w.running d ≡ Some q → (x : Oid) → are_touching (p.ops ++ op ∷ []) x ≡ true → are_touching q.ops x ≡ false
  own_apart d q ne f x t = elim (one_of (are_touching p.ops x) (is_touched op x) (sym (touching_more p op x) ∙ t)) [
    | inl before_it ↦ o.alone c d p q open_p f (differs d ne) x before_it
    | inr now ↦ others_apart d q f ne x now
  ]

  other_apart : (d : ℕ) (q : Txn) → nat_eq c d ≡ false → find_txn w.running d ≡ Some q → (x : Oid) → are_touching q.ops x ≡ true → are_touching (p.ops ++ op ∷ []) x ≡ false
  other_apart d q ne f x t =
      let first : are_touching p.ops x ≡ false = o.alone d c q p f open_p (λ e. differs d ne (sym e)) x t in
      let last : is_touched op x ≡ false = by_test (is_touched op x) refl in
      touching_more p op x ∙ neither _ _ first last
    where
      by_test : (b : Bool) → is_touched op x ≡ b → is_touched op x ≡ false
      by_test true e = absurd (false≢true (sym (others_apart d q f ne x e) ∙ t))
      by_test false e = e

  own_sound : are_sound (p.ops ++ op ∷ []) (fold_of (before p.start w.commits)) ≡ true
  own_sound = with_view w p op ∙ both_true _ _ (o.running_sound c p open_p) (both_true _ _ (both_true _ _ (allowed_possible w c p ask o open_p allowed) effective) refl)

  -- what was below the counters still is
  still_below : (ops : List Op) → are_below w.vertices w.edges ops ≡ true → are_below (w.vertices + vertices_made ask) (w.edges + edges_made ask) ops ≡ true
  still_below ops below = are_below-more w.vertices (w.vertices + vertices_made ask) w.edges (w.edges + edges_made ask) ops (omega arith) (omega arith) below

  own_below : are_below (w.vertices + vertices_made ask) (w.edges + edges_made ask) (p.ops ++ op ∷ []) ≡ true
  own_below = are_below-append (w.vertices + vertices_made ask) (w.edges + edges_made ask) p.ops (op ∷ [])
      ∙ both_true _ _ (still_below p.ops (o.running_below c p open_p)) (allowed_given w c p o open_p ask allowed)

  own_quiet : (x : Oid) → are_touching (p.ops ++ op ∷ []) x ≡ true → touched_after p.start w.commits x ≡ false
  own_quiet x t = elim (one_of (are_touching p.ops x) (is_touched op x) (sym (touching_more p op x) ∙ t)) [
    | inl before_it ↦ o.unrivalled c p open_p x before_it
    | inr now ↦ free_of_commits w p x (free x now)
  ]

  -- what a fact needs to hold of every transaction afterwards: it holds of the caller's, and held of the others'
  of_all : (F : Txn → Type 0) → F (with_write op p) → ((d : ℕ) (q : Txn) → nat_eq c d ≡ false → find_txn w.running d ≡ Some q → F q) → (d : ℕ) (q : Txn) → Written c op w.running d q → F q
  of_all F mine theirs d q (own r e f is) = subst F (sym (is ∙ ap (with_write op) (same_txn d r e f))) mine
  of_all F mine theirs d q (others ne f) = theirs d q ne f

  pair_apart : (a b : ℕ) (q r : Txn) → Written c op w.running a q → Written c op w.running b r → a ≢ b → (x : Oid) → are_touching q.ops x ≡ true → are_touching r.ops x ≡ false
  pair_apart a b q r (own q0 ea fa isa) (own r0 eb fb isb) ne x t = absurd (ne (number a b ea eb))
    where
      number : (a b : ℕ) → nat_eq c a ≡ true → nat_eq c b ≡ true → a ≡ b
      number a b h k = grind (arith, nat_tests)
  pair_apart a b q r (own q0 ea fa isa) (others nb fb) ne x t =
      own_apart b r nb fb x (subst (λ (s : Txn). are_touching s.ops x ≡ true) (isa ∙ ap (with_write op) (same_txn a q0 ea fa)) t)
  pair_apart a b q r (others na fa) (own r0 eb fb isb) ne x t =
      subst (λ (s : Txn). are_touching s.ops x ≡ false) (sym (isb ∙ ap (with_write op) (same_txn b r0 eb fb))) (other_apart a q na fa x t)
  pair_apart a b q r (others na fa) (others nb fb) ne x t = o.alone a b q r fa fb ne x t

  pub write_keeps_order : InOrder (written_world w c ask op)
  write_keeps_order =
      let found : (d : ℕ) (q : Txn) → find_txn (with_op w.running c op) d ≡ Some q → Written c op w.running d q = written_found c op w.running in
      record {
        ready = subst (λ (rs : List Running). IsReady (record { clock = w.clock; running = rs })) (sym (map-with_op w.running c op)) o.ready;
        counters = (vertices_counted w ask o.counters.0 (id_left w p ask allowed), edges_counted w ask o.counters.1 (id_left w p ask allowed));
        ascending = o.ascending;
        stamped = o.stamped;
        apart = λ d q f. of_all (λ (s : Txn). list_any (λ k. nat_eq k.ts s.start) w.commits ≡ false) (o.apart c p open_p) (λ d q ne f. o.apart d q f) d q (found d q f);
        alone = λ a b q r fq fr ne x t. pair_apart a b q r (found a q fq) (found b r fr) ne x t;
        unrivalled = λ d q f. of_all (λ (s : Txn). (x : Oid) → are_touching s.ops x ≡ true → touched_after s.start w.commits x ≡ false) own_quiet (λ d q ne f. o.unrivalled d q f) d q (found d q f);
        committed_below = still_below (ops_of w.commits) o.committed_below;
        running_below = λ d q f. of_all (λ (s : Txn). are_below (w.vertices + vertices_made ask) (w.edges + edges_made ask) s.ops ≡ true) own_below (λ d q ne f. still_below q.ops (o.running_below d q f)) d q (found d q f);
        committed_sound = o.committed_sound;
        running_sound = λ d q f. of_all (λ (s : Txn). are_sound s.ops (fold_of (before s.start w.commits)) ≡ true) own_sound (λ d q ne f. o.running_sound d q f) d q (found d q f);
      }
