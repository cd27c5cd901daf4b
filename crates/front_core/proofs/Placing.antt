-- The rows of an edge and its ends, taken out, changed and put back.
use Rattle.std.proofs.Common.{◌≡◌, ◌≢◌, ℕ, [], ◌∷◌, Some, Bool, true, false, ◌||◌, cond, sym, ap, subst, refl, ◌∙◌, arith}
use Rattle.std.specs.Prelude.{nat_eq, IsTrue}
use Rattle.std.specs.List.{list_any}
use Rattle.std.proofs.lemmas.Bool.Decides.{nat_tests}
use Rattle.graph_value.specs.declared.id.EdgeId.{EdgeId}
use Rattle.graph_value.specs.declared.id.VertexId.{VertexId}
use Rattle.graph_value.specs.declared.id.Oid.{Oid}
use Rattle.graph_value.specs.declared.id.Oid.TheVariants.{Vertex, Edge}
use Rattle.undo_delta.specs.Touch.{is_touched, joined, same_oid, ends}
use Rattle.undo_delta.specs.declared.op.Joined.{Joined}
use Rattle.undo_delta.specs.declared.op.Op.{Op}
use Rattle.undo_delta.specs.declared.op.Op.TheVariants.{CreateVertex, DeleteVertex, AddLabel, RemoveLabel, SetVertexProp, CreateEdge, DeleteEdge, SetEdgeProp}
use Rattle.front_core.specs.Rows.{ObjectRow, no_row, written_row}
use Rattle.front_core.specs.Tables.{Numbered, HasRow, row_of, with_row}
use Rattle.front_core.specs.Objects.{Rewritten, SameIds, Unmoved, row_at}
use Rattle.front_core.specs.declared.objects.Objects.{Objects}
use Rattle.front_core.proofs.Tabled.{same_then, put_back, same_back, both_out, both_back, same_both, both_put}

-- WHAT AN EDGE'S WRITE TOUCHES

of_vertex : (b : Bool) (from to u : VertexId) (e : EdgeId) →
    list_any (same_oid (Vertex u)) (cond b (Vertex from ∷ Edge e ∷ []) (Vertex from ∷ Vertex to ∷ Edge e ∷ [])) ≡ cond b (nat_eq u.0 from.0) (nat_eq u.0 from.0 || nat_eq u.0 to.0)
of_vertex true from to u e = rest (nat_eq u.0 from.0)
  where
    rest : (x : Bool) → (x || (false || false)) ≡ x
    rest true = refl
    rest false = refl
of_vertex false from to u e = rest (nat_eq u.0 from.0) (nat_eq u.0 to.0)
  where
    rest : (x y : Bool) → (x || (y || (false || false))) ≡ (x || y)
    rest true y = refl
    rest false true = refl
    rest false false = refl

of_edge : (b : Bool) (from to : VertexId) (e f : EdgeId) →
    list_any (same_oid (Edge f)) (cond b (Vertex from ∷ Edge e ∷ []) (Vertex from ∷ Vertex to ∷ Edge e ∷ [])) ≡ nat_eq f.0 e.0
of_edge true from to e f = rest (nat_eq f.0 e.0)
  where
    rest : (x : Bool) → (false || (x || false)) ≡ x
    rest true = refl
    rest false = refl
of_edge false from to e f = rest (nat_eq f.0 e.0)
  where
    rest : (x : Bool) → (false || (false || (x || false))) ≡ x
    rest true = refl
    rest false = refl

-- whether a vertex is an end of the edge
pub is_end : Joined → ℕ → Bool
is_end j u = cond (nat_eq j.from.0 j.to.0) (nat_eq u j.from.0) (nat_eq u j.from.0 || nat_eq u j.to.0)

some_same : {a b : Joined} → Some a ≡ Some b → a ≡ b
some_same same = cc

pub touches_end : (op : Op) (j : Joined) (u : VertexId) → joined op ≡ Some j → is_touched op (Vertex u) ≡ is_end j u.0
unfolding is_end
touches_end (CreateEdge e from kind to) j u is = of_vertex (nat_eq from.0 to.0) from to u e ∙ ap (λ (k : Joined). is_end k u.0) (some_same is)
touches_end (DeleteEdge e from to) j u is = of_vertex (nat_eq from.0 to.0) from to u e ∙ ap (λ (k : Joined). is_end k u.0) (some_same is)
touches_end (CreateVertex v) j u is = absurd cc
touches_end (DeleteVertex v) j u is = absurd cc
touches_end (AddLabel v name) j u is = absurd cc
touches_end (RemoveLabel v name) j u is = absurd cc
touches_end (SetVertexProp v name value) j u is = absurd cc
touches_end (SetEdgeProp e name value) j u is = absurd cc

pub touches_edge : (op : Op) (j : Joined) (f : EdgeId) → joined op ≡ Some j → is_touched op (Edge f) ≡ nat_eq f.0 j.edge.0
touches_edge (CreateEdge e from kind to) j f is = of_edge (nat_eq from.0 to.0) from to e f ∙ ap (λ (k : Joined). nat_eq f.0 k.edge.0) (some_same is)
touches_edge (DeleteEdge e from to) j f is = of_edge (nat_eq from.0 to.0) from to e f ∙ ap (λ (k : Joined). nat_eq f.0 k.edge.0) (some_same is)
touches_edge (CreateVertex v) j f is = absurd cc
touches_edge (DeleteVertex v) j f is = absurd cc
touches_edge (AddLabel v name) j f is = absurd cc
touches_edge (RemoveLabel v name) j f is = absurd cc
touches_edge (SetVertexProp v name value) j f is = absurd cc
touches_edge (SetEdgeProp e name value) j f is = absurd cc

itself : (n : ℕ) → nat_eq n n ≡ true
itself n = grind (arith, nat_tests)

equal : (a b : ℕ) → nat_eq a b ≡ true → a ≡ b
equal a b h = grind (arith, nat_tests)

same_number : (a b : ℕ) → a ≡ b → nat_eq a b ≡ true
same_number a b h = grind (arith, nat_tests)

other_number : (a b : ℕ) → a ≢ b → nat_eq a b ≡ false
other_number a b h = grind (arith, nat_tests, h)

left_true : (b : Bool) → (true || b) ≡ true
left_true b = refl

right_true : (b : Bool) → (b || true) ≡ true
right_true true = refl
right_true false = refl

module _ (op : Op) (j : Joined) (is : joined op ≡ Some j) where
  pub start_touched : is_touched op (Vertex j.from) ≡ true
  unfolding is_end
  start_touched = touches_end op j j.from is ∙ by_loop (nat_eq j.from.0 j.to.0)
    where
      by_loop : (b : Bool) → cond b (nat_eq j.from.0 j.from.0) (nat_eq j.from.0 j.from.0 || nat_eq j.from.0 j.to.0) ≡ true
      by_loop true = itself j.from.0
      by_loop false = ap (λ c. c || nat_eq j.from.0 j.to.0) (itself j.from.0)

  pub edge_touched : is_touched op (Edge j.edge) ≡ true
  edge_touched = touches_edge op j j.edge is ∙ itself j.edge.0

  pub end_touched : j.from.0 ≢ j.to.0 → is_touched op (Vertex j.to) ≡ true
  unfolding is_end
  end_touched ne =
      touches_end op j j.to is
      ∙ ap (λ b. cond b (nat_eq j.to.0 j.from.0) (nat_eq j.to.0 j.from.0 || nat_eq j.to.0 j.to.0)) (other_number j.from.0 j.to.0 ne)
      ∙ ap (λ c. nat_eq j.to.0 j.from.0 || c) (itself j.to.0) ∙ right_true (nat_eq j.to.0 j.from.0)

-- A LOOP

module _ (o : Objects) (caller start : ℕ) (op : Op) (j : Joined) (is : joined op ≡ Some j) (same : j.from.0 ≡ j.to.0) (has_end : HasRow o.vertices j.from.0) (has_edge : HasRow o.edges j.edge.0) where
  abbrev with_loop : ObjectRow → ObjectRow → Objects
  with_loop r s = record { vertices = with_row (with_row o.vertices j.from.0 no_row) j.from.0 r; edges = with_row (with_row o.edges j.edge.0 no_row) j.edge.0 s }

  pub loop_unmoved : Unmoved o (with_loop (row_at o (Vertex j.from)) (row_at o (Edge j.edge)))
  loop_unmoved = record { rows = at; ids = record { vertices = same_back o.vertices j.from.0 _ has_end; edges = same_back o.edges j.edge.0 _ has_edge } }
    where
      still : (t : Numbered) (n m : ℕ) (b : Bool) → nat_eq m n ≡ b → cond b (row_of t n) (row_of t m) ≡ row_of t m
      still t n m true e = ap (row_of t) (sym (equal m n e))
      still t n m false e = refl

      at : (y : Oid) → row_at (with_loop (row_at o (Vertex j.from)) (row_at o (Edge j.edge))) y ≡ row_at o y
      at (Vertex u) = put_back o.vertices j.from.0 u.0 _ has_end ∙ still o.vertices j.from.0 u.0 (nat_eq u.0 j.from.0) refl
      at (Edge f) = put_back o.edges j.edge.0 f.0 _ has_edge ∙ still o.edges j.edge.0 f.0 (nat_eq f.0 j.edge.0) refl

  pub loop_rewritten : Rewritten o (with_loop (written_row caller start op (Vertex j.from) (row_at o (Vertex j.from))) (written_row caller start op (Edge j.edge) (row_at o (Edge j.edge)))) caller start op
  unfolding is_end
  loop_rewritten = record { rows = at; ids = record { vertices = same_back o.vertices j.from.0 _ has_end; edges = same_back o.edges j.edge.0 _ has_edge } }
    where
      vertex_done : (u : VertexId) (b : Bool) → nat_eq u.0 j.from.0 ≡ b → cond b (written_row caller start op (Vertex j.from) (row_at o (Vertex j.from))) (row_at o (Vertex u)) ≡ cond b (written_row caller start op (Vertex u) (row_at o (Vertex u))) (row_at o (Vertex u))
      vertex_done u true e = ap (λ n. written_row caller start op (Vertex (record { 0 = n })) (row_at o (Vertex (record { 0 = n })))) (sym (equal u.0 j.from.0 e))
      vertex_done u false e = refl

      edge_done : (f : EdgeId) (b : Bool) → nat_eq f.0 j.edge.0 ≡ b → cond b (written_row caller start op (Edge j.edge) (row_at o (Edge j.edge))) (row_at o (Edge f)) ≡ cond b (written_row caller start op (Edge f) (row_at o (Edge f))) (row_at o (Edge f))
      edge_done f true e = ap (λ n. written_row caller start op (Edge (record { 0 = n })) (row_at o (Edge (record { 0 = n })))) (sym (equal f.0 j.edge.0 e))
      edge_done f false e = refl

      is_loop_end : (u : VertexId) → is_touched op (Vertex u) ≡ nat_eq u.0 j.from.0
      is_loop_end u = touches_end op j u is ∙ ap (λ b. cond b (nat_eq u.0 j.from.0) (nat_eq u.0 j.from.0 || nat_eq u.0 j.to.0)) (same_number j.from.0 j.to.0 same)

      at : (y : Oid) → row_at (with_loop (written_row caller start op (Vertex j.from) (row_at o (Vertex j.from))) (written_row caller start op (Edge j.edge) (row_at o (Edge j.edge)))) y ≡ cond (is_touched op y) (written_row caller start op y (row_at o y)) (row_at o y)
      at (Vertex u) = put_back o.vertices j.from.0 u.0 _ has_end ∙ vertex_done u (nat_eq u.0 j.from.0) refl ∙ ap (λ b. cond b (written_row caller start op (Vertex u) (row_at o (Vertex u))) (row_at o (Vertex u))) (sym (is_loop_end u))
      at (Edge f) = put_back o.edges j.edge.0 f.0 _ has_edge ∙ edge_done f (nat_eq f.0 j.edge.0) refl ∙ ap (λ b. cond b (written_row caller start op (Edge f) (row_at o (Edge f))) (row_at o (Edge f))) (sym (touches_edge op j f is))

-- AN EDGE BETWEEN TWO VERTICES

module _ (o : Objects) (caller start : ℕ) (op : Op) (j : Joined) (is : joined op ≡ Some j) (ne : j.from.0 ≢ j.to.0) (has_from : HasRow o.vertices j.from.0) (has_to : HasRow o.vertices j.to.0) (has_edge : HasRow o.edges j.edge.0) where
  abbrev with_three : ObjectRow → ObjectRow → ObjectRow → Objects
  with_three r s q = record { vertices = both_back o.vertices j.from.0 j.to.0 r s; edges = with_row (with_row o.edges j.edge.0 no_row) j.edge.0 q }

  pub edge_unmoved : Unmoved o (with_three (row_at o (Vertex j.from)) (row_at o (Vertex j.to)) (row_at o (Edge j.edge)))
  edge_unmoved = record { rows = at; ids = record { vertices = same_both o.vertices j.from.0 j.to.0 _ _ has_from has_to; edges = same_back o.edges j.edge.0 _ has_edge } }
    where
      still : (t : Numbered) (n m : ℕ) (b : Bool) → nat_eq m n ≡ b → cond b (row_of t n) (row_of t m) ≡ row_of t m
      still t n m true e = ap (row_of t) (sym (equal m n e))
      still t n m false e = refl

      at : (y : Oid) → row_at (with_three (row_at o (Vertex j.from)) (row_at o (Vertex j.to)) (row_at o (Edge j.edge))) y ≡ row_at o y
      at (Vertex u) =
          both_put o.vertices j.from.0 j.to.0 _ _ has_from has_to u.0
          ∙ ap (cond (nat_eq u.0 j.to.0) (row_at o (Vertex j.to))) (still o.vertices j.from.0 u.0 (nat_eq u.0 j.from.0) refl)
          ∙ still o.vertices j.to.0 u.0 (nat_eq u.0 j.to.0) refl
      at (Edge f) = put_back o.edges j.edge.0 f.0 _ has_edge ∙ still o.edges j.edge.0 f.0 (nat_eq f.0 j.edge.0) refl

  written : Oid → ObjectRow
  written y = written_row caller start op y (row_at o y)

  pub edge_rewritten : Rewritten o (with_three (written_row caller start op (Vertex j.from) (row_at o (Vertex j.from))) (written_row caller start op (Vertex j.to) (row_at o (Vertex j.to))) (written_row caller start op (Edge j.edge) (row_at o (Edge j.edge)))) caller start op
  unfolding written is_end
  edge_rewritten = record { rows = at; ids = record { vertices = same_both o.vertices j.from.0 j.to.0 _ _ has_from has_to; edges = same_back o.edges j.edge.0 _ has_edge } }
    where
      vertex_is : (u v : VertexId) → nat_eq u.0 v.0 ≡ true → written (Vertex v) ≡ written (Vertex u)
      vertex_is u v e = ap (λ n. written (Vertex (record { 0 = n }))) (sym (equal u.0 v.0 e))

      edge_is : (f g : EdgeId) → nat_eq f.0 g.0 ≡ true → written (Edge g) ≡ written (Edge f)
      edge_is f g e = ap (λ n. written (Edge (record { 0 = n }))) (sym (equal f.0 g.0 e))

      vertex_done : (u : VertexId) (x y : Bool) → nat_eq u.0 j.from.0 ≡ x → nat_eq u.0 j.to.0 ≡ y → cond y (written (Vertex j.to)) (cond x (written (Vertex j.from)) (row_at o (Vertex u))) ≡ cond (x || y) (written (Vertex u)) (row_at o (Vertex u))
      vertex_done u true true ex ey = vertex_is u j.to ey
      vertex_done u false true ex ey = vertex_is u j.to ey
      vertex_done u true false ex ey = vertex_is u j.from ex
      vertex_done u false false ex ey = refl

      edge_done : (f : EdgeId) (b : Bool) → nat_eq f.0 j.edge.0 ≡ b → cond b (written (Edge j.edge)) (row_at o (Edge f)) ≡ cond b (written (Edge f)) (row_at o (Edge f))
      edge_done f true e = edge_is f j.edge e
      edge_done f false e = refl

      is_either : (u : VertexId) → is_touched op (Vertex u) ≡ (nat_eq u.0 j.from.0 || nat_eq u.0 j.to.0)
      is_either u = touches_end op j u is ∙ ap (λ b. cond b (nat_eq u.0 j.from.0) (nat_eq u.0 j.from.0 || nat_eq u.0 j.to.0)) (other_number j.from.0 j.to.0 ne)

      at : (y : Oid) → row_at (with_three (written (Vertex j.from)) (written (Vertex j.to)) (written (Edge j.edge))) y ≡ cond (is_touched op y) (written y) (row_at o y)
      at (Vertex u) =
          both_put o.vertices j.from.0 j.to.0 _ _ has_from has_to u.0
          ∙ vertex_done u (nat_eq u.0 j.from.0) (nat_eq u.0 j.to.0) refl refl
          ∙ ap (λ b. cond b (written (Vertex u)) (row_at o (Vertex u))) (sym (is_either u))
      at (Edge f) = put_back o.edges j.edge.0 f.0 _ has_edge ∙ edge_done f (nat_eq f.0 j.edge.0) refl ∙ ap (λ b. cond b (written (Edge f)) (row_at o (Edge f))) (sym (touches_edge op j f is))

pub ids_then : (a b c : Objects) → SameIds a b → SameIds b c → SameIds a c
ids_then a b c x y = record {
  vertices = same_then a.vertices b.vertices c.vertices x.vertices y.vertices;
  edges = same_then a.edges b.edges c.edges x.edges y.edges;
}
