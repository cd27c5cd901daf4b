-- Each object that an allowed write touches has a row, once the number of what it makes was given out.
use Rattle.std.proofs.Common.{◌≡◌, ℕ, ◌+◌, ◌-◌, ◌<◌, ◌≤◌, List, [], ◌∷◌, Some, Bool, true, false, ◌&&◌, ◌||◌, cond, get_or, length, refl, sym, ap, subst, ◌∙◌, arith}
use Rattle.std.specs.Prelude.{nat_eq, nat_lt}
use Rattle.std.proofs.lemmas.Bool.{false≢true}
use Rattle.std.proofs.lemmas.Bool.Decides.{nat_tests}
use Rattle.std.specs.List.{list_all, list_any}
use Rattle.graph_value.specs.declared.id.Oid.{Oid}
use Rattle.graph_value.specs.declared.id.Oid.TheVariants.{Vertex, Edge}
use Rattle.graph_record.specs.Graph.{Graph}
use Rattle.graph_record.specs.declared.object.Object.TheVariants as object
use Rattle.undo_delta.specs.Change as one
use Rattle.undo_delta.specs.Touch.{is_touched, same_oid, touches}
use Rattle.undo_delta.specs.declared.ask.Ask.{Ask}
use Rattle.undo_delta.specs.declared.ask.Ask.TheVariants as ask
use Rattle.undo_delta.specs.declared.op.Op.{Op}
use Rattle.world_model.specs.Asked.{op_of, vertices_made, edges_made}
use Rattle.world_model.specs.Op.{are_below, is_given}
use Rattle.world_model.specs.World.{World, Txn, view_of}
use Rattle.world_model.proofs.Folds.{and_left_true, and_right_true, same_id}
use Rattle.world_model.proofs.Objects.{or_false, touched_edge}
use Rattle.world_model.proofs.Writes.{allowed_given}
use Rattle.front_core.specs.Objects.{Grown, Has, made_edges, made_vertices, row_at}
use Rattle.front_core.specs.Opened.{Allowed, Asked, Opened}
use Rattle.front_core.specs.Rows.{ObjectRow, no_row}
use Rattle.front_core.specs.Tables.{Numbered, next_of, row_of}
use Rattle.front_core.specs.declared.objects.Objects.{Objects}
use Rattle.front_core.specs.declared.state.State.{State}
use Rattle.front_core.proofs.Finding.{equal_of}
use Rattle.front_core.proofs.Written.{made_edges_is, made_vertices_is, possible_here}

all_given : (n m : ℕ) (xs : List Oid) (x : Oid) → list_all (is_given n m) xs ≡ true → list_any (same_oid x) xs ≡ true → is_given n m x ≡ true
all_given n m [] x all any = absurd (false≢true any)
all_given n m (y ∷ ys) x all any = by_test (all_given n m ys x (and_right_true (is_given n m y) _ all)) (same_oid x y) refl any
  where
    by_test : (list_any (same_oid x) ys ≡ true → is_given n m x ≡ true) → (b : Bool) → same_oid x y ≡ b → (b || list_any (same_oid x) ys) ≡ true → is_given n m x ≡ true
    by_test rest true e h = ap (is_given n m) (same_id x y e) ∙ and_left_true (is_given n m y) _ all
    by_test rest false e h = rest h

-- the number that the next object of its kind gets
IsNextOf : World → Oid → Type 0
IsNextOf w (Vertex u) = u.0 ≡ w.vertices
IsNextOf w (Edge f) = f.0 ≡ w.edges

-- what a write may find dead is what it makes
made_only : (w : World) (g : Graph) (a : Ask) (x : Oid) → is_touched (op_of w g a) x ≡ true → one.is_possible (op_of w g a) x object.Dead ≡ true → IsNextOf w x
unfolding IsNextOf
made_only w g ask.CreateVertex (Vertex u) t h = equal_of u.0 w.vertices (sym (or_false (nat_eq u.0 w.vertices)) ∙ t)
made_only w g ask.CreateVertex (Edge f) t h = absurd (false≢true t)
made_only w g (ask.DeleteVertex v) x t h = absurd (false≢true h)
made_only w g (ask.AddLabel v name) x t h = absurd (false≢true h)
made_only w g (ask.RemoveLabel v name) x t h = absurd (false≢true h)
made_only w g (ask.SetVertexProp v name value) x t h = absurd (false≢true h)
made_only w g (ask.CreateEdge from kind to) (Vertex u) t h = absurd (false≢true h)
made_only w g (ask.CreateEdge from kind to) (Edge f) t h = equal_of f.0 w.edges (sym (touched_edge f (record { 0 = w.edges }) from to) ∙ t)
made_only w g (ask.DeleteEdge e) (Vertex u) t h = absurd (false≢true h)
made_only w g (ask.DeleteEdge e) (Edge f) t h = absurd (false≢true h)
made_only w g (ask.SetEdgeProp e name value) x t h = absurd (false≢true h)

below : (t : Numbered) (m : ℕ) → nat_lt m t.first ≡ true → row_of t m ≡ no_row
below t m lt = ap (λ b. cond b no_row (get_or t.rows (m - t.first) no_row)) lt

module _ (s : State) (w : World) (c start : ℕ) (p : Txn) (o : Opened s w c start p) (a : Ask) (write : Op) (asked : Asked w p a write) (allowed : Allowed w p a write) (mid : Objects) (grown : Grown s.objects mid (made_vertices write) (made_edges write)) where
  given : (x : Oid) → is_touched write x ≡ true → is_given (w.vertices + vertices_made a) (w.edges + edges_made a) x ≡ true
  unfolding are_below
  given x touched =
      all_given (w.vertices + vertices_made a) (w.edges + edges_made a) (touches (op_of w (view_of w p) a)) x
      (and_left_true _ _ (allowed_given w c p o.keeps.ordered o.found a allowed.free))
      (ap (λ (z : Op). is_touched z x) (sym asked.is) ∙ touched)

  next_is : (x : Oid) → is_touched write x ≡ true → row_at s.objects x ≡ no_row → IsNextOf w x
  next_is x touched none =
      made_only w (view_of w p) a x (ap (λ (z : Op). is_touched z x) (sym asked.is) ∙ touched)
      (ap (λ (z : Op). one.is_possible z x object.Dead) (sym asked.is) ∙ ap (λ (r : ObjectRow). one.is_possible write x r.newest) (sym none) ∙ possible_here s w c start p o a write asked allowed x touched)

  pub there : (x : Oid) → is_touched write x ≡ true → Has mid x
  unfolding IsNextOf
  there (Vertex u) touched = (from (nat_lt u.0 s.objects.vertices.first) refl, to)
    where
      from : (b : Bool) → nat_lt u.0 s.objects.vertices.first ≡ b → mid.vertices.first ≤ u.0
      from true lt = omega (arith, grown.first_vertex, o.keeps.vertices, next_is (Vertex u) touched (below s.objects.vertices u.0 lt))
      from false ge = let at : s.objects.vertices.first ≤ u.0 = grind (arith, nat_tests, ge) in omega (arith, grown.first_vertex, at)

      to : u.0 < next_of mid.vertices
      to =
          let below_all : u.0 < w.vertices + vertices_made a = grind (arith, nat_tests, given (Vertex u) touched) in
          omega (arith, below_all, grown.first_vertex, grown.vertices, o.keeps.vertices, ap made_vertices asked.is, made_vertices_is w (view_of w p) a)
  there (Edge f) touched = (from (nat_lt f.0 s.objects.edges.first) refl, to)
    where
      from : (b : Bool) → nat_lt f.0 s.objects.edges.first ≡ b → mid.edges.first ≤ f.0
      from true lt = omega (arith, grown.first_edge, o.keeps.edges, next_is (Edge f) touched (below s.objects.edges f.0 lt))
      from false ge = let at : s.objects.edges.first ≤ f.0 = grind (arith, nat_tests, ge) in omega (arith, grown.first_edge, at)

      to : f.0 < next_of mid.edges
      to =
          let below_all : f.0 < w.edges + edges_made a = grind (arith, nat_tests, given (Edge f) touched) in
          omega (arith, below_all, grown.first_edge, grown.edges, o.keeps.edges, ap made_edges asked.is, made_edges_is w (view_of w p) a)
