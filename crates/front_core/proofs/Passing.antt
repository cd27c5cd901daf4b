-- What a search passes is dead.
use Rattle.std.proofs.Common.{◌≡◌, ℕ, [], ◌<◌, ◌≤◌, ◌-◌, true, cond, get_or, refl, sym, ap, ◌∙◌, arith}
use Rattle.std.specs.Prelude.{nat_lt}
use Rattle.std.proofs.lemmas.Bool.Decides.{nat_tests}
use Rattle.graph_value.specs.declared.id.Oid.TheVariants.{Vertex, Edge}
use Rattle.graph_record.specs.declared.object.Object.{Object}
use Rattle.graph_record.specs.declared.object.Object.TheVariants as object
use Rattle.front_core.specs.Outlines.{is_absent, outline_of}
use Rattle.graph_record.specs.Graph.{object_at, is_dead, IsCoherent}
use Rattle.world_model.specs.declared.event.Kind.{Kind}
use Rattle.world_model.specs.declared.event.Kind.TheVariants as kind
use Rattle.world_model.specs.declared.event.When.{When}
use Rattle.world_model.specs.declared.event.When.TheVariants.{Own, At}
use Rattle.world_model.specs.Views.{graph_of, oid_of}
use Rattle.world_model.specs.World.{World, Txn}
use Rattle.world_model.proofs.ObjectViews.{beyond_counter}
use Rattle.world_model.proofs.Views.{instant_coherent, view_coherent}
use Rattle.front_core.specs.Objects.{range_of, row_at}
use Rattle.front_core.specs.Opened.{Opened}
use Rattle.front_core.specs.Rows.{no_row}
use Rattle.front_core.specs.Tables.{Numbered, row_of}
use Rattle.front_core.specs.declared.state.State.{State}
use Rattle.history_keeper.specs.Rows.{empty_row, row_of as history_row}
use Rattle.front_core.specs.History.{NumberedHistories, history_of}
use Rattle.front_core.proofs.Stepping.{nothing_at, nothing_seen}

pub absent_dead : (o : Object) → is_absent (outline_of o) ≡ is_dead o
absent_dead object.Dead = refl
absent_dead (object.Vertex r) = refl
absent_dead (object.Edge r) = refl

module _ (s : State) (w : World) (c start : ℕ) (p : Txn) (o : Opened s w c start p) (when : When) where
  less : (a b : ℕ) → a < b → nat_lt a b ≡ true
  less a b h = grind (arith, nat_tests)

  below : (t : Numbered) (m : ℕ) → m < t.first → no_row ≡ row_of t m
  below t m lt = sym (ap (λ b. cond b no_row (get_or t.rows (m - t.first) no_row)) (less m t.first lt))

  bare : (h : NumberedHistories) (m : ℕ) → m < h.first → (history_of h m).blocks ≡ []
  bare h m lt = ap (λ b. (cond b empty_row (history_row h.rows (m - h.first))).blocks) (less m h.first lt)

  -- below the first row
  nothing_below : (k : Kind) (m : ℕ) (t : When) → m < (range_of s.objects k).0 → object.Dead ≡ object_at (graph_of w p t) (oid_of k m)
  nothing_below kind.Vertex m Own lt = nothing_seen s w c start p o (Vertex (record { 0 = m })) (below s.objects.vertices m lt)
  nothing_below kind.Edge m Own lt = nothing_seen s w c start p o (Edge (record { 0 = m })) (below s.objects.edges m lt)
  nothing_below kind.Vertex m (At t) lt = nothing_at s w o.keeps (Vertex (record { 0 = m })) t (below s.objects.vertices m lt) (bare s.histories.vertices m (omega (arith, lt, o.keeps.alike.vertices)))
  nothing_below kind.Edge m (At t) lt = nothing_at s w o.keeps (Edge (record { 0 = m })) t (below s.objects.edges m lt) (bare s.histories.edges m (omega (arith, lt, o.keeps.alike.edges)))

  pub below_first : (k : Kind) (m : ℕ) → m < (range_of s.objects k).0 → is_dead (object_at (graph_of w p when) (oid_of k m)) ≡ true
  below_first k m lt = ap is_dead (sym (nothing_below k m when lt))

  -- and past the last
  pub past_last : (k : Kind) (m : ℕ) → (range_of s.objects k).1 ≤ m → is_dead (object_at (graph_of w p when) (oid_of k m)) ≡ true
  past_last kind.Vertex m le = beyond_counter w c p when kind.Vertex m o.keeps.ordered o.found (omega (arith, o.keeps.vertices, le))
  past_last kind.Edge m le = beyond_counter w c p when kind.Edge m o.keeps.ordered o.found (omega (arith, o.keeps.edges, le))

  pub graph_coherent : IsCoherent (graph_of w p when)
  graph_coherent = by_when when
    where
      by_when : (t : When) → IsCoherent (graph_of w p t)
      by_when Own = view_coherent w c p o.keeps.ordered o.found
      by_when (At t) = instant_coherent w o.keeps.ordered t
