-- All objects together have as many deltas as the writes of the commits left.
use Rattle.std.proofs.Common.{◌≡◌, ℕ, ◌+◌, List, [], ◌∷◌, ◌++◌, Bool, true, false, not, ◌&&◌, ◌||◌, cond, length, refl, sym, ap, subst, ◌∙◌, arith}
use Rattle.std.specs.Prelude.{nat_eq}
use Rattle.std.specs.List.{list_any, list_all}
use Rattle.std.proofs.lemmas.Bool.{false≢true}
use Rattle.std.proofs.lemmas.Bool.Decides.{nat_tests}
use Rattle.std.proofs.lemmas.List.{length-append, length-map, length-reverse}
use Rattle.std.proofs.lemmas.List.Sums.{sum_by-cons, sum_by-append}
use Rattle.graph_value.specs.Value.{same_value}
use Rattle.graph_value.specs.declared.id.VertexId.{VertexId}
use Rattle.graph_value.specs.declared.id.EdgeId.{EdgeId}
use Rattle.graph_value.specs.declared.id.Oid.{Oid}
use Rattle.graph_value.specs.declared.id.Oid.TheVariants.{Vertex, Edge}
use Rattle.graph_record.specs.Graph.{Graph, empty_graph, object_at}
use Rattle.undo_law.specs.declared.dated.Dated.{Dated}
use Rattle.undo_delta.specs.Change.{deltas_of, no_delta, one_delta, end_deltas, has_label, value_at, kept}
use Rattle.undo_delta.specs.Touch.{touches, ends, same_oid, is_touched}
use Rattle.undo_delta.specs.declared.delta.Delta.{Delta}
use Rattle.undo_delta.specs.declared.delta.Delta.TheVariants as delta
use Rattle.undo_delta.specs.declared.op.Op.{Op}
use Rattle.undo_delta.specs.declared.op.Op.TheVariants.{CreateVertex, DeleteVertex, AddLabel, RemoveLabel, SetVertexProp, CreateEdge, DeleteEdge, SetEdgeProp}
use Rattle.world_model.specs.Counts.{deltas_left, all_left}
use Rattle.world_model.specs.Op.{apply, apply_all, is_possible, changes, are_sound, is_given, are_below}
use Rattle.world_model.specs.Placement.{chain, history, sum_over, stats_of}
use Rattle.world_model.specs.Undo.{both, left_by, left_by_all, dated, left_since, undo_list}
use Rattle.world_model.specs.World.{World, Commit, InOrder, ops_of, cut_of}
use Rattle.world_model.proofs.Folds.{and_left_true, and_right_true, same_itself, same_id, are_sound-append, are_below-append}
use Rattle.world_model.proofs.Objects.{or_false}
use Rattle.world_model.proofs.Parted.{split, undo_descends}
use Rattle.world_model.proofs.Sums.{sum_same, sum_grows, sum_of_both, sum_of_none}

-- ---- one write, at one object

-- 1 at one object, and 0 at each other
abbrev at_one : Oid → Oid → ℕ
at_one x y = cond (same_oid y x) 1 0

none_where : (b : Bool) (d : Delta) → not b ≡ true → length (both (cond b no_delta (one_delta d))) ≡ 1
none_where true d h = absurd (false≢true h)
none_where false d h = refl

one_where : (b : Bool) (d : Delta) → b ≡ true → length (both (cond b (one_delta d) no_delta)) ≡ 1
one_where true d h = refl
one_where false d h = absurd (false≢true h)

-- a write of one object
left_at_one : (op : Op) (x : Oid) (g : Graph) → touches op ≡ x ∷ [] → length (both (deltas_of op x (object_at g x))) ≡ 1 → (y : Oid) → length (left_by op y (object_at g y)) ≡ at_one x y
left_at_one op x g only one y = by_test (same_oid y x) refl
  where
    touched : is_touched op y ≡ same_oid y x
    touched = ap (λ xs. list_any (same_oid y) xs) only ∙ or_false (same_oid y x)

    by_test : (b : Bool) → same_oid y x ≡ b → length (left_by op y (object_at g y)) ≡ at_one x y
    by_test true e =
        ap (λ b. length (cond b (both (deltas_of op y (object_at g y))) [])) (touched ∙ e)
        ∙ ap (λ z. length (both (deltas_of op z (object_at g z)))) (same_id y x e)
        ∙ one
        ∙ sym (ap (λ (b : Bool). cond b 1 0) e)
    by_test false e = ap (λ b. length (cond b (both (deltas_of op y (object_at g y))) [])) (touched ∙ e) ∙ sym (ap (λ (b : Bool). cond b 1 0) e)

-- a write of an edge, at a vertex
at_ends : (v from to : VertexId) (e : EdgeId) (out come : Delta) →
    length (cond (list_any (same_oid (Vertex v)) (ends from to (Edge e ∷ []))) (both (end_deltas (nat_eq v.0 from.0) (nat_eq v.0 to.0) out come)) [])
    ≡ (at_one (Vertex from) (Vertex v) + at_one (Vertex to) (Vertex v)) + 0
at_ends v from to e out come = by_loop (nat_eq from.0 to.0) refl
  where
    one : (a b : Bool) → a ≡ b → length (cond (a || (false || false)) (both (end_deltas a b out come)) []) ≡ (cond a 1 0 + cond b 1 0) + 0
    one true true s = refl
    one true false s = absurd (false≢true (sym s))
    one false true s = absurd (false≢true s)
    one false false s = refl

    two : (a b : Bool) → length (cond (a || (b || (false || false))) (both (end_deltas a b out come)) []) ≡ (cond a 1 0 + cond b 1 0) + 0
    two true true = refl
    two true false = refl
    two false true = refl
    two false false = refl

    alike : (a b c : ℕ) → nat_eq b c ≡ true → nat_eq a b ≡ nat_eq a c
    alike a b c h = grind (arith, nat_tests)

    by_loop : (b : Bool) → nat_eq from.0 to.0 ≡ b →
        length (cond (list_any (same_oid (Vertex v)) (cond b (Vertex from ∷ Edge e ∷ []) (Vertex from ∷ Vertex to ∷ Edge e ∷ []))) (both (end_deltas (nat_eq v.0 from.0) (nat_eq v.0 to.0) out come)) [])
        ≡ (at_one (Vertex from) (Vertex v) + at_one (Vertex to) (Vertex v)) + 0
    by_loop true same = one (nat_eq v.0 from.0) (nat_eq v.0 to.0) (alike v.0 from.0 to.0 same)
    by_loop false same = two (nat_eq v.0 from.0) (nat_eq v.0 to.0)

-- and at an edge
at_edge : (f e : EdgeId) (from to : VertexId) (d : Delta) →
    length (cond (list_any (same_oid (Edge f)) (ends from to (Edge e ∷ []))) (both (one_delta d)) []) ≡ (0 + 0) + at_one (Edge e) (Edge f)
at_edge f e from to d = by_loop (nat_eq from.0 to.0)
  where
    as_edge : (a : Bool) → length (cond (a || false) (both (one_delta d)) []) ≡ (0 + 0) + cond a 1 0
    as_edge true = refl
    as_edge false = refl

    by_loop : (b : Bool) → length (cond (list_any (same_oid (Edge f)) (cond b (Vertex from ∷ Edge e ∷ []) (Vertex from ∷ Vertex to ∷ Edge e ∷ []))) (both (one_delta d)) []) ≡ (0 + 0) + at_one (Edge e) (Edge f)
    by_loop true = as_edge (nat_eq f.0 e.0)
    by_loop false = as_edge (nat_eq f.0 e.0)

abbrev at_three : VertexId → VertexId → EdgeId → Oid → ℕ
at_three from to e y = (at_one (Vertex from) y + at_one (Vertex to) y) + at_one (Edge e) y

left_at_new : (e : EdgeId) (from to : VertexId) (kind : List ℕ) (g : Graph) (y : Oid) → length (left_by (CreateEdge e from kind to) y (object_at g y)) ≡ at_three from to e y
left_at_new e from to kind g (Vertex v) = at_ends v from to e (delta.RemoveOutEdge e) (delta.RemoveInEdge e)
left_at_new e from to kind g (Edge f) = at_edge f e from to delta.DeleteObject

left_at_lost : (e : EdgeId) (from to : VertexId) (g : Graph) (y : Oid) → length (left_by (DeleteEdge e from to) y (object_at g y)) ≡ at_three from to e y
left_at_lost e from to g (Vertex v) = at_ends v from to e (delta.AddOutEdge e) (delta.AddInEdge e)
left_at_lost e from to g (Edge f) = at_edge f e from to (delta.RecreateObject (object_at g (Edge f)))

-- ---- one write, at all objects

module _ (w : World) where
  abbrev IsGiven : Oid → Type 0
  IsGiven x = is_given w.vertices w.edges x ≡ true

  one_at_one : (x : Oid) → IsGiven x → sum_over w (at_one x) ≡ 1
  one_at_one x given =
      sum_grows w (λ y. 0) (at_one x) x 1 given (ap (λ (b : Bool). cond b 1 0) (same_itself x)) (λ y at other. ap (λ (b : Bool). cond b 1 0) other)
      ∙ ap (λ n. n + 1) (sum_of_none w)

  three_at_three : (from to : VertexId) (e : EdgeId) → IsGiven (Vertex from) → IsGiven (Vertex to) → IsGiven (Edge e) → sum_over w (at_three from to e) ≡ 3
  three_at_three from to e at_from at_to at_edge =
      sum_of_both w (λ y. at_one (Vertex from) y + at_one (Vertex to) y) (at_one (Edge e))
      ∙ ap (λ n. n + sum_over w (at_one (Edge e))) (sum_of_both w (at_one (Vertex from)) (at_one (Vertex to)))
      ∙ ap (λ n. (n + sum_over w (at_one (Vertex to))) + sum_over w (at_one (Edge e))) (one_at_one (Vertex from) at_from)
      ∙ ap (λ n. (1 + n) + sum_over w (at_one (Edge e))) (one_at_one (Vertex to) at_to)
      ∙ ap (λ n. 2 + n) (one_at_one (Edge e) at_edge)

  record GivenEnds (from to : VertexId) (e : EdgeId) : Type 0 where
    at_from : IsGiven (Vertex from)
    at_to : IsGiven (Vertex to)
    at_edge : IsGiven (Edge e)

  given_ends : (from to : VertexId) (e : EdgeId) → list_all (is_given w.vertices w.edges) (ends from to (Edge e ∷ [])) ≡ true → GivenEnds from to e
  given_ends from to e all = by_loop (nat_eq from.0 to.0) refl all
    where
      by_loop : (b : Bool) → nat_eq from.0 to.0 ≡ b → list_all (is_given w.vertices w.edges) (cond b (Vertex from ∷ Edge e ∷ []) (Vertex from ∷ Vertex to ∷ Edge e ∷ [])) ≡ true → GivenEnds from to e
      by_loop true same all =
          let first : IsGiven (Vertex from) = and_left_true _ _ all in
          record { at_from = first; at_to = subst IsGiven (same_id (Vertex from) (Vertex to) same) first; at_edge = and_left_true _ true (and_right_true (is_given w.vertices w.edges (Vertex from)) _ all) }
      by_loop false same all =
          let later = and_right_true (is_given w.vertices w.edges (Vertex from)) _ all in
          record { at_from = and_left_true _ _ all; at_to = and_left_true _ _ later; at_edge = and_left_true _ true (and_right_true (is_given w.vertices w.edges (Vertex to)) _ later) }

  only_one : (op : Op) (x : Oid) (g : Graph) → touches op ≡ x ∷ [] → length (both (deltas_of op x (object_at g x))) ≡ 1 → (is_given w.vertices w.edges x && true) ≡ true →
      sum_over w (λ y. length (left_by op y (object_at g y))) ≡ 1
  only_one op x g only one given =
      sum_same w (at_one x) (λ y. length (left_by op y (object_at g y))) (λ y at. left_at_one op x g only one y)
      ∙ one_at_one x (and_left_true _ true given)

  pub one_write : (op : Op) (g : Graph) → list_all (is_given w.vertices w.edges) (touches op) ≡ true → changes op g ≡ true →
      sum_over w (λ y. length (left_by op y (object_at g y))) ≡ deltas_left op
  one_write (CreateVertex v) g given changed = only_one (CreateVertex v) (Vertex v) g refl refl given
  one_write (DeleteVertex v) g given changed = only_one (DeleteVertex v) (Vertex v) g refl refl given
  one_write (AddLabel v name) g given changed = only_one (AddLabel v name) (Vertex v) g refl (none_where (has_label name (object_at g (Vertex v))) (delta.RemoveLabel name) changed) given
  one_write (RemoveLabel v name) g given changed = only_one (RemoveLabel v name) (Vertex v) g refl (one_where (has_label name (object_at g (Vertex v))) (delta.AddLabel name) changed) given
  one_write (SetVertexProp v name value) g given changed =
      let former = value_at name (object_at g (Vertex v)) in
      only_one (SetVertexProp v name value) (Vertex v) g refl (none_where (same_value former (kept value)) (delta.SetProperty (name, former)) changed) given
  one_write (CreateEdge e from kind to) g given changed =
      let all = given_ends from to e given in
      sum_same w (at_three from to e) (λ y. length (left_by (CreateEdge e from kind to) y (object_at g y))) (λ y at. left_at_new e from to kind g y)
      ∙ three_at_three from to e all.at_from all.at_to all.at_edge
  one_write (DeleteEdge e from to) g given changed =
      let all = given_ends from to e given in
      sum_same w (at_three from to e) (λ y. length (left_by (DeleteEdge e from to) y (object_at g y))) (λ y at. left_at_lost e from to g y)
      ∙ three_at_three from to e all.at_from all.at_to all.at_edge
  one_write (SetEdgeProp e name value) g given changed =
      let former = value_at name (object_at g (Edge e)) in
      only_one (SetEdgeProp e name value) (Edge e) g refl (none_where (same_value former (kept value)) (delta.SetProperty (name, former)) changed) given

  -- ---- several writes, and commits

  pub all_writes : (ops : List Op) (g : Graph) → are_below w.vertices w.edges ops ≡ true → are_sound ops g ≡ true → sum_over w (λ x. length (left_by_all ops x g)) ≡ all_left ops
  unfolding are_below are_sound left_by_all
  all_writes [] g below sound = sum_of_none w
  all_writes (op ∷ ops) g below sound =
      let now : Oid → ℕ = λ x. length (left_by op x (object_at g x)) in
      let later : Oid → ℕ = λ x. length (left_by_all ops x (apply op g)) in
      let changed : changes op g ≡ true = and_right_true (is_possible op g) (changes op g) (and_left_true (is_possible op g && changes op g) (are_sound ops (apply op g)) sound) in
      sum_same w (λ x. now x + later x) (λ x. length (left_by op x (object_at g x) ++ left_by_all ops x (apply op g))) (λ x at. length-append (left_by op x (object_at g x)) (left_by_all ops x (apply op g)))
      ∙ sum_of_both w now later
      ∙ ap (λ n. n + sum_over w later) (one_write op g (and_left_true _ (are_below w.vertices w.edges ops) below) changed)
      ∙ ap (λ n. deltas_left op + n) (all_writes ops (apply op g) (and_right_true (list_all (is_given w.vertices w.edges) (touches op)) _ below) (and_right_true (is_possible op g && changes op g) _ sound))
      ∙ sym (sum_by-cons deltas_left op ops)

  all_commits : (cs : List Commit) (g : Graph) → are_below w.vertices w.edges (ops_of cs) ≡ true → are_sound (ops_of cs) g ≡ true → sum_over w (λ x. length (left_since g cs x)) ≡ all_left (ops_of cs)
  unfolding ops_of left_since
  all_commits [] g below sound = sum_of_none w
  all_commits (c ∷ cs) g below sound =
      let now : Oid → ℕ = λ x. length (left_by_all c.ops x g) in
      let later : Oid → ℕ = λ x. length (left_since (apply_all c.ops g) cs x) in
      let both_below = sym (are_below-append w.vertices w.edges c.ops (ops_of cs)) ∙ below in
      let both_sound = sym (are_sound-append c.ops (ops_of cs) g) ∙ sound in
      sum_same w (λ x. now x + later x) (λ x. length (dated c.ts (left_by_all c.ops x g) ++ left_since (apply_all c.ops g) cs x))
      (λ x at.
      length-append (dated c.ts (left_by_all c.ops x g)) (left_since (apply_all c.ops g) cs x)
      ∙ ap (λ n. n + later x) (length-map (left_by_all c.ops x g) (λ d. record { ts = c.ts; delta = d })))
      ∙ sum_of_both w now later
      ∙ ap (λ n. n + sum_over w later) (all_writes c.ops g (and_left_true _ (are_below w.vertices w.edges (ops_of cs)) both_below) (and_left_true _ (are_sound (ops_of cs) (apply_all c.ops g)) both_sound))
      ∙ ap (λ n. all_left c.ops + n) (all_commits cs (apply_all c.ops g) (and_right_true (are_below w.vertices w.edges c.ops) _ both_below) (and_right_true (are_sound c.ops g) _ both_sound))
      ∙ sym (sum_by-append deltas_left c.ops (ops_of cs))

-- ---- the law

pub deltas_counted : (w : World) → InOrder w → sum_over w (λ x. length (undo_list w x)) ≡ all_left (ops_of w.commits)
deltas_counted w o =
    sum_same w (λ x. length (left_since empty_graph w.commits x)) (λ x. length (undo_list w x)) (λ x at. length-reverse (left_since empty_graph w.commits x))
    ∙ all_commits w w.commits empty_graph o.committed_below o.committed_sound

-- each lies in the chain of its object or in its history
pub parts_counted : (w : World) → InOrder w → (stats_of w).chain + (stats_of w).history ≡ all_left (ops_of w.commits)
parts_counted w o =
    sym (sum_of_both w (λ x. length (chain w x)) (λ x. length (history w x)))
    ∙ sum_same w (λ x. length (undo_list w x)) (λ x. length (chain w x) + length (history w x))
    (λ x at.
    sym (length-append (chain w x) (history w x))
    ∙ ap (λ (ds : List (Dated Delta)). length ds) (split (cut_of w x) (undo_list w x) (undo_descends w x o)))
    ∙ deltas_counted w o
