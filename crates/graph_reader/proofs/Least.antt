-- The first vertex above another one is the least that is alive there, since vertices ascend.
use Rattle.std.proofs.Common.{◌≡◌, ℕ, ◌≤◌, ◌<◌, List, [], ◌∷◌, Option, Some, None, Bool, true, false, cond, refl, sym, ap, subst, ◌∙◌, arith, rules}
use Rattle.std.specs.Prelude.{nat_eq, nat_lt, is_some}
use Rattle.std.specs.FinMap.{find, is_sorted}
use Rattle.std.specs.FinMap.Entries.{below_all}
use Rattle.std.specs.Ordering.{nat_cmp, is_eq, is_lt}
use Rattle.std.proofs.lemmas.Bool.{false≢true, and_parts}
use Rattle.std.proofs.lemmas.Bool.Decides.{nat_tests}
use Rattle.graph_value.specs.declared.id.VertexId.{VertexId}
use Rattle.graph_record.specs.declared.object.VertexRecord.{VertexRecord}
use Rattle.graph_reader.specs.Alive.{first_above, is_above, is_alive, next_vertex_in, IsLeastAbove}
use Rattle.graph_record.specs.Graph.{Graph, IsCoherent, vertex_cmp}

tied : (a b : ℕ) → is_eq (nat_cmp a b) ≡ nat_eq a b
tied a b = grind (arith, rules)

less : (a b : ℕ) → is_lt (nat_cmp a b) ≡ nat_lt a b
less a b = grind (arith, rules)

itself : (n : ℕ) → is_eq (nat_cmp n n) ≡ true
itself n = let e : nat_eq n n ≡ true = grind (arith, nat_tests) in tied n n ∙ e

same_number : (a b : ℕ) → is_eq (nat_cmp a b) ≡ true → a ≡ b
same_number a b h = let e : nat_eq a b ≡ true = sym (tied a b) ∙ h in grind (arith, nat_tests)

some_is : (a b : VertexId) → Some a ≡ Some b → a ≡ b
some_is a b h = cc

either : (b : Bool) (r : VertexRecord) (o : Option VertexRecord) → is_some o ≡ true → is_some (cond b (Some r) o) ≡ true
either true r o h = refl
either false r o h = h

-- what is above a vertex isn't one that isn't
apart : (after : Option VertexId) (w u : VertexId) → is_above after w ≡ true → is_above after u ≡ false → is_eq (nat_cmp w.0 u.0) ≡ false
apart None w u p q = absurd (false≢true (sym q))
apart (Some a) w u p q = let e : nat_eq w.0 u.0 ≡ false = grind (arith, nat_tests) in tied w.0 u.0 ∙ e

module _ (after : Option VertexId) where
  found_above : (es : List (VertexId × VertexRecord)) (v : VertexId) → first_above after es ≡ Some v → is_above after v ≡ true
  found_above [] v h = absurd cc
  found_above (e ∷ es) v h =
      elim (is_above after e.0) as (λ b. is_above after e.0 ≡ b → cond b (Some e.0) (first_above after es) ≡ Some v → is_above after v ≡ true) [
        | true ↦ λ p s. subst (λ (u : VertexId). is_above after u ≡ true) (some_is e.0 v s) p
        | false ↦ λ p s. found_above es v s
      ] refl h

  found_alive : (es : List (VertexId × VertexRecord)) (v : VertexId) → first_above after es ≡ Some v → is_some (find vertex_cmp v es) ≡ true
  found_alive [] v h = absurd cc
  found_alive (e ∷ es) v h =
      elim (is_above after e.0) as (λ b. cond b (Some e.0) (first_above after es) ≡ Some v → is_some (cond (is_eq (nat_cmp v.0 e.0.0)) (Some e.1) (find vertex_cmp v es)) ≡ true) [
        | true ↦ λ s. subst (λ (u : VertexId). is_some (cond (is_eq (nat_cmp u.0 e.0.0)) (Some e.1) (find vertex_cmp u es)) ≡ true) (some_is e.0 v s) (ap (λ b. is_some (cond b (Some e.1) (find vertex_cmp e.0 es))) (itself e.0.0))
        | false ↦ λ s. either (is_eq (nat_cmp v.0 e.0.0)) e.1 (find vertex_cmp v es) (found_alive es v s)
      ] h

  none_above : (es : List (VertexId × VertexRecord)) → first_above after es ≡ None → (w : VertexId) → is_above after w ≡ true → is_some (find vertex_cmp w es) ≡ false
  none_above [] h w up = refl
  none_above (e ∷ es) h w up =
      elim (is_above after e.0) as (λ b. is_above after e.0 ≡ b → cond b (Some e.0) (first_above after es) ≡ None → is_some (cond (is_eq (nat_cmp w.0 e.0.0)) (Some e.1) (find vertex_cmp w es)) ≡ false) [
        | true ↦ λ p s. absurd cc
        | false ↦ λ p s. ap (λ b. is_some (cond b (Some e.1) (find vertex_cmp w es))) (apart after w e.0 up p) ∙ none_above es s w up
      ] refl h

-- what is listed behind a vertex is above it
behind : (a : VertexId) (es : List (VertexId × VertexRecord)) (w : VertexId) → below_all vertex_cmp a es ≡ true → is_some (find vertex_cmp w es) ≡ true → a.0 < w.0
behind a [] w up there = absurd (false≢true there)
behind a (e ∷ es) w up there =
    let parts = and_parts (is_lt (vertex_cmp a e.0)) (below_all vertex_cmp a es) up in
    elim (is_eq (nat_cmp w.0 e.0.0)) as (λ b. is_eq (nat_cmp w.0 e.0.0) ≡ b → is_some (cond b (Some e.1) (find vertex_cmp w es)) ≡ true → a.0 < w.0) [
      | true ↦ λ p s. here a.0 w.0 e.0.0 (sym (less a.0 e.0.0) ∙ parts.0) (same_number w.0 e.0.0 p)
      | false ↦ λ p s. behind a es w parts.1 s
    ] refl there
  where
    here : (a w e : ℕ) → nat_lt a e ≡ true → w ≡ e → a < w
    here a w e low same = grind (arith, nat_tests)

found_least : (after : Option VertexId) (es : List (VertexId × VertexRecord)) (v : VertexId) → is_sorted vertex_cmp es ≡ true → first_above after es ≡ Some v →
    (w : VertexId) → is_above after w ≡ true → is_some (find vertex_cmp w es) ≡ true → v.0 ≤ w.0
found_least after [] v up h w above there = absurd (false≢true there)
found_least after (e ∷ es) v up h w above there =
    let parts = and_parts (below_all vertex_cmp e.0 es) (is_sorted vertex_cmp es) up in
    elim (is_above after e.0) as (λ b. is_above after e.0 ≡ b → cond b (Some e.0) (first_above after es) ≡ Some v → v.0 ≤ w.0) [
      | true ↦ λ p s. subst (λ (u : VertexId). u.0 ≤ w.0) (some_is e.0 v s) (low parts.0)
      | false ↦ λ p s. found_least after es v parts.1 s w above (ap (λ b. is_some (cond b (Some e.1) (find vertex_cmp w es))) (sym (apart after w e.0 above p)) ∙ there)
    ] refl h
  where
    low : below_all vertex_cmp e.0 es ≡ true → e.0.0 ≤ w.0
    low below =
        elim (is_eq (nat_cmp w.0 e.0.0)) as (λ b. is_eq (nat_cmp w.0 e.0.0) ≡ b → is_some (cond b (Some e.1) (find vertex_cmp w es)) ≡ true → e.0.0 ≤ w.0) [
          | true ↦ λ p s. let same : w.0 ≡ e.0.0 = same_number w.0 e.0.0 p in omega arith
          | false ↦ λ p s. let past : e.0.0 < w.0 = behind e.0 es w below s in omega arith
        ] refl there

pub next_is_least : (g : Graph) (after : Option VertexId) (v : VertexId) → IsCoherent g → next_vertex_in g after ≡ Some v → IsLeastAbove g after v
next_is_least g after v c h = record {
  above = found_above after g.vertices v h;
  alive = found_alive after g.vertices v h;
  least = found_least after g.vertices v c.vertices_ascend h;
}

pub none_is_next : (g : Graph) (after : Option VertexId) → next_vertex_in g after ≡ None → (w : VertexId) → is_above after w ≡ true → is_alive g w ≡ false
none_is_next g after h = none_above after g.vertices h
