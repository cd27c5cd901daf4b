-- What a search finds: the least number of what is alive, above another one.
use Rattle.std.proofs.Common.{◌≡◌, ℕ, ◌<◌, ◌≤◌, List, [], ◌∷◌, Option, Some, None, Bool, true, false, not, ◌||◌, cond, filter, map, refl, sym, ap, subst, ◌∙◌, arith, rules}
use Rattle.std.specs.Prelude.{nat_eq, nat_lt}
use Rattle.std.specs.List.{list_any, list_all}
use Rattle.std.specs.FinMap.{find, is_sorted}
use Rattle.std.specs.FinMap.Entries.{below_all}
use Rattle.std.specs.Ordering.{nat_cmp, is_lt}
use Rattle.std.proofs.lemmas.Bool.{false≢true}
use Rattle.std.proofs.lemmas.Bool.Decides.{nat_tests}
use Rattle.graph_value.specs.declared.id.VertexId.{VertexId}
use Rattle.graph_value.specs.declared.id.EdgeId.{EdgeId}
use Rattle.graph_record.specs.declared.object.VertexRecord.{VertexRecord}
use Rattle.graph_record.specs.declared.object.EdgeRecord.{EdgeRecord}
use Rattle.graph_record.specs.Graph.{Graph, IsCoherent, vertex_cmp, edge_cmp, vertex_object, edge_object, object_at, is_dead}
use Rattle.world_model.specs.declared.event.Kind.{Kind}
use Rattle.world_model.specs.declared.event.Kind.TheVariants.{Vertex, Edge}
use Rattle.world_model.specs.World.{rises}
use Rattle.world_model.specs.Views.{first_above, ids_of, oid_of, is_above, first_of, next_id, IsNext}
use Rattle.world_model.proofs.Objects.{tied}
use Rattle.world_model.proofs.Folds.{both_true, both_false, and_left_true, and_right_true, nat_eq_refl}

-- ---- the first of a list that passes

has : ℕ → List ℕ → Bool
has n ns = list_any (nat_eq n) ns

first_is : (n m : ℕ) (ns : List ℕ) → first_of (n ∷ ns) ≡ Some m → n ≡ m
first_is n m ns h = cc

-- what passes is there
first_there : (P : ℕ → Bool) (ns : List ℕ) (n : ℕ) → first_of (filter P ns) ≡ Some n → (has n ns ≡ true) × (P n ≡ true)
unfolding has
first_there P [] n h = absurd cc
first_there P (m ∷ ms) n h =
    elim (P m) as (λ b. P m ≡ b → first_of (cond b (m ∷ filter P ms) (filter P ms)) ≡ Some n → (list_any (nat_eq n) (m ∷ ms) ≡ true) × (P n ≡ true)) [
      | true ↦ λ passes s. let same : m ≡ n = first_is m n (filter P ms) s in
          (ap (λ b. b || list_any (nat_eq n) ms) (ap (nat_eq n) same ∙ nat_eq_refl n), ap P (sym same) ∙ passes)
      | false ↦ λ fails s. let rest = first_there P ms n s in (behind (nat_eq n m) _ rest.0, rest.1)
    ] refl h
  where
    behind : (a b : Bool) → b ≡ true → (a || b) ≡ true
    behind true b e = refl
    behind false b e = e

-- where none passes, none that is there does
none_there : (P : ℕ → Bool) (ns : List ℕ) → first_of (filter P ns) ≡ None → (n : ℕ) → P n ≡ true → has n ns ≡ false
unfolding has
none_there P [] h n passes = refl
none_there P (m ∷ ms) h n passes =
    elim (P m) as (λ b. P m ≡ b → first_of (cond b (m ∷ filter P ms) (filter P ms)) ≡ None → list_any (nat_eq n) (m ∷ ms) ≡ false) [
      | true ↦ λ passed s. absurd (cc)
      | false ↦ λ fails s. both_false _ _ (apart (nat_eq n m) refl fails) (none_there P ms s n passes)
    ] refl h
  where
    apart : (b : Bool) → nat_eq n m ≡ b → P m ≡ false → nat_eq n m ≡ false
    apart true e fails = absurd (false≢true (sym fails ∙ (ap P (sym (number n m e)) ∙ passes)))
      where
        number : (a b : ℕ) → nat_eq a b ≡ true → a ≡ b
        number a b h = grind (arith, nat_tests)
    apart false e fails = e

-- each number of a list that rises is above what is below all
above_all : (m : ℕ) (ns : List ℕ) (n : ℕ) → list_all (nat_lt m) ns ≡ true → has n ns ≡ true → m < n
unfolding has
above_all m [] n all there = absurd (false≢true there)
above_all m (k ∷ ks) n all there = pick (above_all m ks n (and_right_true _ _ all)) (nat_eq n k) refl there
  where
    here : (m n k : ℕ) → nat_lt m k ≡ true → nat_eq n k ≡ true → m < n
    here m n k lt e = grind (arith, nat_tests)

    pick : (list_any (nat_eq n) ks ≡ true → m < n) → (b : Bool) → nat_eq n k ≡ b → (b || list_any (nat_eq n) ks) ≡ true → m < n
    pick rest true e t = here m n k (and_left_true _ _ all) e
    pick rest false e t = rest t

-- and the first that passes is the least
first_least : (P : ℕ → Bool) (ns : List ℕ) (n : ℕ) → rises ns ≡ true → first_of (filter P ns) ≡ Some n → (m : ℕ) → P m ≡ true → has m ns ≡ true → n ≤ m
unfolding has rises
first_least P [] n up h m passes there = absurd (false≢true there)
first_least P (k ∷ ks) n up h m passes there =
    elim (P k) as (λ b. P k ≡ b → first_of (cond b (k ∷ filter P ks) (filter P ks)) ≡ Some n → n ≤ m) [
      | true ↦ λ passed s. subst (λ (l : ℕ). l ≤ m) (first_is k n (filter P ks) s) (low (nat_eq m k) refl there)
      | false ↦ λ fails s. first_least P ks n (and_right_true _ _ up) s m passes (later (nat_eq m k) refl fails there)
    ] refl h
  where
    number : (a b : ℕ) → nat_eq a b ≡ true → a ≡ b
    number a b h = grind (arith, nat_tests)

    low : (b : Bool) → nat_eq m k ≡ b → (b || list_any (nat_eq m) ks) ≡ true → k ≤ m
    low true e t = let same : m ≡ k = number m k e in omega arith
    low false e t = let past : k < m = above_all k ks m (and_left_true _ _ up) t in omega arith

    later : (b : Bool) → nat_eq m k ≡ b → P k ≡ false → (b || list_any (nat_eq m) ks) ≡ true → list_any (nat_eq m) ks ≡ true
    later true e fails t = absurd (false≢true (sym fails ∙ (ap P (sym (number m k e)) ∙ passes)))
    later false e fails t = t

-- ---- the numbers of a graph

vertex_there : (n : ℕ) (es : List (VertexId × VertexRecord)) → is_dead (vertex_object (find vertex_cmp (record { 0 = n }) es)) ≡ not (has n (map (λ e. e.0.0) es))
unfolding has
vertex_there n [] = refl
vertex_there n (e ∷ es) =
    ap (λ b. is_dead (vertex_object (cond b (Some e.1) (find vertex_cmp (record { 0 = n }) es)))) (tied n e.0.0)
    ∙ elim (nat_eq n e.0.0) as (λ b. is_dead (vertex_object (cond b (Some e.1) (find vertex_cmp (record { 0 = n }) es))) ≡ not (b || list_any (nat_eq n) (map (λ e. e.0.0) es))) [
      | true ↦ refl
      | false ↦ vertex_there n es
    ]

edge_there : (n : ℕ) (es : List (EdgeId × EdgeRecord)) → is_dead (edge_object (find edge_cmp (record { 0 = n }) es)) ≡ not (has n (map (λ e. e.0.0) es))
unfolding has
edge_there n [] = refl
edge_there n (e ∷ es) =
    ap (λ b. is_dead (edge_object (cond b (Some e.1) (find edge_cmp (record { 0 = n }) es)))) (tied n e.0.0)
    ∙ elim (nat_eq n e.0.0) as (λ b. is_dead (edge_object (cond b (Some e.1) (find edge_cmp (record { 0 = n }) es))) ≡ not (b || list_any (nat_eq n) (map (λ e. e.0.0) es))) [
      | true ↦ refl
      | false ↦ edge_there n es
    ]

-- a number is listed exactly where its object is alive
listed_alive : (kind : Kind) (g : Graph) (n : ℕ) → is_dead (object_at g (oid_of kind n)) ≡ not (has n (ids_of kind g))
listed_alive Vertex g n = vertex_there n g.vertices
listed_alive Edge g n = edge_there n g.edges

less : (a b : ℕ) → is_lt (nat_cmp a b) ≡ nat_lt a b
less a b = grind (arith, rules)

vertices_rise : (es : List (VertexId × VertexRecord)) → is_sorted vertex_cmp es ≡ true → rises (map (λ e. e.0.0) es) ≡ true
unfolding rises
vertices_rise [] h = refl
vertices_rise (e ∷ es) h = both_true _ _ (all_above e.0 es (and_left_true (below_all vertex_cmp e.0 es) _ h)) (vertices_rise es (and_right_true (below_all vertex_cmp e.0 es) _ h))
  where
    all_above : (v : VertexId) (es : List (VertexId × VertexRecord)) → below_all vertex_cmp v es ≡ true → list_all (nat_lt v.0) (map (λ e. e.0.0) es) ≡ true
    all_above v [] h = refl
    all_above v (e ∷ es) h = both_true _ _ (sym (less v.0 e.0.0) ∙ and_left_true _ _ h) (all_above v es (and_right_true (is_lt (nat_cmp v.0 e.0.0)) _ h))

edges_rise : (es : List (EdgeId × EdgeRecord)) → is_sorted edge_cmp es ≡ true → rises (map (λ e. e.0.0) es) ≡ true
unfolding rises
edges_rise [] h = refl
edges_rise (e ∷ es) h = both_true _ _ (all_above e.0 es (and_left_true (below_all edge_cmp e.0 es) _ h)) (edges_rise es (and_right_true (below_all edge_cmp e.0 es) _ h))
  where
    all_above : (v : EdgeId) (es : List (EdgeId × EdgeRecord)) → below_all edge_cmp v es ≡ true → list_all (nat_lt v.0) (map (λ e. e.0.0) es) ≡ true
    all_above v [] h = refl
    all_above v (e ∷ es) h = both_true _ _ (sym (less v.0 e.0.0) ∙ and_left_true _ _ h) (all_above v es (and_right_true (is_lt (nat_cmp v.0 e.0.0)) _ h))

-- the numbers of a coherent graph rise
ids_rise : (kind : Kind) (g : Graph) → IsCoherent g → rises (ids_of kind g) ≡ true
ids_rise Vertex g c = vertices_rise g.vertices c.vertices_ascend
ids_rise Edge g c = edges_rise g.edges c.edges_ascend

not_false : (b : Bool) → not b ≡ false → b ≡ true
not_false true h = refl
not_false false h = absurd (false≢true (sym h))

-- ---- what a search finds

pub found_is_next : (g : Graph) (kind : Kind) (after : Option ℕ) (n : ℕ) → IsCoherent g → next_id kind after g ≡ Some n → IsNext kind after g n
found_is_next g kind after n c h =
    let there = first_there (is_above after) (ids_of kind g) n h in
    record {
      above = there.1;
      alive = listed_alive kind g n ∙ ap not there.0;
      least = λ m up alive. first_least (is_above after) (ids_of kind g) n (ids_rise kind g c) h m up (not_false _ (sym (listed_alive kind g m) ∙ alive));
    }

pub none_is_next : (g : Graph) (kind : Kind) (after : Option ℕ) → next_id kind after g ≡ None → (n : ℕ) → is_above after n ≡ true → is_dead (object_at g (oid_of kind n)) ≡ true
none_is_next g kind after h n up = listed_alive kind g n ∙ ap not (none_there (is_above after) (ids_of kind g) h n up)

pub is_above_from : (after : Option ℕ) (n : ℕ) → is_above after n ≡ true → first_above after ≤ n
is_above_from None n h = omega arith
is_above_from (Some after) n h = grind (arith, nat_tests)

pub from_is_above : (after : Option ℕ) (n : ℕ) → first_above after ≤ n → is_above after n ≡ true
from_is_above None n h = refl
from_is_above (Some after) n h = grind (arith, nat_tests)

-- the first number, going up, whose object is alive is the one that a search finds
pub next_found : (g : Graph) (kind : Kind) (after : Option ℕ) (n : ℕ) → IsCoherent g → first_above after ≤ n → is_dead (object_at g (oid_of kind n)) ≡ false →
    ((m : ℕ) → first_above after ≤ m → m < n → is_dead (object_at g (oid_of kind m)) ≡ true) → next_id kind after g ≡ Some n
next_found g kind after n c from alive below = by_found (next_id kind after g) refl
  where
    same : (m : ℕ) → IsNext kind after g m → m ≡ n
    same m next = by_test (nat_lt m n) refl
      where
        up_to : m ≤ n
        up_to = next.least n (from_is_above after n from) alive

        less_than : (a b : ℕ) → nat_lt a b ≡ true → a < b
        less_than a b h = grind (arith, nat_tests)

        not_less : (a b : ℕ) → nat_lt a b ≡ false → a ≤ b → a ≡ b
        not_less a b h le = grind (arith, nat_tests)

        by_test : (b : Bool) → nat_lt m n ≡ b → m ≡ n
        by_test true e = absurd (false≢true (sym next.alive ∙ below m (is_above_from after m next.above) (less_than m n e)))
        by_test false e = not_less m n e up_to

    by_found : (r : Option ℕ) → next_id kind after g ≡ r → next_id kind after g ≡ Some n
    by_found None e = absurd (false≢true (sym alive ∙ none_is_next g kind after e n (from_is_above after n from)))
    by_found (Some m) e = e ∙ ap (λ k. Some k) (same m (found_is_next g kind after m c e))

-- where all objects below a bound are dead, and those from the bound on too, a search finds none
pub next_none : (g : Graph) (kind : Kind) (after : Option ℕ) (bound : ℕ) → ((m : ℕ) → bound ≤ m → is_dead (object_at g (oid_of kind m)) ≡ true) →
    ((m : ℕ) → first_above after ≤ m → m < bound → is_dead (object_at g (oid_of kind m)) ≡ true) → next_id kind after g ≡ None
next_none g kind after bound beyond below = by_found (next_id kind after g) refl
  where
    less_than : (a b : ℕ) → nat_lt a b ≡ true → a < b
    less_than a b h = grind (arith, nat_tests)

    not_less : (a b : ℕ) → nat_lt a b ≡ false → b ≤ a
    not_less a b h = grind (arith, nat_tests)

    dead : (m : ℕ) → is_above after m ≡ true → is_dead (object_at g (oid_of kind m)) ≡ true
    dead m up = by_test (nat_lt m bound) refl
      where
        by_test : (b : Bool) → nat_lt m bound ≡ b → is_dead (object_at g (oid_of kind m)) ≡ true
        by_test true e = below m (is_above_from after m up) (less_than m bound e)
        by_test false e = beyond m (not_less m bound e)

    by_found : (r : Option ℕ) → next_id kind after g ≡ r → next_id kind after g ≡ None
    by_found None e = e
    by_found (Some m) e =
        let there = first_there (is_above after) (ids_of kind g) m e in
        absurd (false≢true (sym (listed_alive kind g m ∙ ap not there.0) ∙ dead m there.1))
