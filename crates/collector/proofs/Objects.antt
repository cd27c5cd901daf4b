-- The objects that a sweep has left, as a list with a first one.
use Rattle.std.proofs.Common.{◌≡◌, ℕ, suc, ◌+◌, ◌-◌, ◌<◌, ◌≤◌, List, [], ◌∷◌, ◌++◌, Some, map, sym, ap, ◌∙◌, arith}
use Rattle.std.specs.List.{range_with_len}
use Rattle.graph_value.specs.declared.id.Oid.{Oid}
use Rattle.world_model.specs.declared.event.Kind.TheVariants.{Vertex, Edge}
use Rattle.world_model.specs.Views.{oid_of}
use Rattle.collector.specs.Left.{left_of}
use Rattle.collector.specs.Sweeping.{first_of, rest_of}
use Rattle.collector.specs.declared.left.Left.{Left}

-- a list is its first object and the others
pub first_and_rest : (xs : List Oid) (x : Oid) → first_of xs ≡ Some x → xs ≡ x ∷ rest_of xs
first_and_rest [] x h = cc
first_and_rest (y ∷ ys) x h = cc

-- behind the first number the others begin one later
range_rest : (f : ℕ → Oid) (a b : ℕ) (others : List Oid) → a < b →
    map f (range_with_len (a + 1) (b - (a + 1))) ++ others ≡ rest_of (map f (range_with_len a (b - a)) ++ others)
range_rest f a b others low =
    let some : suc (b - (a + 1)) ≡ b - a = omega arith in
    ap (λ n. rest_of (map f (range_with_len a n) ++ others)) some

range_alone : (f : ℕ → Oid) (a b : ℕ) → a < b → map f (range_with_len (a + 1) (b - (a + 1))) ≡ rest_of (map f (range_with_len a (b - a)))
range_alone f a b low =
    let some : suc (b - (a + 1)) ≡ b - a = omega arith in
    ap (λ n. rest_of (map f (range_with_len a n))) some

range_empty : (f : ℕ → Oid) (a b : ℕ) (others : List Oid) → b ≤ a → map f (range_with_len a (b - a)) ++ others ≡ others
range_empty f a b others high =
    let none : b - a ≡ 0 = omega arith in
    ap (λ n. map f (range_with_len a n) ++ others) none

pub vertex_passed : (l : Left) → l.vertex < l.vertices → left_of (record l { vertex = l.vertex + 1 }) ≡ rest_of (left_of l)
vertex_passed l low = range_rest (oid_of Vertex) l.vertex l.vertices (map (oid_of Edge) (range_with_len l.edge (l.edges - l.edge))) low

pub edge_passed : (l : Left) → l.vertices ≤ l.vertex → l.edge < l.edges → left_of (record l { edge = l.edge + 1 }) ≡ rest_of (left_of l)
edge_passed l none low =
    range_empty (oid_of Vertex) l.vertex l.vertices (map (oid_of Edge) (range_with_len (l.edge + 1) (l.edges - (l.edge + 1)))) none
    ∙ range_alone (oid_of Edge) l.edge l.edges low
    ∙ ap rest_of (sym (range_empty (oid_of Vertex) l.vertex l.vertices (map (oid_of Edge) (range_with_len l.edge (l.edges - l.edge))) none))
