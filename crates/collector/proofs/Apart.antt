-- Among the objects below two counters none stands twice.
use Rattle.std.proofs.Common.{◌≡◌, ℕ, zero, suc, ◌+◌, ◌<◌, List, [], ◌∷◌, ◌++◌, Bool, true, not, map, refl, arith}
use Rattle.std.specs.Prelude.{nat_eq}
use Rattle.std.specs.List.{list_all, range_with_len}
use Rattle.std.proofs.lemmas.Bool.Decides.{nat_tests}
use Rattle.graph_value.specs.declared.id.Oid.{Oid}
use Rattle.undo_delta.specs.Touch.{same_oid}
use Rattle.world_model.specs.declared.event.Kind.TheVariants.{Vertex, Edge}
use Rattle.world_model.specs.Views.{oid_of}
use Rattle.world_model.proofs.Folds.{both_true}
use Rattle.collector.specs.Sweeping.{objects_below}

-- an object is none of these
abbrev pub is_apart : Oid → List Oid → Bool
is_apart x xs = list_all (λ y. not (same_oid x y)) xs

abbrev pub AllApart : List Oid → Type 0
AllApart [] = Unit {0}
AllApart (x ∷ xs) = (is_apart x xs ≡ true) × AllApart xs

differs : (k a : ℕ) → k < a → not (nat_eq k a) ≡ true
differs k a low = grind (arith, nat_tests)

next_above : (k a : ℕ) → k < a → k < a + 1
next_above k a low = omega arith

above_itself : (a : ℕ) → a < a + 1
above_itself a = omega arith

edge_apart : (k a n : ℕ) → k < a → is_apart (oid_of Edge k) (map (oid_of Edge) (range_with_len a n)) ≡ true
edge_apart k a zero low = refl
edge_apart k a (suc n) low = both_true _ _ (differs k a low) (edge_apart k (a + 1) n (next_above k a low))

edges_apart : (a n : ℕ) → AllApart (map (oid_of Edge) (range_with_len a n))
edges_apart a zero = tt
edges_apart a (suc n) = (edge_apart a (a + 1) n (above_itself a), edges_apart (a + 1) n)

-- a vertex is no edge
edges_other : (k a n : ℕ) → is_apart (oid_of Vertex k) (map (oid_of Edge) (range_with_len a n)) ≡ true
edges_other k a zero = refl
edges_other k a (suc n) = edges_other k (a + 1) n

vertex_apart : (edges k a n : ℕ) → k < a → is_apart (oid_of Vertex k) (map (oid_of Vertex) (range_with_len a n) ++ map (oid_of Edge) (range_with_len 0 edges)) ≡ true
vertex_apart edges k a zero low = edges_other k 0 edges
vertex_apart edges k a (suc n) low = both_true _ _ (differs k a low) (vertex_apart edges k (a + 1) n (next_above k a low))

vertices_apart : (edges a n : ℕ) → AllApart (map (oid_of Vertex) (range_with_len a n) ++ map (oid_of Edge) (range_with_len 0 edges))
vertices_apart edges a zero = edges_apart 0 edges
vertices_apart edges a (suc n) = (vertex_apart edges a (a + 1) n (above_itself a), vertices_apart edges (a + 1) n)

pub objects_apart : (vertices edges : ℕ) → AllApart (objects_below vertices edges)
objects_apart vertices edges = vertices_apart edges 0 vertices
