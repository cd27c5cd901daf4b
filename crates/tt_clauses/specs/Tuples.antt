-- The order of tuples, and the tuples that match at some instant.
use Rattle.std.specs.Prelude.{◌≡◌, ℕ, List, Bool}
use Rattle.std.specs.Cmp.Lexicographic.{slice_cmp}
use Rattle.std.specs.List.{list_any}
use Rattle.std.specs.List.Sorted.{IsStrictlySortedBy}
use Rattle.std.specs.declared.cmp.Ordering.{Ordering}
use Rattle.graph_value.specs.declared.id.Oid.{Oid}
use Rattle.graph_value.specs.contracts.id.OidOrd.TheImpl as oid_order
use Rattle.graph_record.specs.Edits.{has}
use Rattle.graph_record.specs.Graph.{Graph}
use Rattle.pattern_match.specs.declared.steps.Plan.{Plan}
use Rattle.pattern_match.specs.Tuples.{tuples_for}

-- A tuple has a vertex or an edge for each element of the patterns.
abbrev pub Tuple : Type 0
Tuple = List Oid

-- element by element; all tuples of a clause have vertices at the same places, so it is the order of their ids
abbrev pub tuple_cmp : Tuple → Tuple → Ordering
tuple_cmp = slice_cmp oid_order.ghosts.cmp

-- the tuple matches the patterns in a graph
abbrev pub matches : Graph → Plan → Tuple → Bool
matches g plan b = has tuple_cmp b (tuples_for g plan.steps)

-- the tuples that match at one of the instants or more, each once, ascending
pub record AreTuples (graphs : ℕ → Graph) (plan : Plan) (times : List ℕ) (tuples : List Tuple) : Type 0 where
  pub ascending : IsStrictlySortedBy tuple_cmp tuples
  pub all : (b : Tuple) → has tuple_cmp b tuples ≡ list_any (λ t. matches (graphs t) plan b) times
