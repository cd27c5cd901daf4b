-- Which graph a read or a search speaks of, and what a search finds there.
use Rattle.std.specs.Prelude.{◌≡◌, ◌≤◌, ℕ, ◌+◌, List, [], ◌∷◌, Option, Some, None, Bool, true, false, map, filter, nat_lt, if◌then◌else◌}
use Rattle.graph_value.specs.declared.id.Oid.{Oid}
use Rattle.graph_value.specs.declared.id.Oid.TheVariants as oid
use Rattle.graph_record.specs.Graph.{Graph, object_at, is_dead}
use Rattle.world_model.specs.declared.event.Kind.{Kind}
use Rattle.world_model.specs.declared.event.Kind.TheVariants.{Vertex, Edge}
use Rattle.world_model.specs.declared.event.When.{When}
use Rattle.world_model.specs.declared.event.When.TheVariants.{Own, At}
use Rattle.world_model.specs.declared.answer.Refused.{Refused}
use Rattle.world_model.specs.declared.answer.Refused.TheVariants.{TimeAhead}
use Rattle.world_model.specs.World.{World, Txn, view_of, graph_at}

-- what the transaction sees, its own writes among it; or what the commits up to an instant left, without them
abbrev pub graph_of : World → Txn → When → Graph
graph_of w p Own = view_of w p
graph_of w p (At t) = graph_at w.commits t

-- an instant past the transaction's start is refused
abbrev pub time_ahead : Txn → When → Option Refused
time_ahead p Own = None
time_ahead p (At t) = if nat_lt p.start t then Some (TimeAhead t p.start) else None

-- the numbers of what is alive, ascending
abbrev pub ids_of : Kind → Graph → List ℕ
ids_of Vertex g = map (λ v. v.0.0) g.vertices
ids_of Edge g = map (λ e. e.0.0) g.edges

-- the object of a kind with a number
abbrev pub oid_of : Kind → ℕ → Oid
oid_of Vertex n = oid.Vertex (record { 0 = n })
oid_of Edge n = oid.Edge (record { 0 = n })

abbrev pub is_above : Option ℕ → ℕ → Bool
is_above None n = true
is_above (Some after) n = nat_lt after n

-- the least number that is above another one
abbrev pub first_above : Option ℕ → ℕ
first_above None = 0
first_above (Some after) = after + 1

abbrev pub first_of : List ℕ → Option ℕ
first_of [] = None
first_of (n ∷ ns) = Some n

-- the least number above another one, or the least of all, of what is alive
abbrev pub next_id : Kind → Option ℕ → Graph → Option ℕ
next_id kind after g = first_of (filter (is_above after) (ids_of kind g))

-- an object with this number is there, and none with a lesser one above the other number
pub record IsNext (kind : Kind) (after : Option ℕ) (g : Graph) (n : ℕ) : Type 0 where
  pub above : is_above after n ≡ true
  pub alive : is_dead (object_at g (oid_of kind n)) ≡ false
  pub least : (m : ℕ) → is_above after m ≡ true → is_dead (object_at g (oid_of kind m)) ≡ false → n ≤ m
