-- CREATE: which vertices of its patterns are new, and the numbers and names of what is new.
use Rattle.std.specs.Prelude.{ℕ, ◌+◌, List, [], ◌∷◌, ◌++◌, true, false, bytes_eq, Option, Some, None, Ok, Err, if◌then◌else◌}
use Rattle.graph_value.specs.declared.id.Oid.TheVariants as oid
use Rattle.graph_record.specs.Graph.{Graph}
use Rattle.expr_eval.specs.declared.refused.EvalRefused.TheVariants.{TypeFault}
use Rattle.expr_eval.specs.Outcome.{Outcome, and_then}
use Rattle.expr_eval.specs.Row.{Row}
use Rattle.write_ops.specs.declared.planned.Entity.{Entity}
use Rattle.write_ops.specs.declared.planned.Entity.TheVariants.{Vertex, Edge}
use Rattle.write_ops.specs.declared.planned.Pick.{Pick}
use Rattle.write_ops.specs.declared.planned.Pick.TheVariants.{Known, Made}
use Rattle.write_ops.specs.declared.placing.Place.{Place}
use Rattle.write_ops.specs.declared.target.Target.{Target}
use Rattle.write_ops.specs.declared.target.Target.TheVariants as target
use Rattle.write_ops.specs.Targets.{bound, alive}

-- names that a clause gives in a row, each with what it stands for
abbrev pub Names : Type 0
Names = List (List ℕ × Entity)

abbrev pub new_place : ℕ → Place
new_place made = record { at = Made made; is_new = true }

abbrev pub old_place : Pick → Place
old_place at = record { at = at; is_new = false }

abbrev pub given : Names → List ℕ → Option Entity
given [] name = None
given (p ∷ names) name = if bytes_eq p.0 name then Some p.1 else given names name

-- A name that the clause gave is what it stands for; another name is a new vertex.
abbrev pub given_place : ℕ → Option Entity → Outcome Place
given_place made None = Ok (new_place made)
given_place made (Some (Vertex at)) = Ok (old_place at)
given_place made (Some (Edge at)) = Err TypeFault

-- A name of the row is a vertex that is alive; null and another value are of a wrong kind.
abbrev pub bound_place : Graph → Target → Outcome Place
bound_place g (target.Entity (oid.Vertex v)) = and_then (alive g (oid.Vertex v)) (λ x. Ok (old_place (Known v.0)))
bound_place g t = Err TypeFault

abbrev pub named_place : Graph → Names → ℕ → List ℕ → Option Target → Outcome Place
named_place g names made name (Some t) = bound_place g t
named_place g names made name None = given_place made (given names name)

-- where a vertex of a pattern is, behind so many creates
abbrev pub place_of : Graph → Row → Names → ℕ → Option (List ℕ) → Outcome Place
place_of g row names made None = Ok (new_place made)
place_of g row names made (Some name) = named_place g names made name (bound row name)

-- how many creates there are behind it
abbrev pub behind : Place → ℕ → ℕ
behind p made = if p.is_new then made + 1 else made

abbrev pub naming : Option (List ℕ) → Entity → Names
naming None x = []
naming (Some name) x = (name, x) ∷ []

-- A new vertex gives its name.
abbrev pub vertex_name : Place → Option (List ℕ) → Names
vertex_name p name = if p.is_new then naming name (Vertex p.at) else []

-- An edge stands before the vertex behind it, though it is created after that.
abbrev pub with_names : Place → ℕ → Option (List ℕ) → Option (List ℕ) → Names → Names
with_names p number edge node names = (names ++ naming edge (Edge (Made number))) ++ vertex_name p node
