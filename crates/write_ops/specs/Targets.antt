-- What a name stands for in a row, and whether that is alive.
use Rattle.std.specs.Prelude.{ℕ, List, [], ◌∷◌, Bool, bytes_eq, Option, Some, None, is_some, Ok, Err, if◌then◌else◌}
use Rattle.graph_value.specs.declared.id.Oid.{Oid}
use Rattle.graph_value.specs.declared.id.Oid.TheVariants as oid
use Rattle.graph_value.specs.declared.value.Value.{Value, out-Value}
use Rattle.graph_value.specs.declared.value.Value.TheOpen.{Value-F}
use Rattle.graph_reader.specs.Alive.{vertex_in, edge_in}
use Rattle.graph_record.specs.Graph.{Graph}
use Rattle.expr_eval.specs.declared.refused.EvalRefused.TheVariants.{Gone}
use Rattle.expr_eval.specs.Outcome.{Outcome}
use Rattle.expr_eval.specs.Row.{Row}
use Rattle.write_ops.specs.declared.target.Target.{Target}
use Rattle.write_ops.specs.declared.target.Target.TheVariants.{Nothing, Entity, Other}

abbrev pub target_level : Value-F Value → Target
target_level Value-F.Null = Nothing
target_level (Value-F.Vertex v) = Entity (oid.Vertex v)
target_level (Value-F.Edge e) = Entity (oid.Edge e)
target_level v = Other

unfoldable pub stands_for : Value → Target
stands_for v = target_level (out-Value v)

-- what a name of the row stands for; nothing where the row has no such name
abbrev pub bound : Row → List ℕ → Option Target
bound [] name = None
bound (column ∷ row) name = if bytes_eq column.0 name then Some (stands_for column.1) else bound row name

abbrev pub or_nothing : Option Target → Target
or_nothing None = Nothing
or_nothing (Some t) = t

-- A name that isn't in the row is null, which no checked clause asks for.
abbrev pub target_of : Row → List ℕ → Target
target_of row name = or_nothing (bound row name)

abbrev pub is_alive : Graph → Oid → Bool
is_alive g (oid.Vertex v) = is_some (vertex_in g v)
is_alive g (oid.Edge e) = is_some (edge_in g e)

-- what is there, or else gone
abbrev pub if_alive : Bool → Oid → Outcome Oid
if_alive b x = if b then Ok x else Err (Gone x)

abbrev pub alive : Graph → Oid → Outcome Oid
alive g x = if_alive (is_alive g x) x
