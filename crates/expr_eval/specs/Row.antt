-- The row in which an expression is evaluated: each name with its value.
use Rattle.std.specs.Prelude.{ℕ, List, [], ◌∷◌, bytes_eq, if◌then◌else◌}
use Rattle.graph_value.specs.declared.value.Value.{Value}
use Rattle.graph_value.specs.declared.value.Value.TheVariants as value

abbrev pub Row : Type 0
Row = List (List ℕ × Value)

-- how many rows a table has at most
abbrev pub row_limit : ℕ
row_limit = 1000000

-- The value of a name. A name that isn't in the row is null, which no checked expression asks for.
abbrev pub value_of : Row → List ℕ → Value
value_of [] name = value.Null
value_of (column ∷ row) name = if bytes_eq column.0 name then column.1 else value_of row name
