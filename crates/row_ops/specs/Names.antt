-- A name in a row.
use Rattle.std.specs.Prelude.{ℕ, Bool, false, List, [], ◌∷◌, bytes_eq, if◌then◌else◌, Option, Some, None}
use Rattle.cypher_check.specs.Clauses.{given_name}
use Rattle.cypher_syntax.specs.declared.tree.projection.Item.{Item}
use Rattle.graph_value.specs.declared.value.Value.{Value}
use Rattle.expr_eval.specs.Row.{Row}

-- the value of a name, if the row has it
abbrev pub found : Row → List ℕ → Option Value
found [] name = None
found (column ∷ row) name = if bytes_eq column.0 name then Some column.1 else found row name

abbrev pub is_named : Option (List ℕ) → List ℕ → Bool
is_named None name = false
is_named (Some given) name = bytes_eq given name

-- whether an item gives its column this name
abbrev pub gives : Item → List ℕ → Bool
gives i name = is_named (given_name i.name i.expr) name
