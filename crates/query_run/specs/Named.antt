-- The table behind CREATE: each row with the names that the clause gave in it.
use Rattle.std.specs.Prelude.{ℕ, List, [], ◌∷◌, ◌++◌, map}
use Rattle.graph_value.specs.declared.value.Value.{Value}
use Rattle.graph_value.specs.declared.value.Value.TheVariants as value
use Rattle.expr_eval.specs.Row.{Row}
use Rattle.write_ops.specs.declared.planned.Entity.{Entity}
use Rattle.write_ops.specs.declared.planned.Entity.TheVariants.{Vertex, Edge}
use Rattle.write_ops.specs.Placing.{Names}
use Rattle.query_run.specs.Asked.{vertex_of, edge_of}

abbrev pub entity_value : List ℕ → Entity → Value
entity_value ids (Vertex at) = value.Vertex (vertex_of ids at)
entity_value ids (Edge at) = value.Edge (edge_of ids at)

abbrev pub column : List ℕ → List ℕ × Entity → List ℕ × Value
column ids name = (name.0, entity_value ids name.1)

abbrev pub with_names : List ℕ → Row → Names → Row
with_names ids row names = row ++ map (column ids) names

-- the names of the first row, which has none where there are no names left
abbrev pub first_names : List Names → Names
first_names [] = []
first_names (names ∷ rest) = names

abbrev pub other_names : List Names → List Names
other_names [] = []
other_names (names ∷ rest) = rest

-- row by row
abbrev pub table_with : List ℕ → List Row → List Names → List Row
table_with ids [] names = []
table_with ids (row ∷ rows) names = with_names ids row (first_names names) ∷ table_with ids rows (other_names names)
