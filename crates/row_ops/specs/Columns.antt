-- The columns of the items of a projection.
use Rattle.std.specs.Prelude.{ℕ, ◌+◌, List, [], ◌∷◌, ◌++◌, Option, Some, None, unwrap_or}
use Rattle.std.specs.Fmt.{decimal}
use Rattle.cypher_check.specs.Clauses.{given_name}
use Rattle.cypher_syntax.specs.declared.tree.projection.Item.{Item}
use Rattle.graph_value.specs.declared.value.Value.{Value}
use Rattle.expr_eval.specs.Row.{Row}

-- The name of an item's column: the one that the item gives, or else its place in decimal digits.
abbrev pub column_name : ℕ → Item → List ℕ
column_name place i = unwrap_or (given_name i.name i.expr) (decimal place)

-- the column of an item, if there is a value for it
abbrev pub column_at : ℕ → Item → Option Value → Row
column_at place i None = []
column_at place i (Some v) = (column_name place i, v) ∷ []

-- each item's column with its value, the first one's place being given
abbrev pub columns : ℕ → List Item → List Value → Row
columns place [] vs = []
columns place (i ∷ items) [] = []
columns place (i ∷ items) (v ∷ vs) = (column_name place i, v) ∷ columns (place + 1) items vs

abbrev pub given_column : Option (List ℕ) → Value → Row
given_column None v = []
given_column (Some name) v = (name, v) ∷ []

abbrev pub given_at : Option (List ℕ) → Option Value → Row
given_at name None = []
given_at name (Some v) = given_column name v

-- the columns of the items that give a name: no expression sees a place in digits
abbrev pub given_columns : List Item → List Value → Row
given_columns [] vs = []
given_columns (i ∷ items) [] = []
given_columns (i ∷ items) (v ∷ vs) = given_column (given_name i.name i.expr) v ++ given_columns items vs
