-- How large a value is, and how deep its lists nest.
use Rattle.std.specs.Prelude.{ℕ, ◌+◌, max, List, [], ◌∷◌, length, sum}
use Rattle.graph_value.specs.declared.value.Value.{Value, fold-Value}
use Rattle.graph_value.specs.declared.value.Value.TheOpen.{Value-F}

-- One level, with the weight of each element in its place: a text weighs its bytes and a list its elements, and each
-- value one more.
abbrev pub weight_level : Value-F ℕ → ℕ
weight_level (Value-F.Text text) = 1 + length text
weight_level (Value-F.List weights) = 1 + sum weights
weight_level v = 1

abbrev pub weight_of : Value → ℕ
weight_of = fold-Value ℕ weight_level

abbrev pub greatest : List ℕ → ℕ
greatest [] = 0
greatest (n ∷ ns) = max n (greatest ns)

-- one level, with the depth of each element in its place
abbrev pub depth_level : Value-F ℕ → ℕ
depth_level (Value-F.List depths) = 1 + greatest depths
depth_level v = 0

abbrev pub depth_of : Value → ℕ
depth_of = fold-Value ℕ depth_level
