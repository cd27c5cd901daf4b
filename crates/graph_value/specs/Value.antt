-- Whether two values are the same, part by part.
use Rattle.std.specs.Prelude.{Bool, true, false, ◌==◌, bytes_eq}
use Rattle.std.specs.Cmp.Lexicographic.{pointwise}
use Rattle.std.specs.Ordering.{int_eq}
use Rattle.graph_value.specs.declared.value.Value.{Value, out-Value, fold-Value}
use Rattle.graph_value.specs.declared.value.Value.TheOpen.{Value-F}

abbrev pub same_bool : Bool → Bool → Bool
same_bool true b = b
same_bool false true = false
same_bool false false = true

-- One level. On the left each element stands as the test whether a value is the same as it.
abbrev pub same_level : Value-F (Value → Bool) → Value-F Value → Bool
same_level Value-F.Null Value-F.Null = true
same_level (Value-F.Bool a) (Value-F.Bool b) = same_bool a b
same_level (Value-F.Int a) (Value-F.Int b) = int_eq a b
same_level (Value-F.Text a) (Value-F.Text b) = bytes_eq a b
same_level (Value-F.List tests) (Value-F.List bs) = pointwise (λ is_same b. is_same b) tests bs
same_level (Value-F.Vertex a) (Value-F.Vertex b) = a.0 == b.0
same_level (Value-F.Edge a) (Value-F.Edge b) = a.0 == b.0
same_level a b = false

abbrev pub same_value : Value → Value → Bool
same_value = fold-Value (Value → Bool) (λ a b. same_level a (out-Value b))
