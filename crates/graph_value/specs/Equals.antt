-- Equality in which null is unknown, also inside a list.
use Rattle.std.specs.Prelude.{◌==◌, bytes_eq, List, [], ◌∷◌, length, if◌then◌else◌}
use Rattle.std.specs.Ordering.{int_eq}
use Rattle.graph_value.specs.Tri.{known, tri_and}
use Rattle.graph_value.specs.Value.{same_bool}
use Rattle.graph_value.specs.declared.tri.Tri.{Tri}
use Rattle.graph_value.specs.declared.tri.Tri.TheVariants.{True, False, Unknown}
use Rattle.graph_value.specs.declared.value.Value.{Value, out-Value, fold-Value}
use Rattle.graph_value.specs.declared.value.Value.TheOpen.{Value-F}

-- the answers of the pairs, together
abbrev pub each_pair : {A B : Type 0} → (A → B → Tri) → List A → List B → Tri
each_pair E [] bs = True
each_pair E (a ∷ items) [] = True
each_pair E (a ∷ items) (b ∷ bs) = tri_and (E a b) (each_pair E items bs)

-- lists of different lengths are not equal
abbrev pub lists_equal : {A B : Type 0} → (A → B → Tri) → List A → List B → Tri
lists_equal E items bs = if length items == length bs then each_pair E items bs else False

-- One level. On the left each element stands as the comparison of a value with it.
abbrev pub equals_level : Value-F (Value → Tri) → Value-F Value → Tri
equals_level Value-F.Null b = Unknown
equals_level a Value-F.Null = Unknown
equals_level (Value-F.Bool a) (Value-F.Bool b) = known (same_bool a b)
equals_level (Value-F.Int a) (Value-F.Int b) = known (int_eq a b)
equals_level (Value-F.Text a) (Value-F.Text b) = known (bytes_eq a b)
equals_level (Value-F.List comparisons) (Value-F.List bs) = lists_equal (λ equals b. equals b) comparisons bs
equals_level (Value-F.Vertex a) (Value-F.Vertex b) = known (a.0 == b.0)
equals_level (Value-F.Edge a) (Value-F.Edge b) = known (a.0 == b.0)
equals_level a b = False

abbrev pub equals_of : Value → Value → Tri
equals_of = fold-Value (Value → Tri) (λ a b. equals_level a (out-Value b))
