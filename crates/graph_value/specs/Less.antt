-- Which of two values is less, where that is known.
use Rattle.std.specs.Prelude.{not, ◌&&◌, int_lt}
use Rattle.std.specs.Ordering.{is_lt}
use Rattle.graph_value.specs.Name.{name_cmp}
use Rattle.graph_value.specs.Tri.{known}
use Rattle.graph_value.specs.declared.tri.Tri.{Tri}
use Rattle.graph_value.specs.declared.tri.Tri.TheVariants.{Unknown}
use Rattle.graph_value.specs.declared.value.Value.{Value}
use Rattle.graph_value.specs.declared.value.Value.TheVariants as value

-- Numbers by size, texts byte by byte, false before true. Nothing else is known, two lists included.
abbrev pub less_of : Value → Value → Tri
less_of (value.Int a) (value.Int b) = known (int_lt a b)
less_of (value.Text a) (value.Text b) = known (is_lt (name_cmp a b))
less_of (value.Bool a) (value.Bool b) = known (not a && b)
less_of a b = Unknown
