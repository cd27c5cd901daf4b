-- Which values an object may keep.
use Rattle.std.specs.Prelude.{Bool, true, false}
use Rattle.std.specs.List.{list_all}
use Rattle.graph_value.specs.declared.value.Value.{Value, out-Value}
use Rattle.graph_value.specs.declared.value.Value.TheOpen.{Value-F}

-- a truth value, a number or a text
abbrev pub simple_level : {A : Type 0} → Value-F A → Bool
simple_level (Value-F.Bool _) = true
simple_level (Value-F.Int _) = true
simple_level (Value-F.Text _) = true
simple_level v = false

abbrev pub is_simple : Value → Bool
is_simple v = simple_level (out-Value v)

-- one of these, or a list of them
abbrev pub storable_level : Value-F Value → Bool
storable_level (Value-F.List items) = list_all is_simple items
storable_level v = simple_level v

abbrev pub is_storable : Value → Bool
is_storable v = storable_level (out-Value v)
