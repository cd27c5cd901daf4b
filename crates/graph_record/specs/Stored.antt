-- What the properties of an object keep: names that rise, and under each a value that an object may keep.
use Rattle.std.specs.Prelude.{ℕ, List, Bool, cond, IsTrue}
use Rattle.std.specs.List.{list_all}
use Rattle.std.specs.FinMap.{put}
use Rattle.graph_value.specs.Name.{name_cmp}
use Rattle.graph_value.specs.Storable.{is_storable}
use Rattle.graph_value.specs.declared.value.Value.{Value}
use Rattle.graph_record.specs.Ascending.{IsAscendingProperties}
use Rattle.graph_record.specs.Edits.{removed_key}

abbrev pub are_storable : List (List ℕ × Value) → Bool
are_storable props = list_all (λ (p : List ℕ × Value). is_storable p.1) props

pub record IsPropertyList (props : List (List ℕ × Value)) : Type 0 where
  pub ascending : IsAscendingProperties props
  pub storable : IsTrue (are_storable props)

-- The properties with this value under the name. A value that no object keeps, as null, takes the property away.
abbrev pub set_property : List ℕ → Value → List (List ℕ × Value) → List (List ℕ × Value)
set_property name value props = cond (is_storable value) (put name_cmp name value props) (removed_key name_cmp name props)
