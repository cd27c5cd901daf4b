use Rattle.std.proofs.Common.{sym, ◌∙◌, rules}
use Rattle.std.proofs.lemmas.Cmp.{nat_list_cmp_total}
use Rattle.std.proofs.lemmas.Fn.{always_returns_same}
use Rattle.graph_value.specs.Name.{name_cmp}
use Rattle.graph_value.specs.declared.value.Value.{Value}
use Rattle.graph_record.specs.Place.{key_of}
use Rattle.graph_record.proofs.Place.{searched, sorted_ascends}
use Rattle.graph_record.proofs.properties.Properties.place.Goals as goal

-- the closure compares a property's name with the name, and the slice is the properties
pub returns : goal.returns
returns c =
    let facts = c.binary_search_by.ensures in
    let by_name = facts.position (λ property. name_cmp property.0 c.args.name.now) (search (rules, always_returns_same)) in
    rw (← c.self.view_is, ← c.as_slice.ensures) (searched nat_list_cmp_total key_of c.args.name.now _ (rw c.as_slice.ensures (sym (sorted_ascends {X = Value} nat_list_cmp_total c.self.inside.items) ∙ c.self.invariant.ascending)) _ facts.bound by_name)
