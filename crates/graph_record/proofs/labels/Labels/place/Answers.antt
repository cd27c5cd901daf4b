use Rattle.std.proofs.Common.{rules}
use Rattle.std.proofs.lemmas.Cmp.{nat_list_cmp_total}
use Rattle.std.proofs.lemmas.Fn.{always_returns_same}
use Rattle.graph_value.specs.Name.{name_cmp}
use Rattle.graph_record.specs.Place.{itself}
use Rattle.graph_record.proofs.Place.{searched}
use Rattle.graph_record.proofs.labels.Labels.place.Goals as goal

-- the closure compares an element with the one that is looked for
pub returns : goal.returns
returns c =
    let facts = c.binary_search_by.ensures in
    let by_element = facts.position (λ known. name_cmp known c.args.name.now) (search (rules, always_returns_same)) in
    rw (← c.self.view_is, ← c.as_slice.ensures) (searched nat_list_cmp_total itself c.args.name.now _ (rw c.as_slice.ensures c.self.invariant) _ facts.bound by_element)
