use Rattle.std.proofs.Common.{rules}
use Rattle.graph_record.proofs.Edges.{edge_cmp_total}
use Rattle.std.proofs.lemmas.Fn.{always_returns_same}
use Rattle.graph_record.specs.Ascending.{edge_cmp}
use Rattle.graph_record.specs.Place.{itself}
use Rattle.graph_record.proofs.Place.{searched}
use Rattle.graph_record.proofs.edge_ids.EdgeIds.place.Goals as goal

-- the closure compares an element with the one that is looked for
pub returns : goal.returns
returns c =
    let facts = c.binary_search_by.ensures in
    let by_element = facts.position (λ known. edge_cmp known c.args.id) (search (rules, always_returns_same)) in
    rw (← c.as_slice.ensures.value) (searched edge_cmp_total itself c.args.id _ (rw c.as_slice.ensures.value c.as_slice.ensures.ascending) _ facts.bound by_element)
