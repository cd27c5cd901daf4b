use Rattle.std.proofs.Common.{sym, ◌∙◌, rules}
use Rattle.std.proofs.lemmas.Fn.{always_returns_same}
use Rattle.graph_value.specs.declared.id.EdgeId.{EdgeId}
use Rattle.graph_record.specs.Graph.{edge_cmp}
use Rattle.graph_record.specs.Place.{key_of}
use Rattle.graph_record.specs.declared.object.EdgeRecord.{EdgeRecord}
use Rattle.graph_record.proofs.Edges.{edge_cmp_total}
use Rattle.graph_record.proofs.Place.{searched, sorted_ascends}
use Rattle.query_bench.proofs.coherence.edge_place.Goals as goal

-- the closure compares the id of an entry with the one that is looked for
pub returns : goal.returns
returns c =
    let facts = c.binary_search_by.ensures in
    let by_id = facts.position (λ (entry : EdgeId × EdgeRecord). edge_cmp entry.0 c.args.e) (search (rules, always_returns_same)) in
    searched edge_cmp_total key_of c.args.e c.args.edges.now (sym (sorted_ascends edge_cmp_total c.args.edges.now) ∙ c.requires) _ facts.bound by_id
