use Rattle.std.proofs.Common.{sym, ◌∙◌, rules}
use Rattle.std.proofs.lemmas.Fn.{always_returns_same}
use Rattle.graph_value.specs.declared.id.VertexId.{VertexId}
use Rattle.graph_record.specs.Graph.{vertex_cmp}
use Rattle.graph_record.specs.Place.{key_of}
use Rattle.graph_record.specs.declared.object.VertexRecord.{VertexRecord}
use Rattle.graph_reader.proofs.Above.{vertex_cmp_total}
use Rattle.graph_record.proofs.Place.{searched, sorted_ascends}
use Rattle.query_bench.proofs.coherence.vertex_place.Goals as goal

-- the closure compares the id of an entry with the one that is looked for
pub returns : goal.returns
returns c =
    let facts = c.binary_search_by.ensures in
    let by_id = facts.position (λ (entry : VertexId × VertexRecord). vertex_cmp entry.0 c.args.v) (search (rules, always_returns_same)) in
    searched vertex_cmp_total key_of c.args.v c.args.vertices.now (sym (sorted_ascends vertex_cmp_total c.args.vertices.now) ∙ c.requires) _ facts.bound by_id
