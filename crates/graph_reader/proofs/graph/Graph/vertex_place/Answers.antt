use Rattle.std.proofs.Common.{sym, ◌∙◌, rules}
use Rattle.std.proofs.lemmas.Fn.{always_returns_same}
use Rattle.graph_value.specs.declared.id.VertexId.{VertexId}
use Rattle.graph_record.specs.Graph.{vertex_cmp}
use Rattle.graph_record.specs.Place.{key_of}
use Rattle.graph_record.specs.declared.object.VertexRecord.{VertexRecord}
use Rattle.graph_reader.proofs.Above.{vertex_cmp_total}
use Rattle.graph_record.proofs.Place.{searched, sorted_ascends}
use Rattle.graph_reader.proofs.graph.Graph.vertex_place.Goals as goal

-- the closure compares the id of an entry with the one that is looked for
pub returns : goal.returns
returns c =
    let facts = c.binary_search_by.ensures in
    let by_id = facts.position (λ (entry : VertexId × VertexRecord). vertex_cmp entry.0 c.args.v) (search (rules, always_returns_same)) in
    rw (← c.self.view_is, ← c.as_slice.ensures.value) (searched vertex_cmp_total key_of c.args.v _ (rw c.as_slice.ensures.value (sym (sorted_ascends {X = VertexRecord} vertex_cmp_total c.self.inside.vertices.items) ∙ c.self.invariant.vertices_ascend)) _ facts.bound by_id)
