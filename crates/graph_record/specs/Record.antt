-- A vertex as it is created.
use Rattle.std.specs.Prelude.{[]}
use Rattle.graph_record.specs.declared.object.VertexRecord.{VertexRecord}

-- no labels, no properties, no edges
abbrev pub empty_vertex : VertexRecord
empty_vertex = record { labels = []; props = []; outs = []; ins = [] }
