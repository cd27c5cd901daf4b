use Rattle.std.proofs.Common.{sym}
use Rattle.graph_reader.proofs.Above.{vertex_cmp_total}
use Rattle.graph_record.proofs.Place.{find_at, find_gap}
use Rattle.query_bench.proofs.coherence.vertex_in.Goals as goal

pub bounds-vertices-at : goal.bounds-vertices-at
bounds-vertices-at c = c.in-Ok.ensures.found.in_range

pub returns-in-Ok : goal.returns-in-Ok
returns-in-Ok c = sym (find_at vertex_cmp_total _ _ _ c.index-vertices-at.result c.in-Ok.ensures.found)

-- the id is not there
pub returns-in-Err : goal.returns-in-Err
returns-in-Err c = sym (find_gap vertex_cmp_total _ _ _ c.in-Err.ensures.absent)
