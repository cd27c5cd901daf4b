use Rattle.std.proofs.Common.{◌≡◌, drop}
use Rattle.std.specs.FinMap.{find}
use Rattle.graph_record.specs.Graph.{vertex_cmp}
use Rattle.expr_eval_tests.proofs.counting.CountingReader.found_vertex.Given as goal

abbrev pub invariant-loop-known : goal.invariant-loop-known
invariant-loop-known l = find vertex_cmp l.v (drop l.known-index l.known-items) ≡ find vertex_cmp l.v l.known-items
