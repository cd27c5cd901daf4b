use Rattle.std.proofs.Common.{◌≡◌, drop}
use Rattle.std.specs.FinMap.{find}
use Rattle.graph_record.specs.Graph.{edge_cmp}
use Rattle.expr_eval_tests.proofs.counting.CountingReader.found_edge.Given as goal

abbrev pub invariant-loop-known : goal.invariant-loop-known
invariant-loop-known l = find edge_cmp l.e (drop l.known-index l.known-items) ≡ find edge_cmp l.e l.known-items
