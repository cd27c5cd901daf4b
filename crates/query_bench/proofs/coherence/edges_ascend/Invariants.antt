use Rattle.std.proofs.Common.{◌≡◌, None, drop}
use Rattle.query_bench.specs.Coherence.{edges_ascend}
use Rattle.query_bench.proofs.coherence.edges_ascend.Given as goal

abbrev pub invariant-loop-e : goal.invariant-loop-e
invariant-loop-e l = edges_ascend l.last (drop l.e-index l.edges) ≡ edges_ascend None l.edges
