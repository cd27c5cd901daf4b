use Rattle.std.proofs.Common.{◌≡◌, None, drop}
use Rattle.query_bench.specs.Coherence.{vertices_ascend}
use Rattle.query_bench.proofs.coherence.vertices_ascend.Given as goal

abbrev pub invariant-loop-v : goal.invariant-loop-v
invariant-loop-v l = vertices_ascend l.last (drop l.v-index l.vertices) ≡ vertices_ascend None l.vertices
