use Rattle.std.proofs.Common.{◌≡◌, drop}
use Rattle.std.specs.List.{flat_map}
use Rattle.cypher_check.specs.Asks.{after}
use Rattle.cypher_check.specs.Clauses.{stage_asks}
use Rattle.cypher_check.proofs.walk.projections.stages.Given as goal

abbrev pub invariant-loop-s : goal.invariant-loop-s
invariant-loop-s l = after l.scope (flat_map stage_asks (drop l.s-index l.ss)) ≡ after l.fn.scope (flat_map stage_asks l.ss)
