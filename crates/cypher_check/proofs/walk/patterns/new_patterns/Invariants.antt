use Rattle.std.proofs.Common.{◌≡◌, drop}
use Rattle.std.specs.List.{flat_map}
use Rattle.cypher_check.specs.Asks.{after}
use Rattle.cypher_check.specs.Clauses.{new_pattern_asks}
use Rattle.cypher_check.proofs.walk.patterns.new_patterns.Given as goal

abbrev pub invariant-loop-p : goal.invariant-loop-p
invariant-loop-p l = after l.scope (flat_map new_pattern_asks (drop l.p-index l.ps)) ≡ after l.fn.scope (flat_map new_pattern_asks l.ps)
