use Rattle.std.proofs.Common.{◌≡◌, drop}
use Rattle.std.specs.List.{flat_map}
use Rattle.cypher_check.specs.Asks.{after}
use Rattle.cypher_check.specs.Clauses.{sort_asks}
use Rattle.cypher_check.proofs.walk.projections.sorts.Given as goal

abbrev pub invariant-loop-key : goal.invariant-loop-key
invariant-loop-key l = after l.scope (flat_map (sort_asks l.is) (drop l.key-index l.keys)) ≡ after l.fn.scope (flat_map (sort_asks l.is) l.keys)
