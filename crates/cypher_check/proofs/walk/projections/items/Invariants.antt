use Rattle.std.proofs.Common.{◌≡◌, drop}
use Rattle.std.specs.List.{flat_map}
use Rattle.cypher_check.specs.Asks.{after}
use Rattle.cypher_check.specs.Clauses.{item_asks}
use Rattle.cypher_check.proofs.walk.projections.items.Given as goal

abbrev pub invariant-loop-i : goal.invariant-loop-i
invariant-loop-i l = after l.scope (flat_map item_asks (drop l.i-index l.is)) ≡ after l.fn.scope (flat_map item_asks l.is)
