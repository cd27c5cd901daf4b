use Rattle.std.proofs.Common.{◌≡◌, drop}
use Rattle.std.specs.List.{flat_map}
use Rattle.cypher_check.specs.Asks.{after}
use Rattle.cypher_check.specs.Clauses.{remove_asks}
use Rattle.cypher_check.proofs.walk.clauses.all_removed.Given as goal

abbrev pub invariant-loop-item : goal.invariant-loop-item
invariant-loop-item l = after l.scope (flat_map remove_asks (drop l.item-index l.items)) ≡ after l.fn.scope (flat_map remove_asks l.items)
