use Rattle.std.proofs.Common.{◌≡◌, drop}
use Rattle.std.specs.List.{flat_map}
use Rattle.cypher_check.specs.Asks.{after}
use Rattle.cypher_check.specs.Clauses.{uses}
use Rattle.cypher_check.proofs.walk.clauses.all_used.Given as goal

abbrev pub invariant-loop-name : goal.invariant-loop-name
invariant-loop-name l = after l.scope (flat_map uses (drop l.name-index l.names)) ≡ after l.fn.scope (flat_map uses l.names)
