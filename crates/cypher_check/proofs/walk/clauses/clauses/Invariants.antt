use Rattle.std.proofs.Common.{◌≡◌, drop}
use Rattle.std.specs.List.{flat_map}
use Rattle.cypher_check.specs.Asks.{after}
use Rattle.cypher_check.specs.Clauses.{clause_asks}
use Rattle.cypher_check.proofs.walk.clauses.clauses.Given as goal

abbrev pub invariant-loop-c : goal.invariant-loop-c
invariant-loop-c l = after l.scope (flat_map clause_asks (drop l.c-index l.cs)) ≡ after l.fn.scope (flat_map clause_asks l.cs)
