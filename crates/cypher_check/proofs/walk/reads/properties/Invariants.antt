use Rattle.std.proofs.Common.{◌≡◌, ℕ, List, drop}
use Rattle.std.specs.List.{flat_map}
use Rattle.cypher_syntax.specs.declared.tree.expr.Expr.{Expr}
use Rattle.cypher_check.specs.Asks.{after}
use Rattle.cypher_check.specs.Clauses.{plain}
use Rattle.cypher_check.proofs.walk.reads.properties.Given as goal

abbrev pub invariant-loop-e : goal.invariant-loop-e
invariant-loop-e l = after l.scope (flat_map (λ (p : List ℕ × Expr). plain p.1) (drop l.e-index l.properties)) ≡ after l.fn.scope (flat_map (λ (p : List ℕ × Expr). plain p.1) l.properties)
