use Rattle.std.proofs.Common.{◌≡◌, ◌++◌, drop, false}
use Rattle.std.specs.List.{flat_map}
use Rattle.cypher_syntax.specs.declared.tree.pattern.EdgePattern.{EdgePattern}
use Rattle.cypher_syntax.specs.declared.tree.pattern.NodePattern.{NodePattern}
use Rattle.cypher_check.specs.Asks.{after}
use Rattle.cypher_check.specs.Clauses.{new_edge_asks, new_node_asks}
use Rattle.cypher_check.proofs.walk.patterns.new_steps.Given as goal

abbrev pub invariant-loop-e : goal.invariant-loop-e
invariant-loop-e l = after l.scope (flat_map (λ (s : EdgePattern × NodePattern). new_edge_asks s.0 ++ new_node_asks false s.1) (drop l.e-index l.steps)) ≡ after l.fn.scope (flat_map (λ (s : EdgePattern × NodePattern). new_edge_asks s.0 ++ new_node_asks false s.1) l.steps)
