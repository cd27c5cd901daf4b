use Rattle.std.proofs.Common.{◌≡◌, ◌++◌, drop}
use Rattle.std.specs.List.{flat_map}
use Rattle.cypher_syntax.specs.declared.tree.pattern.EdgePattern.{EdgePattern}
use Rattle.cypher_syntax.specs.declared.tree.pattern.NodePattern.{NodePattern}
use Rattle.cypher_print.specs.Pieces.{written}
use Rattle.cypher_print.specs.QueryText.{node, edge}
use Rattle.cypher_print.proofs.patterns.steps.Given as goal

abbrev pub invariant-loop-e : goal.invariant-loop-e
invariant-loop-e l = written l.out (flat_map (λ (s : EdgePattern × NodePattern). edge s.0 ++ node s.1) (drop l.e-index l.steps)) ≡ written l.fn.out (flat_map (λ (s : EdgePattern × NodePattern). edge s.0 ++ node s.1) l.steps)
