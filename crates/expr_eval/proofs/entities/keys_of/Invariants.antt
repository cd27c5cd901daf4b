use Rattle.std.proofs.Common.{◌≡◌, map, take}
use Rattle.graph_value.specs.declared.value.Value.TheVariants as value
use Rattle.expr_eval.proofs.entities.keys_of.Given as goal

abbrev pub invariant-loop-name : goal.invariant-loop-name
invariant-loop-name l = l.items ≡ map (λ p. value.Text p.0) (take l.name-index l.props)
