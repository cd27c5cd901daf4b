use Rattle.std.proofs.Common.{◌≡◌, map, take}
use Rattle.graph_value.specs.declared.value.Value.TheVariants as value
use Rattle.expr_eval.proofs.entities.texts.Given as goal

abbrev pub invariant-loop-name : goal.invariant-loop-name
invariant-loop-name l = l.items ≡ map value.Text (take l.name-index l.names)
