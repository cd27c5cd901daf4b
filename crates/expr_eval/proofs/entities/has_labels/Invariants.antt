use Rattle.std.proofs.Common.{◌≡◌, drop}
use Rattle.expr_eval.specs.Entities.{has_labels}
use Rattle.expr_eval.proofs.entities.has_labels.Given as goal

abbrev pub invariant-loop-name : goal.invariant-loop-name
invariant-loop-name l = has_labels l.labels (drop l.name-index l.names) ≡ has_labels l.labels l.names
