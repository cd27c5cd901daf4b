use Rattle.std.proofs.Common.{◌≡◌, drop}
use Rattle.expr_eval.specs.Comparing.{equals_one}
use Rattle.expr_eval.specs.Truth.{tri_or}
use Rattle.expr_eval.proofs.comparing.equals_one.Given as goal

abbrev pub invariant-loop-item : goal.invariant-loop-item
invariant-loop-item l = tri_or l.answer (equals_one l.value (drop l.item-index l.items)) ≡ equals_one l.value l.items
