use Rattle.std.proofs.Common.{◌≡◌, drop}
use Rattle.expr_eval.specs.Texts.{contains}
use Rattle.expr_eval.proofs.texts.contains.Given as goal

abbrev pub invariant-loop-at : goal.invariant-loop-at
invariant-loop-at l = contains (drop l.at l.text) l.part ≡ contains l.text l.part
