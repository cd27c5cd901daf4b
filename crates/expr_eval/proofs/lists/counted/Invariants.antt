use Rattle.std.proofs.Common.{◌≡◌, ◌-◌, ◌++◌, pos, ◌+ℤ◌}
use Rattle.expr_eval.specs.Lists.{counted}
use Rattle.expr_eval.proofs.lists.counted.Given as goal

abbrev pub invariant-loop-made : goal.invariant-loop-made
invariant-loop-made l = record {
  next : l.next ≡ l.first +ℤ pos l.made;
  items : l.items ++ counted l.next (l.count - l.made) ≡ counted l.first l.count;
}
