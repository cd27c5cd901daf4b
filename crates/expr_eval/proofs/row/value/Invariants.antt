use Rattle.std.proofs.Common.{◌≡◌, drop}
use Rattle.expr_eval.specs.Row.{value_of}
use Rattle.expr_eval.proofs.row.value.Given as goal

abbrev pub invariant-loop-known : goal.invariant-loop-known
invariant-loop-known l = value_of (drop l.known-index l.row) l.name ≡ value_of l.row l.name
