use Rattle.std.proofs.Common.{◌≡◌}
use Rattle.tt_clauses.specs.Seen.{with_tuples}
use Rattle.tt_clauses.proofs.tuples.with_set.Given as goal

abbrev pub invariant-loop-tuple : goal.invariant-loop-tuple
invariant-loop-tuple l = with_tuples l.fn.all l.set.keys ≡ with_tuples l.all l.tuple-iterator
