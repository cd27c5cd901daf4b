use Rattle.std.proofs.Common.{◌≡◌, drop}
use Rattle.tt_clauses.specs.Seen.{no_tuple, with_tuples}
use Rattle.tt_clauses.proofs.tuples.set_of.Given as goal

abbrev pub invariant-loop-tuple : goal.invariant-loop-tuple
invariant-loop-tuple l = with_tuples no_tuple l.tuples ≡ with_tuples l.set (drop l.tuple-index l.tuples)
