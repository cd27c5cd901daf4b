use Rattle.tt_intervals.proofs.Pushing.{AscendsTo}
use Rattle.tt_intervals.proofs.tests.pieces.Given as goal

abbrev pub invariant-loop-first : goal.invariant-loop-first
invariant-loop-first g l = AscendsTo l.free l.pieces.items
