use Rattle.std.proofs.Common.{arith}
use Rattle.tt_intervals.proofs.Pushing.{ascends_to-push}
use Rattle.tt_intervals.proofs.tests.pieces.Goals as goal

pub loop-first-preserved : goal.loop-first-preserved
loop-first-preserved g c =
    ascends_to-push c.loop-first.free _ c.loop-first.pieces.items c.push.new.self.items (c.span.result, _) c.loop-first.invariant (omega arith) (omega arith) c.in_ok-push.ensures.items
