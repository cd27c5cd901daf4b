use Rattle.std.proofs.Common.{refl}
use Rattle.front_core.specs.Rows.{aborted_row}
use Rattle.front_core.proofs.Ending.{aborted_twice, ended_more}
use Rattle.front_core.proofs.Placing.{ids_then}
use Rattle.front_core.proofs.objects.Objects.abort_all.Goals as goal

pub loop-x-preserved : goal.loop-x-preserved
loop-x-preserved c =
    ended_more c.args.self.now c.loop-x.self c.abort.new.self aborted_row aborted_twice c.args.written.now c.loop-x.x-index _ _ c.loop-x-test.true refl
    (ids_then c.args.self.now c.loop-x.self c.abort.new.self c.loop-x.invariant.ids c.abort.ensures.ids) c.loop-x.invariant c.abort.ensures
