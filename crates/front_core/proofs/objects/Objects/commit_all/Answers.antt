use Rattle.std.proofs.Common.{refl}
use Rattle.front_core.specs.Rows.{committed_row}
use Rattle.front_core.proofs.Ending.{committed_twice, ended_more, replaced_may}
use Rattle.front_core.proofs.Placing.{ids_then}
use Rattle.front_core.proofs.objects.Objects.commit_all.Goals as goal

pub loop-x-preserved : goal.loop-x-preserved
loop-x-preserved c = record {
  done = ended_more c.args.self.now c.loop-x.self c.commit.new.self (committed_row c.args.ts) (committed_twice c.args.ts) c.args.written.now c.loop-x.x-index _ _ c.loop-x-test.true refl
      (ids_then c.args.self.now c.loop-x.self c.commit.new.self c.loop-x.invariant.done.ids c.commit.ensures.ids) c.loop-x.invariant.done c.commit.ensures;
  may = replaced_may c.args.ts c.loop-x.self c.commit.new.self _ c.commit.ensures c.loop-x.invariant.may;
}
