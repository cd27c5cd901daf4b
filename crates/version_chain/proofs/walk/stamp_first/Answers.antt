use Rattle.std.proofs.Common.{arith}
use Rattle.version_chain.specs.Entry.{stamped}
use Rattle.version_chain.proofs.Changes.{set_front}
use Rattle.version_chain.proofs.walk.stamp_first.Goals as goal

pub loop-i-preserved : goal.loop-i-preserved
loop-i-preserved g c =
    let e = c.index_mut-entry.result.now in
    record {
      items = set_front (stamped c.args.ts) c.args.entries.now.items c.loop-i.entries.items c.loop-i.i e _ (omega arith) c.loop-i.invariant.items c.index_mut-entry.ensures.value cc;
      len = omega arith;
    }
