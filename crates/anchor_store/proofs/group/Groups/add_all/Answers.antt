use Rattle.std.proofs.Common.{◌∙◌}
use Rattle.anchor_store.proofs.Grouped.{joined_all-pop}
use Rattle.anchor_store.proofs.group.Groups.add_all.Goals as goal

pub loop-dated-preserved : goal.loop-dated-preserved
loop-dated-preserved g c =
    let step = joined_all-pop c.args.interval c.pop.new.self.items c.loop-dated.deltas.items c.in-Some.dated c.loop-dated.self c.add.new.self c.in-Some.ensures.items c.in_ok-add.ensures in
    step ∙ c.loop-dated.invariant
