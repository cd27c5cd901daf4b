use Rattle.std.proofs.Common.{length, ap, ◌∙◌}
use Rattle.world_model.specs.Pieces.{LiftedParts}
use Rattle.collector.specs.Advancing.{stage_of}
use Rattle.collector.specs.Left.{left_of}
use Rattle.collector.proofs.Steps.{tells_nothing}
use Rattle.collector.proofs.sweep.Sweep.keep.Goals as goal

pub returns-then-count-eq0-clause-told : goal.returns-then-count-eq0-clause-told
returns-then-count-eq0-clause-told c =
    let sweep = c.args.self.now in
    tells_nothing sweep.begun (left_of sweep.left) sweep.kept c.args.mark c.args.x c.requires.begun c.requires.first c.requires.kept c.args.lifted c.len-count.result (stage_of c.pass.new.self) (c.len-count.ensures ∙ ap (λ (l : LiftedParts). length l.deltas) c.lifted.view_is) c.if-count-eq0.true c.pass.ensures
