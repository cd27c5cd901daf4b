use Rattle.std.proofs.Common.{◌≡◌, take, ap, ◌∙◌}
use Rattle.std.proofs.lemmas.List.{take_all}
use Rattle.undo_law.specs.Undone.{undone, deltas_of}
use Rattle.undo_delta.specs.Apply.{after}
use Rattle.anchor_store.specs.Groups.{later}
use Rattle.front_core.specs.Outlines.{outline_of}
use Rattle.front_core.proofs.outline.Outline.in_block.Goals as goal

pub returns : goal.returns
returns c =
    c.loop-dated.invariant
    ∙ ap (λ ds. outline_of (undone after c.args.block.now.anchor (deltas_of (later c.args.t ds)))) (take_all c.loop-dated.dated-index c.deltas-dated-items.result.now c.loop-dated-test.false ∙ c.deltas-dated-items.ensures.value)
