use Rattle.std.proofs.Common.{◌≡◌, take}
use Rattle.undo_law.specs.Undone.{undone, deltas_of}
use Rattle.undo_delta.specs.Apply.{after}
use Rattle.anchor_store.specs.Groups.{later}
use Rattle.front_core.specs.Outlines.{outline_of}
use Rattle.front_core.proofs.outline.Outline.in_block.Given as goal

-- the deltas that were looked at are undone where they are later
abbrev pub invariant-loop-dated : goal.invariant-loop-dated
invariant-loop-dated l = l.outline ≡ outline_of (undone after l.block.anchor (deltas_of (later l.t (take l.dated-index l.dated-items))))
