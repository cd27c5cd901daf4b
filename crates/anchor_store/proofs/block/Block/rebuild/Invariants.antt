use Rattle.std.proofs.Common.{◌≡◌, ◌+◌, length, take}
use Rattle.undo_law.specs.Undone.{undone, deltas_of}
use Rattle.anchor_store.specs.Groups.{later}
use Rattle.anchor_store.proofs.block.Block.rebuild.Given as goal

-- the deltas that were looked at are undone where they are later
abbrev pub invariant-loop-dated : goal.invariant-loop-dated
invariant-loop-dated g l = record {
  object : l.object ≡ undone g.U.Undo.after l.self.anchor (deltas_of (later l.t (take l.dated-index l.dated-items)));
  steps : l.steps ≡ l.initial.steps + length (later l.t (take l.dated-index l.dated-items));
}
