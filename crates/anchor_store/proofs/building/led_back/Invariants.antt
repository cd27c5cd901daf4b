use Rattle.std.proofs.Common.{◌≡◌, take}
use Rattle.undo_law.specs.Undone.{undone, deltas_of}
use Rattle.anchor_store.proofs.building.led_back.Given as goal

-- the newest of the deltas are undone
abbrev pub invariant-loop-dated : goal.invariant-loop-dated
invariant-loop-dated g l = l.older ≡ undone g.U.Undo.after l.object (deltas_of (take l.dated-index l.dated-items))
