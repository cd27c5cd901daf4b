use Rattle.std.proofs.Common.{◌≡◌, take}
use Rattle.undo_law.specs.Undone.{undone}
use Rattle.version_chain.specs.Parts.{deltas_of}
use Rattle.version_chain.proofs.walk.undo_first.Given as goal

abbrev pub invariant-loop-i : goal.invariant-loop-i
invariant-loop-i g l = l.object ≡ undone g.U.Undo.after l.newest (deltas_of (take l.i l.entries.items))
