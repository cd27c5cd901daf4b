use Rattle.std.proofs.Common.{◌-◌, length}
use Rattle.undo_delta.specs.Touch.{touches}
use Rattle.front_core.proofs.state.State.+write_noted.Given as goal

-- the objects that are left
abbrev pub decreases-write_noted : goal.decreases-write_noted
decreases-write_noted l = length (touches l.op.now) - l.i
