use Rattle.std.proofs.Common.{◌≡◌, take}
use Rattle.row_ops.proofs.compiling.names_copy.Given as goal

abbrev pub invariant-loop-name : goal.invariant-loop-name
invariant-loop-name l = l.copies ≡ take l.name-index l.names
