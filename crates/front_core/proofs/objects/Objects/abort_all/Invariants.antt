use Rattle.std.proofs.Common.{take}
use Rattle.front_core.specs.Objects.{Ended}
use Rattle.front_core.specs.Rows.{aborted_row}
use Rattle.front_core.proofs.objects.Objects.abort_all.Given as goal

-- the first of them are done
abbrev pub invariant-loop-x : goal.invariant-loop-x
invariant-loop-x l = Ended l.initial.self l.self aborted_row (take l.x-index l.written)
