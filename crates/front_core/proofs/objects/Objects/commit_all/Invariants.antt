use Rattle.std.proofs.Common.{take}
use Rattle.graph_value.specs.declared.id.Oid.{Oid}
use Rattle.front_core.specs.Objects.{Ended, row_at}
use Rattle.front_core.specs.Rows.{committed_row, MayCommit}
use Rattle.front_core.proofs.objects.Objects.commit_all.Given as goal

-- the first of them are done, and the others may be
abbrev pub invariant-loop-x : goal.invariant-loop-x
invariant-loop-x l = record {
  done : Ended l.initial.self l.self (committed_row l.ts) (take l.x-index l.written);
  may : (x : Oid) → MayCommit l.ts (row_at l.self x);
}
