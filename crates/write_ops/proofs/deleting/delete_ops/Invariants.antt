use Rattle.std.proofs.Common.{◌≡◌, map, take}
use Rattle.write_ops.specs.Writing.{delete_op}
use Rattle.write_ops.proofs.deleting.delete_ops.Given as goal

abbrev pub invariant-loop-x : goal.invariant-loop-x
invariant-loop-x l = l.ops ≡ map delete_op (take l.x-index l.all)
