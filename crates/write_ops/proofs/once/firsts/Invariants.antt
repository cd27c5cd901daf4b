use Rattle.std.proofs.Common.{◌≡◌, ◌++◌, drop}
use Rattle.write_ops.specs.Deleting.{firsts, firsts_on}
use Rattle.write_ops.proofs.once.firsts.Given as goal

abbrev pub invariant-loop-x : goal.invariant-loop-x
invariant-loop-x l = l.kept ++ firsts_on l.known.keys (drop l.x-index l.all) ≡ firsts l.all
