use Rattle.std.proofs.Common.{◌≡◌, ◌++◌, filter, drop}
use Rattle.write_ops.specs.Deleting.{is_edge}
use Rattle.write_ops.proofs.deleting.edges.Given as goal

abbrev pub invariant-loop-x : goal.invariant-loop-x
invariant-loop-x l = l.all ++ filter is_edge (drop l.x-index l.found) ≡ filter is_edge l.found
