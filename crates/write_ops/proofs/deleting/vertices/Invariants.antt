use Rattle.std.proofs.Common.{◌≡◌, ◌++◌, filter, drop}
use Rattle.write_ops.specs.Deleting.{is_vertex}
use Rattle.write_ops.proofs.deleting.vertices.Given as goal

abbrev pub invariant-loop-x : goal.invariant-loop-x
invariant-loop-x l = l.all ++ filter is_vertex (drop l.x-index l.found) ≡ filter is_vertex l.found
