use Rattle.std.proofs.Common.{◌≡◌, ◌++◌, map, take}
use Rattle.graph_value.specs.declared.id.Oid.TheVariants.{Edge}
use Rattle.write_ops.proofs.deleting.with_edges.Given as goal

abbrev pub invariant-loop-e : goal.invariant-loop-e
invariant-loop-e l = l.all ≡ l.fn.all ++ map Edge (take l.e-index l.edges)
