use Rattle.std.proofs.Common.{◌≡◌, ◌++◌, map, take}
use Rattle.write_ops.specs.Writing.{label_op}
use Rattle.write_ops.proofs.writing.with_label_ops.Given as goal

abbrev pub invariant-loop-label : goal.invariant-loop-label
invariant-loop-label l = l.ops ≡ l.fn.ops ++ map (label_op l.adds l.at) (take l.label-index l.labels)
