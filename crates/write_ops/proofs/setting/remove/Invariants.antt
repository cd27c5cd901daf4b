use Rattle.std.proofs.Common.{drop}
use Rattle.graph_reader.specs.Reading.{Continues}
use Rattle.write_ops.specs.Setting.{remove_row, remove_of}
use Rattle.write_ops.specs.Over.{over}
use Rattle.write_ops.proofs.setting.remove.Given as goal

abbrev pub invariant-loop-row : goal.invariant-loop-row
invariant-loop-row g l =
    Continues g.G.GraphRead.stands g.G.GraphRead.follows
    (λ w. remove_of w l.items l.table)
    (λ w. over (remove_row w l.items) l.ops (drop l.row-index l.table))
    l.fn.graph l.graph
