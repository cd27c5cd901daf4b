use Rattle.std.proofs.Common.{drop}
use Rattle.graph_reader.specs.Reading.{Continues}
use Rattle.write_ops.specs.Setting.{remove_item, remove_row}
use Rattle.write_ops.specs.Over.{over}
use Rattle.write_ops.proofs.setting.remove_row.Given as goal

abbrev pub invariant-loop-item : goal.invariant-loop-item
invariant-loop-item g l =
    Continues g.G.GraphRead.stands g.G.GraphRead.follows
    (λ w. remove_row w l.items l.fn.ops l.row)
    (λ w. over (remove_item w l.row) l.ops (drop l.item-index l.items))
    l.fn.graph l.graph
