use Rattle.std.proofs.Common.{drop}
use Rattle.graph_reader.specs.Reading.{Continues}
use Rattle.write_ops.specs.Setting.{set_item, set_row}
use Rattle.write_ops.specs.Over.{over}
use Rattle.write_ops.proofs.setting.set_row.Given as goal

abbrev pub invariant-loop-item : goal.invariant-loop-item
invariant-loop-item g l =
    Continues g.G.GraphRead.stands g.G.GraphRead.follows
    (λ w. set_row w l.items l.fn.ops l.row)
    (λ w. over (set_item w l.row) l.ops (drop l.item-index l.items))
    l.fn.graph l.graph
