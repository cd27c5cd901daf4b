use Rattle.std.proofs.Common.{◌-◌, length, append-nil}
use Rattle.history_keeper.specs.Rows.{row_of}
use Rattle.history_keeper.proofs.Finding.{in_order-take}
use Rattle.history_keeper.proofs.tests.drop_newest.Goals as goal

pub extend-requires-clause-order : goal.extend-requires-clause-order
extend-requires-clause-order c =
    let blocks = (row_of c.args.keeper.now 0).blocks in
    rw (c.new.ensures.items, append-nil) (in_order-take (length blocks - 1) blocks c.cut-order.ensures.in_order)
