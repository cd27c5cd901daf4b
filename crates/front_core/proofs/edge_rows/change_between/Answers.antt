use Rattle.std.proofs.Common.{◌≤◌, ap, arith}
use Rattle.front_core.specs.RoomFor.{delta_count}
use Rattle.front_core.proofs.Counting.{start_count}
use Rattle.front_core.proofs.edge_rows.change_between.Goals as goal

pub push-requires : goal.push-requires
push-requires c =
    let count = start_count c.args.op.now c.args.ends c.from.inside.newest c.requires.joined c.requires.apart in
    omega (arith, count, c.in_ok-reserve.ensures.room, ap (λ d. delta_count d.from) c.in_ok-deltas.ensures.deltas)
