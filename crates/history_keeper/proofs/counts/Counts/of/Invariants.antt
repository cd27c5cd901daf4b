use Rattle.std.proofs.Common.{◌≡◌, map, take}
use Rattle.std.specs.Arc.{arc_value}
use Rattle.history_keeper.specs.Counted.{delta_count}
use Rattle.history_keeper.proofs.counts.Counts.of.Given as goal

-- the deltas of the blocks so far
abbrev pub invariant-loop-block : goal.invariant-loop-block
invariant-loop-block g l = l.deltas ≡ delta_count (map arc_value (take l.block-index l.blocks))
