use Rattle.std.proofs.Common.{◌-◌, ◌≤◌, length}
use Rattle.history_keeper.proofs.Finding.{NoneBefore, SomeAt}
use Rattle.history_keeper.proofs.row.Row.locate.Given as goal

-- no block before the lower end has a later delta, and the block at the upper end has one
abbrev pub invariant-loop-low : goal.invariant-loop-low
invariant-loop-low g l = record {
  ends : l.low ≤ l.high;
  within : l.high ≤ length l.self.blocks;
  before : NoneBefore l.t l.low l.self.blocks;
  at : SomeAt l.t l.high l.self.blocks;
}

abbrev pub decreases-loop-low : goal.decreases-loop-low
decreases-loop-low g l = l.high - l.low
