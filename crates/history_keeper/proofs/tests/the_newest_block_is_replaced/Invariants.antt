use Rattle.std.proofs.Common.{◌≡◌, length}
use Rattle.history_keeper.proofs.tests.the_newest_block_is_replaced.Given as goal

abbrev pub invariant-loop-newest : goal.invariant-loop-newest
invariant-loop-newest g l = length l.keeper ≡ 1
