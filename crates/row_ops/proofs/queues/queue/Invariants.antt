use Rattle.std.proofs.Common.{◌≡◌, ◌++◌, length}
use Rattle.row_ops.proofs.queues.queue.Given as goal

abbrev pub invariant-loop-last : goal.invariant-loop-last
invariant-loop-last g l = l.items ++ l.queue.items ≡ l.fn.items

abbrev pub decreases-loop-last : goal.decreases-loop-last
decreases-loop-last g l = length l.items
