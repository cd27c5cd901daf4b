use Rattle.std.proofs.Common.{◌≡◌, length}
use Rattle.anchor_store.specs.Groups.{joined_all}
use Rattle.anchor_store.proofs.group.Groups.add_all.Given as goal

-- with the deltas that are still to come the groups are those of all
abbrev pub invariant-loop-dated : goal.invariant-loop-dated
invariant-loop-dated g l = joined_all l.interval l.deltas.items l.self ≡ joined_all l.interval l.fn.deltas l.initial.self

abbrev pub decreases-loop-dated : goal.decreases-loop-dated
decreases-loop-dated g l = length l.deltas.items
