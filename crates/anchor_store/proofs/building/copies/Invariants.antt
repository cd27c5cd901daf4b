use Rattle.std.proofs.Common.{◌≡◌, take}
use Rattle.anchor_store.proofs.building.copies.Given as goal

abbrev pub invariant-loop-dated : goal.invariant-loop-dated
invariant-loop-dated g l = l.copies ≡ take l.dated-index l.deltas
