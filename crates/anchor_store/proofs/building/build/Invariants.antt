use Rattle.std.proofs.Common.{◌≡◌, ◌∷◌, ◌++◌, length, map}
use Rattle.std.specs.Arc.{arc_value}
use Rattle.std.specs.Option.{option_copied}
use Rattle.anchor_store.specs.Blocks.{anchored, older_deltas}
use Rattle.anchor_store.specs.Groups.{groups}
use Rattle.anchor_store.proofs.Made.{AreBlocks}
use Rattle.anchor_store.proofs.building.build.Given as goal

-- the blocks that are built, and those that the other groups become
abbrev pub invariant-loop-older_deltas : goal.invariant-loop-older_deltas
invariant-loop-older_deltas g l = record {
  built : map arc_value l.built.items ++ anchored g.U.Undo.after l.anchor (l.deltas ∷ l.groups)
      ≡ anchored g.U.Undo.after l.fn.tail.newest (groups l.fn.interval (l.fn.tail.deltas ++ older_deltas (option_copied l.fn.older)));
  blocks : AreBlocks (l.deltas ∷ l.groups);
}

abbrev pub decreases-loop-older_deltas : goal.decreases-loop-older_deltas
decreases-loop-older_deltas g l = length l.groups
