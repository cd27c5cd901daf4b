-- What is copied out of an object's chain, and what is built of it for the object's history.
use Rattle.std.specs.Prelude.{ℕ, List, Option}
use Rattle.graph_value.specs.declared.id.Oid.{Oid}
use Rattle.graph_record.specs.declared.object.Object.{Object}
use Rattle.undo_law.specs.declared.dated.Dated.{Dated}
use Rattle.undo_delta.specs.declared.delta.Delta.{Delta}
use Rattle.anchor_store.specs.Blocks.{BlockParts}

-- deltas from an object's cut up to the mark, the newest first, the object after the newest of them, and the object's
-- newest block where that has room
pub record LiftedParts : Type 0 where
  pub x : Oid
  pub cut : ℕ
  pub mark : ℕ
  pub interval : ℕ
  pub newest : Object
  pub deltas : List (Dated Delta)
  pub older : Option (BlockParts Object Delta)

-- how many deltas were lifted, and the blocks that they make together with those of the block that had room, the oldest
-- first
pub record PieceParts : Type 0 where
  pub x : Oid
  pub cut : ℕ
  pub mark : ℕ
  pub moved : ℕ
  pub blocks : List (BlockParts Object Delta)
