-- Where the deltas of each object lie: in its chain, or in the blocks of its history.
use Rattle.std.specs.Prelude.{◌≡◌, ℕ, ◌+◌, ◌≤◌, List, ◌++◌, Option, true, is_some, length, filter, map, fold, nat_lt, nat_le}
use Rattle.std.specs.List.{range_with_len}
use Rattle.graph_value.specs.declared.id.Oid.{Oid}
use Rattle.graph_record.specs.declared.object.Object.{Object}
use Rattle.graph_record.specs.Graph.{object_at}
use Rattle.undo_law.specs.Undone.{undone, deltas_of}
use Rattle.undo_law.specs.declared.dated.Dated.{Dated}
use Rattle.undo_delta.specs.Apply.{after}
use Rattle.undo_delta.specs.declared.delta.Delta.{Delta}
use Rattle.anchor_store.specs.Blocks.{BlockParts, blocks, newest_of, older_deltas, smaller_than, staying}
use Rattle.world_model.specs.declared.event.Kind.TheVariants.{Vertex, Edge}
use Rattle.world_model.specs.declared.answer.Stats.{Stats}
use Rattle.world_model.specs.Pieces.{LiftedParts, PieceParts}
use Rattle.world_model.specs.Op.{is_given}
use Rattle.world_model.specs.Undo.{undo_list}
use Rattle.world_model.specs.Views.{oid_of}
use Rattle.world_model.specs.World.{World, fold_of, cut_of, mark}

-- the deltas below a number
abbrev pub below : ℕ → List (Dated Delta) → List (Dated Delta)
below n deltas = filter (λ d. nat_lt d.ts n) deltas

-- and those that aren't
abbrev pub since : ℕ → List (Dated Delta) → List (Dated Delta)
since n deltas = filter (λ d. nat_le n d.ts) deltas

-- the deltas of an object that were moved into its history, the newest first
abbrev pub history : World → Oid → List (Dated Delta)
history w x = below (cut_of w x) (undo_list w x)

-- and those that lie in its chain
abbrev pub chain : World → Oid → List (Dated Delta)
chain w x = since (cut_of w x) (undo_list w x)

-- the object as the commits below a number left it: all others are undone
abbrev pub object_below : World → Oid → ℕ → Object
object_below w x n = undone after (object_at (fold_of w.commits) x) (deltas_of (since n (undo_list w x)))

-- The history of an object in blocks, the oldest first: grouped by the interval from the oldest delta on, each with the
-- object after its newest delta.
abbrev pub blocks_of : World → Oid → List (BlockParts Object Delta)
blocks_of w x = blocks after w.interval (object_below w x (cut_of w x)) (history w x)

-- LIFTING

-- the deltas in the chain that have expired: nothing that is open, or begins later, needs them to be at hand
abbrev pub expired : World → Oid → List (Dated Delta)
expired w x = below (mark w) (chain w x)

-- the newest block of an object, where it has room
abbrev pub block_with_room : World → Oid → Option (BlockParts Object Delta)
block_with_room w x = smaller_than w.interval (newest_of (blocks_of w x))

-- what a lift of an object copies: its expired deltas, the object after the newest of them, and the block with room
abbrev pub lifted_of : World → Oid → LiftedParts
lifted_of w x = record {
  x = x;
  cut = cut_of w x;
  mark = mark w;
  interval = w.interval;
  newest = object_below w x (mark w);
  deltas = expired w x;
  older = block_with_room w x;
}

-- what is built of a lift: the blocks of the older block's deltas and the lifted ones
abbrev pub piece_of : LiftedParts → PieceParts
piece_of l = record {
  x = l.x;
  cut = l.cut;
  mark = l.mark;
  moved = length l.deltas;
  blocks = blocks after l.interval l.newest (l.deltas ++ older_deltas l.older);
}

-- INSTALLING

-- The piece is right for a world: where its cut is still the object's, its blocks and those that stay are all the
-- blocks of the deltas below its mark.
pub record IsRight (w : World) (piece : PieceParts) : Type 0 where
  pub given : is_given w.vertices w.edges piece.x ≡ true
  pub order : (piece.cut ≤ piece.mark) × (piece.mark ≤ mark w)
  pub moved : piece.cut ≡ cut_of w piece.x → piece.moved ≡ length (below piece.mark (chain w piece.x))
  pub blocks : piece.cut ≡ cut_of w piece.x →
      staying (is_some (block_with_room w piece.x)) (blocks_of w piece.x) ++ piece.blocks
      ≡ blocks after w.interval (object_below w piece.x piece.mark) (below piece.mark (undo_list w piece.x))

-- COUNTING

-- the objects that were ever made, or are dead from the start
abbrev pub given_oids : World → List Oid
given_oids w = map (oid_of Vertex) (range_with_len 0 w.vertices) ++ map (oid_of Edge) (range_with_len 0 w.edges)

-- a number of each object, summed over all
abbrev pub sum_over : World → (Oid → ℕ) → ℕ
sum_over w f = fold (λ sum x. sum + f x) 0 (given_oids w)

abbrev pub stats_of : World → Stats
stats_of w = record {
  chain = sum_over w (λ x. length (chain w x));
  history = sum_over w (λ x. length (history w x));
  blocks = sum_over w (λ x. length (blocks_of w x));
}
