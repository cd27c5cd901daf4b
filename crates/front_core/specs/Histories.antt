-- The histories of all objects, found by their ids.
use Rattle.std.specs.Prelude.{◌≡◌, ◌+◌, if◌then◌else◌}
use Rattle.graph_value.specs.declared.id.Oid.{Oid}
use Rattle.graph_value.specs.declared.id.Oid.TheVariants.{Vertex, Edge}
use Rattle.graph_record.specs.declared.object.Object.{Object}
use Rattle.undo_delta.specs.Touch.{same_oid}
use Rattle.undo_delta.specs.declared.delta.Delta.{Delta}
use Rattle.history_keeper.specs.Counted.{counts_of}
use Rattle.history_keeper.specs.Rows.{RowParts}
use Rattle.history_keeper.specs.declared.counts.Counts.{Counts}
use Rattle.front_core.specs.History.{history_of}
use Rattle.front_core.specs.declared.histories.Histories.{Histories}

abbrev pub history_at : Histories → Oid → RowParts Object Delta
history_at h (Vertex v) = history_of h.vertices v.0
history_at h (Edge e) = history_of h.edges e.0

-- the deltas and the blocks of all histories
abbrev pub all_counts : Histories → Counts
all_counts h = record {
  deltas = (counts_of h.vertices.rows).deltas + (counts_of h.edges.rows).deltas;
  blocks = (counts_of h.vertices.rows).blocks + (counts_of h.edges.rows).blocks;
}

-- how many deltas a block holds, and the first numbers
pub record SameBase (old new : Histories) : Type 0 where
  pub interval : new.interval ≡ old.interval
  pub vertices : new.vertices.first ≡ old.vertices.first
  pub edges : new.edges.first ≡ old.edges.first

-- one history is another, and all else stays
pub record Moved (old new : Histories) (x : Oid) (r : RowParts Object Delta) : Type 0 where
  pub rows : (y : Oid) → history_at new y ≡ (if same_oid y x then r else history_at old y)
  pub base : SameBase old new

-- each history is what it was
pub record Unchanged (old new : Histories) : Type 0 where
  pub rows : (y : Oid) → history_at new y ≡ history_at old y
  pub base : SameBase old new
