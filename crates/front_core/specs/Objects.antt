-- The rows of all objects, and what a change of some of them leaves.
use Rattle.std.specs.Prelude.{◌≡◌, ℕ, ◌+◌, List, filter, is_none, length, if◌then◌else◌}
use Rattle.std.specs.List.{list_any}
use Rattle.graph_value.specs.declared.id.Oid.{Oid}
use Rattle.graph_value.specs.declared.id.Oid.TheVariants.{Vertex, Edge}
use Rattle.undo_delta.specs.Touch.{is_touched, same_oid}
use Rattle.undo_delta.specs.declared.op.Op.{Op}
use Rattle.undo_delta.specs.declared.op.Op.TheVariants.{CreateVertex, DeleteVertex, AddLabel, RemoveLabel, SetVertexProp, CreateEdge, DeleteEdge, SetEdgeProp}
use Rattle.world_model.specs.declared.event.Kind.{Kind}
use Rattle.world_model.specs.declared.event.Kind.TheVariants as kind
use Rattle.front_core.specs.Rows.{ObjectRow, written_row}
use Rattle.front_core.specs.Tables.{Numbered, row_of, next_of, HasRow}
use Rattle.front_core.specs.declared.objects.Objects.{Objects}

abbrev pub row_at : Objects → Oid → ObjectRow
row_at o (Vertex v) = row_of o.vertices v.0
row_at o (Edge e) = row_of o.edges e.0

abbrev pub Has : Objects → Oid → Type 0
Has o (Vertex v) = HasRow o.vertices v.0
Has o (Edge e) = HasRow o.edges e.0

-- the number of the first row of a kind, and the one that the next object gets
abbrev pub range_of : Objects → Kind → ℕ × ℕ
range_of o kind.Vertex = (o.vertices.first, next_of o.vertices)
range_of o kind.Edge = (o.edges.first, next_of o.edges)

-- both have rows for the same numbers
pub record SameNumbers (old new : Numbered) : Type 0 where
  pub first : new.first ≡ old.first
  pub count : length new.rows ≡ length old.rows

pub record SameIds (old new : Objects) : Type 0 where
  pub vertices : SameNumbers old.vertices new.vertices
  pub edges : SameNumbers old.edges new.edges

-- one row is another, and all else stays
pub record Replaced (old new : Objects) (x : Oid) (r : ObjectRow) : Type 0 where
  pub rows : (y : Oid) → row_at new y ≡ (if same_oid y x then r else row_at old y)
  pub ids : SameIds old new

-- each row is what it was
pub record Unmoved (old new : Objects) : Type 0 where
  pub rows : (y : Oid) → row_at new y ≡ row_at old y
  pub ids : SameIds old new

-- a write was done on each row that it touches, and all else stays
pub record Rewritten (old new : Objects) (caller start : ℕ) (op : Op) : Type 0 where
  pub rows : (y : Oid) → row_at new y ≡ (if is_touched op y then written_row caller start op y (row_at old y) else row_at old y)
  pub ids : SameIds old new

-- those of the objects that no open transaction writes
abbrev pub unwritten : Objects → List Oid → List Oid
unwritten o xs = filter (λ x. is_none (row_at o x).writing) xs

-- MAKING

abbrev pub made_vertices : Op → ℕ
made_vertices (CreateVertex v) = 1
made_vertices (DeleteVertex v) = 0
made_vertices (AddLabel v name) = 0
made_vertices (RemoveLabel v name) = 0
made_vertices (SetVertexProp v name value) = 0
made_vertices (CreateEdge e from kind to) = 0
made_vertices (DeleteEdge e from to) = 0
made_vertices (SetEdgeProp e name value) = 0

abbrev pub made_edges : Op → ℕ
made_edges (CreateVertex v) = 0
made_edges (DeleteVertex v) = 0
made_edges (AddLabel v name) = 0
made_edges (RemoveLabel v name) = 0
made_edges (SetVertexProp v name value) = 0
made_edges (CreateEdge e from kind to) = 1
made_edges (DeleteEdge e from to) = 0
made_edges (SetEdgeProp e name value) = 0

-- so many numbers were given out, and each row is what it was
pub record Grown (old new : Objects) (more_vertices more_edges : ℕ) : Type 0 where
  pub rows : (y : Oid) → row_at new y ≡ row_at old y
  pub first_vertex : new.vertices.first ≡ old.vertices.first
  pub first_edge : new.edges.first ≡ old.edges.first
  pub vertices : length new.vertices.rows ≡ length old.vertices.rows + more_vertices
  pub edges : length new.edges.rows ≡ length old.edges.rows + more_edges

-- ENDING

-- each of the listed rows has become what f makes of it, and all else stays
pub record Ended (old new : Objects) (f : ObjectRow → ObjectRow) (written : List Oid) : Type 0 where
  pub rows : (y : Oid) → row_at new y ≡ (if list_any (same_oid y) written then f (row_at old y) else row_at old y)
  pub ids : SameIds old new
