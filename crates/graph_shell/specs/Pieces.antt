-- The pieces that callers keep: of each object that one has lifted, the last piece, until it is sent.
use Rattle.std.specs.Prelude.{◌≡◌, ◌⊎◌, ℕ, Bool, ◌&&◌, nat_eq, length, if◌then◌else◌, Option, Some, None}
use Rattle.graph_value.specs.declared.id.Oid.{Oid}
use Rattle.undo_delta.specs.Touch.{same_oid}
use Rattle.world_model.specs.Pieces.{LiftedParts, PieceParts}
use Rattle.world_model.specs.Placement.{piece_of}
use Rattle.event_lines.specs.declared.told.Told.{Told}
use Rattle.event_lines.specs.declared.told.Told.TheVariants as told
use Rattle.event_lines.specs.Told.{wanting}

-- what each caller keeps of each object
abbrev pub Pieces : Type 0
Pieces = ℕ → Oid → Option PieceParts

-- at first nobody keeps any
abbrev pub no_pieces : Pieces
no_pieces caller x = None

-- the caller keeps this of the object, and all else stays
abbrev pub keeping : ℕ → Oid → Option PieceParts → Pieces → Pieces
keeping caller x piece kept = λ c y. if nat_eq c caller && same_oid y x then piece else kept c y

-- what was lifted is told and kept as a piece; or memory was wanting, and all stays
abbrev pub LiftIsTold : ℕ → LiftedParts → Pieces → Pieces → Told → Type 0
LiftIsTold caller lifted before after t =
    ((t ≡ told.Lifted lifted.x lifted.cut lifted.mark (length lifted.deltas)) × (after ≡ keeping caller lifted.x (Some (piece_of lifted)) before))
    ⊎ ((t ≡ wanting) × (after ≡ before))
