-- The text that an event list is answered with.
use Rattle.std.specs.Prelude.{◌≡◌, ℕ, List, [], ◌∷◌, ◌++◌, Option, Some, None, Bool, false, ◌&&◌, length, nat_lt, if◌then◌else◌}
use Rattle.graph_value.specs.declared.id.Oid.{Oid}
use Rattle.world_model.specs.declared.event.Event.{Event}
use Rattle.world_model.specs.declared.event.Event.TheVariants as event
use Rattle.world_model.specs.Pieces.{PieceParts}
use Rattle.world_model.specs.Placement.{piece_of}
use Rattle.world_model.specs.Reply.{Reply}
use Rattle.world_model.specs.Reply as reply
use Rattle.world_model.specs.World.{World, start_world}
use Rattle.world_model.specs.Step.{step}
use Rattle.world_model.specs.Replies.{asked_by}
use Rattle.world_model.specs.History.{Entry, may_want, no_memory, is_no_memory, world_after, run}
use Rattle.front_core.specs.Keeps.{first_start}
use Rattle.wire_line.specs.declared.line.TheConstants.{LINE_LIMIT}
use Rattle.wire_line.specs.Lines.{lines_of, without_return}
use Rattle.event_lines.specs.declared.request.Request.{Request}
use Rattle.event_lines.specs.declared.request.Wish.{Wish}
use Rattle.event_lines.specs.declared.request.Wish.TheVariants as wish
use Rattle.graph_shell.specs.Pieces.{Pieces, no_pieces, keeping}
use Rattle.event_lines.specs.Request.{request_of, is_skipped}
use Rattle.event_lines.specs.Reply.{caller_text, reply_text, piece_text, no_piece, bad_line}

-- the store's world, and the pieces that its callers keep
pub record Kept : Type 0 where
  pub world : World
  pub pieces : Pieces

-- before the first line
abbrev pub nothing_kept : ℕ → Kept
nothing_kept anchor = record { world = start_world (first_start anchor); pieces = no_pieces }

-- what is written for a line, and what is kept after it
pub record Answered : Type 0 where
  pub text : List ℕ
  pub after : Kept

-- the reply to an event: the step's, or that memory was wanting, where it may be
abbrev pub reply_to : Bool → World → ℕ → Event → Reply
reply_to wanting w caller e = if wanting && may_want w caller e then no_memory else (step w caller e).reply

abbrev pub entry_of : ℕ → Event → Reply → Entry
entry_of caller e r = record { caller = caller; event = e; reply = r }

-- what was lifted is kept as a piece, in place of the last one of its object
abbrev pub pieces_after : ℕ → Reply → Pieces → Pieces
pieces_after caller (reply.Lifted lifted) pieces = keeping caller lifted.x (Some (piece_of lifted)) pieces
pieces_after caller r pieces = pieces

-- an event is answered so
abbrev pub answer_event : Kept → ℕ → Event → Reply → Answered
answer_event k caller e r = record {
  text = reply_text caller (asked_by e) r;
  after = record { world = world_after k.world (entry_of caller e r); pieces = pieces_after caller r k.pieces };
}

-- and so is the installation of a piece, which is kept no longer, unless it found no memory
abbrev pub answer_piece : Kept → ℕ → Oid → PieceParts → Reply → Answered
answer_piece k caller x piece r = record {
  text = caller_text caller (piece_text x piece r);
  after = record {
    world = world_after k.world (entry_of caller (event.Install piece) r);
    pieces = if is_no_memory r then k.pieces else keeping caller x None k.pieces;
  };
}

-- The installation of what the caller keeps of an object. Where it keeps nothing, nothing happens.
abbrev pub answer_install : Bool → Kept → ℕ → Oid → Option PieceParts → Answered
answer_install wanting k caller x None = record { text = caller_text caller no_piece; after = k }
answer_install wanting k caller x (Some piece) = answer_piece k caller x piece (reply_to wanting k.world caller (event.Install piece))

abbrev pub answer_wish : Bool → Kept → ℕ → Wish → Answered
answer_wish wanting k caller (wish.Event e) = answer_event k caller e (reply_to wanting k.world caller e)
answer_wish wanting k caller (wish.Install x) = answer_install wanting k caller x (k.pieces caller x)

abbrev pub answer_request : Bool → Kept → Option Request → Answered
answer_request wanting k None = record { text = bad_line; after = k }
answer_request wanting k (Some r) = answer_wish wanting k r.caller r.wish

-- a line that isn't too long, without its carriage return
abbrev pub answer_short : Bool → Kept → List ℕ → Answered
answer_short wanting k line = if is_skipped line then record { text = []; after = k } else answer_request wanting k (request_of line)

-- A line that is too long is answered as a bad one. A line's carriage return counts for its length, and is then dropped.
abbrev pub answer_line : Bool → Kept → List ℕ → Answered
answer_line wanting k line = if nat_lt LINE_LIMIT (length line) then record { text = bad_line; after = k } else answer_short wanting k (without_return line)

-- whether the first line found no memory, by a list of such tests; past its end none did
abbrev pub first_wanting : List Bool → Bool
first_wanting [] = false
first_wanting (b ∷ bs) = b

abbrev pub later_wanting : List Bool → List Bool
later_wanting [] = []
later_wanting (b ∷ bs) = bs

-- the answers to the lines, one after the other
unfoldable pub lines_text : List Bool → Kept → List (List ℕ) → List ℕ
lines_text wanting k [] = []
lines_text wanting k (line ∷ lines) =
    (answer_line (first_wanting wanting) k line).text
    ++ lines_text (later_wanting wanting) (answer_line (first_wanting wanting) k line).after lines

-- the answers to the lines of a run, where the lines that `wanting` marks found no memory
abbrev pub answers_text : ℕ → List Bool → List (List ℕ) → List ℕ
answers_text anchor wanting lines = lines_text wanting (nothing_kept anchor) lines

-- The text that answers an event list.
abbrev pub events_text : ℕ → List Bool → List ℕ → List ℕ
events_text anchor wanting bytes = answers_text anchor wanting (lines_of bytes)
