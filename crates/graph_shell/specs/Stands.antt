-- What the shell stands for: a history of its store, and pieces of that history which its callers keep.
use Rattle.std.specs.Prelude.{◌≡◌, ℕ, List, [], Option, Some, None, Bool}
use Rattle.graph_value.specs.declared.id.Oid.{Oid}
use Rattle.world_model.specs.Pieces.{PieceParts}
use Rattle.world_model.specs.World.{Start, start_world}
use Rattle.world_model.specs.History.{Entry, IsPieceOf, run}
use Rattle.front_core.specs.Keeps.{StandsFor, first_start}
use Rattle.front_core.specs.declared.state.State.{State}
use Rattle.graph_shell.specs.Events.{Kept, Answered}
use Rattle.graph_shell.specs.Kept.{Places, pieces_in}
use Rattle.graph_shell.specs.Pieces.{Pieces, no_pieces}

-- a store, and the places of what its callers keep
pub record ShellParts : Type 0 where
  pub core : State
  pub places : Places

-- what has happened: the numbers that the store began with, the entries of its history, and the pieces that are kept
pub record Past : Type 0 where
  pub start : Start
  pub es : List Entry
  pub pieces : Pieces

-- nothing, from these numbers on
abbrev pub past_of : Start → Past
past_of start = record { start = start; es = []; pieces = no_pieces }

-- nothing, in a store whose blocks hold so many deltas
abbrev pub no_past : ℕ → Past
no_past anchor = past_of (first_start anchor)

-- what it left
abbrev pub left_by : Past → Kept
left_by past = record { world = run (start_world past.start) past.es; pieces = past.pieces }

-- The store stands for the history, and each piece that is kept is one of it.
pub record Stands (s : ShellParts) (past : Past) : Type 0 where
  pub store : StandsFor past.start s.core past.es
  pub same : pieces_in s.places ≡ past.pieces
  pub pieces : (caller : ℕ) (x : Oid) (piece : PieceParts) → past.pieces caller x ≡ Some piece → IsPieceOf past.es piece

-- there is such a past
abbrev pub StandsSome : ShellParts → Type 0
StandsSome s = (past : Past) × Stands s past

-- One line was answered: the text is the definition's, and what the shell stands for then has left what the definition says.
pub record AnswersLine (answer : Bool → Kept → Answered) (Stands : Past → Type 0) (text : List ℕ) (past : Past) : Type 0 where
  pub wanting : Bool
  pub after : Past
  pub stands : Stands after
  pub text_is : text ≡ (answer wanting (left_by past)).text
  pub left : left_by after ≡ (answer wanting (left_by past)).after
