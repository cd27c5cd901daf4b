-- Histories: who asked what and was answered what, and which of them the store may have.
use Rattle.std.specs.Prelude.{◌≡◌, ℕ, ◌≤◌, List, [], ◌∷◌, ◌++◌, Option, Some, None, Bool, true, false, not, ◌&&◌, ◌⊎◌, if◌then◌else◌}
use Rattle.txn_manager.specs.declared.TheConstants.{CLOCK_END}
use Rattle.world_model.specs.declared.TheConstants.{ID_END}
use Rattle.world_model.specs.declared.event.Event.{Event}
use Rattle.world_model.specs.declared.event.Event.TheVariants as event
use Rattle.world_model.specs.declared.answer.Refused.{Refused}
use Rattle.world_model.specs.declared.answer.Refused.TheVariants as refused
use Rattle.undo_delta.specs.declared.op.Op.{Op}
use Rattle.world_model.specs.World.{World, Start, Txn, start_world, txn_of}
use Rattle.world_model.specs.Pieces.{LiftedParts, PieceParts}
use Rattle.world_model.specs.Placement.{piece_of}
use Rattle.world_model.specs.Reply.{Reply}
use Rattle.world_model.specs.Reply as reply
use Rattle.world_model.specs.Step.{step}

-- one event of one caller, and its answer
pub record Entry : Type 0 where
  pub caller : ℕ
  pub event : Event
  pub reply : Reply

-- memory was wanting
abbrev pub no_memory : Reply
no_memory = reply.Refused refused.NoMemory

abbrev pub is_refusal_no_memory : Refused → Bool
is_refusal_no_memory refused.NoMemory = true
is_refusal_no_memory refused.NoTxn = false
is_refusal_no_memory refused.AlreadyOpen = false
is_refusal_no_memory (refused.Missing x) = false
is_refusal_no_memory (refused.Conflict x rival) = false
is_refusal_no_memory (refused.HasEdges v) = false
is_refusal_no_memory (refused.TimeAhead t start) = false
is_refusal_no_memory refused.ClockEnd = false
is_refusal_no_memory refused.TooMany = false
is_refusal_no_memory refused.IdEnd = false
is_refusal_no_memory (refused.Stale cut) = false

abbrev pub is_no_memory : Reply → Bool
is_no_memory (reply.Refused why) = is_refusal_no_memory why
is_no_memory (reply.Begun start) = false
is_no_memory (reply.Id id) = false
is_no_memory (reply.Version object) = false
is_no_memory (reply.Wrote wrote) = false
is_no_memory (reply.Committed ts) = false
is_no_memory reply.Aborted = false
is_no_memory (reply.Marked marked) = false
is_no_memory (reply.Lifted lifted) = false
is_no_memory reply.Installed = false
is_no_memory (reply.Stats stats) = false

abbrev pub is_refused : Reply → Bool
is_refused (reply.Refused why) = true
is_refused (reply.Begun start) = false
is_refused (reply.Id id) = false
is_refused (reply.Version object) = false
is_refused (reply.Wrote wrote) = false
is_refused (reply.Committed ts) = false
is_refused reply.Aborted = false
is_refused (reply.Marked marked) = false
is_refused (reply.Lifted lifted) = false
is_refused reply.Installed = false
is_refused (reply.Stats stats) = false

abbrev pub takes_memory : Event → Bool
takes_memory event.Begin = true
takes_memory (event.Next kind after when) = true
takes_memory (event.Read x when) = true
takes_memory (event.Write ask) = true
takes_memory event.Commit = false
takes_memory event.Abort = false
takes_memory event.Mark = false
takes_memory (event.Lift x) = true
takes_memory (event.Install piece) = true
takes_memory event.Stats = false

-- Memory may be wanting where nothing else is refused, and never at a commit, an abort, a mark or a count.
abbrev pub may_want : World → ℕ → Event → Bool
may_want w caller e = takes_memory e && not (is_refused (step w caller e).reply)

-- the answer is the step's, or memory was wanting where it may
abbrev pub IsAnswered : World → Entry → Type 0
IsAnswered w e = (e.reply ≡ (step w e.caller e.event).reply) ⊎ ((e.reply ≡ no_memory) × (may_want w e.caller e.event ≡ true))

-- the world after an entry: the step's, or the same where memory was wanting
abbrev pub world_after : World → Entry → World
world_after w e = if is_no_memory e.reply then w else (step w e.caller e.event).world

-- the world after a history
unfoldable pub run : World → List Entry → World
run w [] = w
run w (e ∷ es) = run (world_after w e) es

-- each entry is answered as its place allows
unfoldable pub AreAnswered : World → List Entry → Type 0
AreAnswered w [] = Unit {0}
AreAnswered w (e ∷ es) = IsAnswered w e × AreAnswered (world_after w e) es

-- the piece was built of what an entry of the history lifted
pub record IsPieceOf (es : List Entry) (piece : PieceParts) : Type 0 where
  pub early : List Entry
  pub entry : Entry
  pub late : List Entry
  pub lifted : LiftedParts
  pub parts : es ≡ early ++ entry ∷ late
  pub answered : entry.reply ≡ reply.Lifted lifted
  pub built : piece ≡ piece_of lifted

-- what is installed is a piece of the history before
abbrev pub MayStand : List Entry → Event → Type 0
MayStand es event.Begin = Unit {0}
MayStand es (event.Next kind after when) = Unit {0}
MayStand es (event.Read x when) = Unit {0}
MayStand es (event.Write ask) = Unit {0}
MayStand es event.Commit = Unit {0}
MayStand es event.Abort = Unit {0}
MayStand es event.Mark = Unit {0}
MayStand es (event.Lift x) = Unit {0}
MayStand es (event.Install piece) = IsPieceOf es piece
MayStand es event.Stats = Unit {0}

-- each of the later entries may stand behind the earlier ones
unfoldable pub MayAllStand : List Entry → List Entry → Type 0
MayAllStand es [] = Unit {0}
MayAllStand es (e ∷ later) = MayStand es e.event × MayAllStand (es ++ e ∷ []) later

-- a history that the store may have from these numbers on
pub record IsLegal (s : Start) (es : List Entry) : Type 0 where
  pub answered : AreAnswered (start_world s) es
  pub carried : MayAllStand [] es

-- what collectors alone ask for
abbrev pub is_of_collector : Event → Bool
is_of_collector event.Begin = false
is_of_collector (event.Next kind after when) = false
is_of_collector (event.Read x when) = false
is_of_collector (event.Write ask) = false
is_of_collector event.Commit = false
is_of_collector event.Abort = false
is_of_collector event.Mark = false
is_of_collector (event.Lift x) = true
is_of_collector (event.Install piece) = true
is_of_collector event.Stats = true

-- the other entries of a history
unfoldable pub without_collectors : List Entry → List Entry
without_collectors [] = []
without_collectors (e ∷ es) = if is_of_collector e.event then without_collectors es else e ∷ without_collectors es

-- the number of a commit
abbrev pub committed_number : Reply → List ℕ
committed_number (reply.Committed ts) = ts ∷ []
committed_number (reply.Begun start) = []
committed_number (reply.Id id) = []
committed_number (reply.Version object) = []
committed_number (reply.Wrote wrote) = []
committed_number reply.Aborted = []
committed_number (reply.Marked marked) = []
committed_number (reply.Lifted lifted) = []
committed_number reply.Installed = []
committed_number (reply.Stats stats) = []
committed_number (reply.Refused why) = []

abbrev pub stamp_of_writes : List Op → Reply → List ℕ
stamp_of_writes [] reply = []
stamp_of_writes (op ∷ ops) reply = committed_number reply

abbrev pub stamp_of_txn : Option Txn → Reply → List ℕ
stamp_of_txn None reply = []
stamp_of_txn (Some p) reply = stamp_of_writes p.ops reply

-- the timestamp that an entry gives: a commit's answer, where its transaction had written
abbrev pub stamp_given : World → Entry → Event → List ℕ
stamp_given w e event.Begin = []
stamp_given w e (event.Next kind after when) = []
stamp_given w e (event.Read x when) = []
stamp_given w e (event.Write ask) = []
stamp_given w e event.Commit = stamp_of_txn (txn_of w e.caller) e.reply
stamp_given w e event.Abort = []
stamp_given w e event.Mark = []
stamp_given w e (event.Lift x) = []
stamp_given w e (event.Install piece) = []
stamp_given w e event.Stats = []

-- the timestamps that a history gives, in its order
unfoldable pub stamps_given : World → List Entry → List ℕ
stamps_given w [] = []
stamps_given w (e ∷ es) = stamp_given w e e.event ++ stamps_given (world_after w e) es

-- the numbers that a store may begin with
pub record IsStart (s : Start) : Type 0 where
  pub interval : (1 ≤ s.interval) × (s.interval ≤ 1024)
  pub clock : (1 ≤ s.clock) × (s.clock ≤ CLOCK_END)
  pub vertices : s.vertices ≤ ID_END
  pub edges : s.edges ≤ ID_END
