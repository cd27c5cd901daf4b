-- What the store keeps of a world.
use Rattle.std.specs.Prelude.{◌≡◌, ℕ, ◌+◌, ◌≤◌, List, [], sum_by, ◌∷◌, ◌++◌, Option, Some, None, Bool, true, false, map, option_map}
use Rattle.std.specs.List.{list_any}
use Rattle.graph_value.specs.declared.id.Oid.{Oid}
use Rattle.graph_record.specs.Graph.{object_at}
use Rattle.undo_law.specs.declared.dated.Dated.{Dated}
use Rattle.undo_delta.specs.Touch.{same_oid}
use Rattle.undo_delta.specs.declared.delta.Delta.{Delta}
use Rattle.version_chain.specs.Entry.{open_entry}
use Rattle.version_chain.specs.declared.entry.Entry.{Entry as ChainEntry}
use Rattle.world_model.specs.Op.{are_touching}
use Rattle.world_model.specs.World.{World, Start, start_world, Txn, txn_of, view_of, fold_of, transactions_of, ops_of, cut_of, mark, InOrder}
use Rattle.world_model.specs.declared.event.Event.{Event}
use Rattle.world_model.specs.declared.event.Event.TheVariants as event
use Rattle.world_model.specs.Pieces.{PieceParts}
use Rattle.world_model.specs.Placement.{chain as chain_of, blocks_of, IsRight}
use Rattle.world_model.specs.Counts.{all_left}
use Rattle.world_model.specs.Undo.{open_list}
use Rattle.world_model.specs.History.{Entry, run, IsAnswered, world_after, IsLegal, IsStart}
use Rattle.world_model.specs.Sending as for_some
use Rattle.front_core.specs.Rows.{ObjectRow}
use Rattle.front_core.specs.Tables.{next_of}
use Rattle.front_core.specs.Objects.{row_at}
use Rattle.front_core.specs.Histories.{history_at}
use Rattle.front_core.specs.Books.{MOST_DELTAS, times_of, find_txn}
use Rattle.front_core.specs.declared.histories.Histories.{Histories}
use Rattle.front_core.specs.declared.objects.Objects.{Objects}
use Rattle.front_core.specs.declared.row.Writing.{Writing}
use Rattle.front_core.specs.declared.transactions.Transaction.{Transaction}
use Rattle.front_core.specs.declared.state.State.{State}
use Rattle.front_core.specs.declared.tally.Tally.{Tally}

abbrev pub committed_entry : Dated Delta → ChainEntry Delta
committed_entry d = record { stamp = Some d.ts; delta = d.delta }

-- The row of an object that no open transaction has written: the object after all commits, and their deltas from the cut on.
pub record Unwritten (w : World) (x : Oid) (r : ObjectRow) : Type 0 where
  pub untouched : (caller : ℕ) (p : Txn) → txn_of w caller ≡ Some p → are_touching p.ops x ≡ false
  pub newest : r.newest ≡ object_at (fold_of w.commits) x
  pub chain : r.chain ≡ map committed_entry (chain_of w x)

-- The row of an object that an open transaction has written: the object as that sees it, its deltas in front of those of
-- the commits, and the object as the commits left it.
pub record WrittenBy (w : World) (x : Oid) (r : ObjectRow) (by : Writing) (p : Txn) : Type 0 where
  pub opened : txn_of w by.caller ≡ Some p
  pub start : by.start ≡ p.start
  pub touching : are_touching p.ops x ≡ true
  pub newest : r.newest ≡ object_at (view_of w p) x
  pub chain : r.chain ≡ map open_entry (open_list w p x) ++ map committed_entry (chain_of w x)
  pub former : by.former ≡ object_at (fold_of w.commits) x

abbrev pub FitsBy : World → Oid → ObjectRow → Option Writing → Type 0
FitsBy w x r None = Unwritten w x r
FitsBy w x r (Some by) = (p : Txn) × WrittenBy w x r by p

abbrev pub FitsRow : World → Oid → ObjectRow → Type 0
FitsRow w x r = FitsBy w x r r.writing

-- an open transaction's list has just the objects that it has written
abbrev pub FitsWritten : Option Transaction → Option Txn → Type 0
FitsWritten None None = Unit {0}
FitsWritten None (Some p) = ⊥
FitsWritten (Some t) None = ⊥
FitsWritten (Some t) (Some p) = (x : Oid) → list_any (same_oid x) t.written ≡ are_touching p.ops x

-- and counts the deltas that they left
abbrev pub FitsDeltas : Option Transaction → Option Txn → Type 0
FitsDeltas None p = Unit {0}
FitsDeltas (Some t) None = Unit {0}
FitsDeltas (Some t) (Some p) = t.deltas ≡ all_left p.ops

-- the deltas that the writes of all open transactions left
abbrev pub open_left : World → ℕ
open_left w = sum_by (λ p. all_left p.ops) w.running

-- The deltas of the commits are counted, and those of all writes, which aren't more than can be counted.
pub record CountsFor (w : World) (tally : Tally) : Type 0 where
  pub committed : tally.committed ≡ all_left (ops_of w.commits)
  pub all : tally.all ≡ all_left (ops_of w.commits) + open_left w
  pub most : tally.all ≤ MOST_DELTAS

-- rows and histories begin with the same numbers
pub record BeginAlike (o : Objects) (h : Histories) : Type 0 where
  pub vertices : h.vertices.first ≡ o.vertices.first
  pub edges : h.edges.first ≡ o.edges.first

-- What the state keeps is this world's, and the world is in order.
pub record Keeps (s : State) (w : World) : Type 0 where
  pub ordered : InOrder w
  pub times : times_of s.transactions ≡ transactions_of w
  pub written : (caller : ℕ) → FitsWritten (find_txn s.transactions.txns caller) (txn_of w caller)
  pub vertices : next_of s.objects.vertices ≡ w.vertices
  pub edges : next_of s.objects.edges ≡ w.edges
  pub rows : (x : Oid) → FitsRow w x (row_at s.objects x)
  pub cuts : (x : Oid) → cut_of w x ≤ mark w
  pub deltas : (caller : ℕ) → FitsDeltas (find_txn s.transactions.txns caller) (txn_of w caller)
  pub counts : CountsFor w s.tally
  pub alike : BeginAlike s.objects s.histories
  pub interval : s.histories.interval ≡ w.interval
  pub histories : (x : Oid) → history_at s.histories x ≡ record { cut = cut_of w x; blocks = blocks_of w x }

-- some world is the one that is kept
abbrev pub KeepsSome : State → Type 0
KeepsSome s = (w : World) × Keeps s w

-- The core stands for a history that began with these numbers: the history is legal, and the core keeps the world that
-- it comes to.
pub record StandsFor (b : Start) (s : State) (es : List Entry) : Type 0 where
  pub start : IsStart b
  pub legal : IsLegal b es
  pub keeps : Keeps s (run (start_world b) es)

-- some history is one that the core stands for
abbrev pub StandsForSome : State → Type 0
StandsForSome s = for_some.StandsForSome (λ k b es. StandsFor b k es) s

-- the numbers that a store begins with
abbrev pub numbers : ℕ → ℕ → ℕ → ℕ → Start
numbers interval clock vertices edges = record { interval = interval; clock = clock; vertices = vertices; edges = edges }

-- those of an empty store, whose blocks hold so many deltas
abbrev pub first_start : ℕ → Start
first_start interval = numbers interval 1 0 0

-- the start of a caller's open transaction
abbrev pub open_in : State → ℕ → Option ℕ
open_in s caller = option_map (λ t. t.start) (find_txn s.transactions.txns caller)

-- ONE STEP

-- the answer is one that the world allows, and the state keeps the world after it
pub record Obeys (w : World) (new : State) (e : Entry) : Type 0 where
  pub answered : IsAnswered w e
  pub keeps : Keeps new (world_after w e)

-- whichever world the state kept
abbrev pub ObeysAll : State → State → Entry → Type 0
ObeysAll old new e = (w : World) → Keeps old w → Obeys w new e

-- INSTALLING

-- the same of each world that the piece is right for
abbrev pub ObeysWith : PieceParts → State → State → Entry → Type 0
ObeysWith piece old new e = (w : World) → Keeps old w → IsRight w piece → Obeys w new e

-- the piece is right for some world that the state keeps
pub record FitsSome (s : State) (piece : PieceParts) : Type 0 where
  pub world : World
  pub keeps : Keeps s world
  pub right : IsRight world piece

-- the piece was built of what some history that the core stands for lifted
abbrev pub IsOfSome : State → PieceParts → Type 0
IsOfSome s piece = for_some.IsOfSome (λ k b es. StandsFor b k es) s piece

-- what a piece is installed of; all other events may be asked at all times
abbrev pub MayAsk : State → Event → Type 0
MayAsk s event.Begin = Unit {0}
MayAsk s (event.Next kind after when) = Unit {0}
MayAsk s (event.Read x when) = Unit {0}
MayAsk s (event.Write ask) = Unit {0}
MayAsk s event.Commit = Unit {0}
MayAsk s event.Abort = Unit {0}
MayAsk s event.Mark = Unit {0}
MayAsk s (event.Lift x) = Unit {0}
MayAsk s (event.Install piece) = IsOfSome s piece
MayAsk s event.Stats = Unit {0}
