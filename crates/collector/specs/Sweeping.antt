-- A sweep: what it asks of the store, one event after the other, and what it tells of the answers.
use Rattle.std.specs.Prelude.{◌≡◌, ℕ, zero, suc, ◌+◌, List, [], ◌∷◌, ◌++◌, Option, Some, None, length, map, min}
use Rattle.std.specs.List.{range_with_len}
use Rattle.graph_value.specs.declared.id.Oid.{Oid}
use Rattle.world_model.specs.declared.answer.Refused.{Refused}
use Rattle.world_model.specs.declared.answer.Refused.TheVariants as refused
use Rattle.world_model.specs.declared.event.Event.{Event}
use Rattle.world_model.specs.declared.event.Event.TheVariants as event
use Rattle.world_model.specs.declared.event.Kind.TheVariants.{Vertex, Edge}
use Rattle.world_model.specs.Pieces.{LiftedParts}
use Rattle.world_model.specs.Placement.{piece_of}
use Rattle.world_model.specs.Reply.{Reply}
use Rattle.world_model.specs.Reply as reply
use Rattle.world_model.specs.Views.{oid_of}
use Rattle.collector.specs.declared.progress.Progress.{Progress}
use Rattle.collector.specs.declared.progress.Progress.TheVariants as progress
use Rattle.collector.specs.declared.progress.Swept.{Swept}
use Rattle.collector.specs.declared.progress.TheConstants.{MOST}
use Rattle.world_model.specs.History.{Entry}

-- the objects below two counters: each vertex, then each edge
abbrev pub objects_below : ℕ → ℕ → List Oid
objects_below vertices edges = map (oid_of Vertex) (range_with_len 0 vertices) ++ map (oid_of Edge) (range_with_len 0 edges)

abbrev pub first_of : List Oid → Option Oid
first_of [] = None
first_of (x ∷ xs) = Some x

abbrev pub rest_of : List Oid → List Oid
rest_of [] = []
rest_of (x ∷ xs) = xs

-- Where a sweep stands: the mark at which it has begun, the objects that are left, and what was lifted of the first of them.
pub record Stage : Type 0 where
  pub begun : Option ℕ
  pub left : List Oid
  pub kept : Option LiftedParts

-- a sweep that hasn't begun
abbrev pub fresh : Stage
fresh = record { begun = None; left = []; kept = None }

abbrev pub stage_at : ℕ → List Oid → Stage
stage_at mark left = record { begun = Some mark; left = left; kept = None }

-- what it asks next: the mark, then of each object a lift and, where something was lifted, an installation
abbrev pub asks_of : Oid → Option LiftedParts → Event
asks_of x None = event.Lift x
asks_of x (Some l) = event.Install (piece_of l)

abbrev pub asks_at : List Oid → Option LiftedParts → Option Event
asks_at [] kept = None
asks_at (x ∷ xs) kept = Some (asks_of x kept)

abbrev pub asks_by : Option ℕ → List Oid → Option LiftedParts → Option Event
asks_by None left kept = Some event.Mark
asks_by (Some mark) left kept = asks_at left kept

abbrev pub asks : Stage → Option Event
asks s = asks_by s.begun s.left s.kept

-- what is told of an answer, nothing where memory was wanting, and where the sweep stands then
pub record Turn : Type 0 where
  pub progress : Option Progress
  pub stage : Stage

abbrev pub told : Progress → Stage → Turn
told p s = record { progress = Some p; stage = s }

abbrev pub wanting : Stage → Turn
wanting s = record { progress = None; stage = s }

-- the mark tells which objects there are
abbrev pub turn_marked : Stage → Reply → Turn
turn_marked s (reply.Marked m) = told (progress.Marked m.mark) (stage_at m.mark (objects_below m.vertices m.edges))
turn_marked s r = wanting s

-- an object of which nothing has expired is done
abbrev pub turn_kept : ℕ → Oid → List Oid → LiftedParts → ℕ → Turn
turn_kept mark x xs l zero = told (progress.Nothing x) (stage_at mark xs)
turn_kept mark x xs l (suc n) = told (progress.Lifted x (suc n)) (record { begun = Some mark; left = x ∷ xs; kept = Some l })

abbrev pub turn_lifted : ℕ → Oid → List Oid → Reply → Turn
turn_lifted mark x xs (reply.Lifted l) = turn_kept mark x xs l (length l.deltas)
turn_lifted mark x xs r = wanting (stage_at mark (x ∷ xs))

-- An object is done where its piece was installed, or came too late; where memory was wanting it is lifted again.
abbrev pub turn_refused : ℕ → Oid → List Oid → Refused → Turn
turn_refused mark x xs (refused.Stale cut) = told (progress.Stale x cut) (stage_at mark xs)
turn_refused mark x xs why = wanting (stage_at mark (x ∷ xs))

abbrev pub turn_installed : ℕ → Oid → List Oid → ℕ → Reply → Turn
turn_installed mark x xs moved reply.Installed = told (progress.Moved x moved) (stage_at mark xs)
turn_installed mark x xs moved (reply.Refused why) = turn_refused mark x xs why
turn_installed mark x xs moved r = wanting (stage_at mark (x ∷ xs))

abbrev pub turn_of : ℕ → Oid → List Oid → Option LiftedParts → Reply → Turn
turn_of mark x xs None r = turn_lifted mark x xs r
turn_of mark x xs (Some l) r = turn_installed mark x xs (length l.deltas) r

abbrev pub turn_at : ℕ → List Oid → Option LiftedParts → Reply → Turn
turn_at mark [] kept r = wanting (record { begun = Some mark; left = []; kept = kept })
turn_at mark (x ∷ xs) kept r = turn_of mark x xs kept r

abbrev pub turn_by : Option ℕ → List Oid → Option LiftedParts → Reply → Turn
turn_by None left kept r = turn_marked (record { begun = None; left = left; kept = kept }) r
turn_by (Some mark) left kept r = turn_at mark left kept r

abbrev pub turn : Stage → Reply → Turn
turn s r = turn_by s.begun s.left s.kept r

-- A WHOLE SWEEP

-- what a sweep adds up: its mark, what was moved, and how often it came too late
abbrev pub count : Swept → Option Progress → Swept
count sum None = sum
count sum (Some (progress.Marked mark)) = record sum { mark = mark }
count sum (Some (progress.Nothing x)) = sum
count sum (Some (progress.Lifted x n)) = sum
count sum (Some (progress.Moved x n)) = record sum { moved = min (sum.moved + n) MOST }
count sum (Some (progress.Stale x cut)) = record sum { stale = min (sum.stale + 1) MOST }
count sum (Some (progress.End mark)) = sum

-- each entry is what the sweep asks next
unfoldable pub AreAsked : Stage → List Entry → Type 0
AreAsked s [] = Unit {0}
AreAsked s (e ∷ es) = (asks s ≡ Some e.event) × AreAsked (turn s e.reply).stage es

-- where it stands behind the entries
unfoldable pub stage_after : Stage → List Entry → Stage
stage_after s [] = s
stage_after s (e ∷ es) = stage_after (turn s e.reply).stage es

-- and what it has added up
unfoldable pub sum_after : Stage → Swept → List Entry → Swept
sum_after s sum [] = sum
sum_after s sum (e ∷ es) = sum_after (turn s e.reply).stage (count sum (turn s e.reply).progress) es

abbrev pub nothing_yet : Swept
nothing_yet = record { mark = 0; moved = 0; stale = 0 }
