-- Which answers belong to which events.
use Rattle.std.specs.Prelude.{◌≡◌, ◌≢◌, ◌⊎◌, ℕ, Option}
use Rattle.graph_value.specs.declared.id.Oid.{Oid}
use Rattle.graph_record.specs.declared.object.Object.{Object}
use Rattle.graph_record.specs.declared.object.Object.TheVariants.{Dead, Vertex, Edge}
use Rattle.graph_record.specs.OfKind.{IsOfKind}
use Rattle.world_model.specs.declared.answer.Answer.{Answer}
use Rattle.world_model.specs.declared.answer.Answer.TheVariants as answer
use Rattle.world_model.specs.declared.event.Asked.{Asked}
use Rattle.world_model.specs.declared.event.Asked.TheVariants as asked
use Rattle.world_model.specs.declared.event.Event.{Event}
use Rattle.world_model.specs.declared.event.Event.TheVariants as event
use Rattle.world_model.specs.declared.answer.Marked.{Marked}
use Rattle.world_model.specs.declared.answer.Refused.{Refused}
use Rattle.world_model.specs.declared.answer.Refused.TheVariants.{NoMemory}
use Rattle.world_model.specs.declared.answer.Stats.{Stats}
use Rattle.world_model.specs.declared.answer.Wrote.{Wrote}
use Rattle.world_model.specs.Pieces.{LiftedParts, PieceParts}
use Rattle.world_model.specs.Reply.{Reply}
use Rattle.world_model.specs.Reply as reply

-- what an event asks to be told
abbrev pub asked_by : Event → Asked
asked_by event.Begin = asked.Nothing
asked_by (event.Next kind after when) = asked.Number kind
asked_by (event.Read x when) = asked.Version x
asked_by (event.Write ask) = asked.Nothing
asked_by event.Commit = asked.Nothing
asked_by event.Abort = asked.Nothing
asked_by event.Mark = asked.Nothing
asked_by (event.Lift x) = asked.Nothing
asked_by (event.Install piece) = asked.Nothing
asked_by event.Stats = asked.Nothing

-- the object is dead, or is a vertex under a vertex's id and an edge under an edge's
abbrev pub IsObjectOf : Oid → Object → Type 0
IsObjectOf x Dead = Unit {0}
IsObjectOf x (Vertex r) = IsOfKind x (Vertex r)
IsObjectOf x (Edge r) = IsOfKind x (Edge r)

-- a version is of the object that was asked for
abbrev pub IsVersionOf : Asked → Object → Type 0
IsVersionOf asked.Nothing o = ⊥
IsVersionOf (asked.Version x) o = IsObjectOf x o
IsVersionOf (asked.Number kind) o = ⊥

-- a number is told where one was asked for
abbrev pub IsNumberAsked : Asked → Type 0
IsNumberAsked asked.Nothing = ⊥
IsNumberAsked (asked.Version x) = ⊥
IsNumberAsked (asked.Number kind) = Unit {0}

-- what may be answered where this was asked
abbrev pub IsAnswerTo : Asked → Reply → Type 0
IsAnswerTo asked (reply.Version o) = IsVersionOf asked o
IsAnswerTo asked (reply.Id id) = IsNumberAsked asked
IsAnswerTo asked (reply.Begun start) = Unit {0}
IsAnswerTo asked (reply.Wrote wrote) = Unit {0}
IsAnswerTo asked (reply.Committed ts) = Unit {0}
IsAnswerTo asked reply.Aborted = Unit {0}
IsAnswerTo asked (reply.Marked marked) = Unit {0}
IsAnswerTo asked (reply.Lifted lifted) = Unit {0}
IsAnswerTo asked reply.Installed = Unit {0}
IsAnswerTo asked (reply.Stats stats) = Unit {0}
IsAnswerTo asked (reply.Refused why) = Unit {0}

-- why an event was refused
abbrev pub IsRefusal : Reply → Type 0
IsRefusal r = (why : Refused) × (r ≡ reply.Refused why)

-- an answer of the event's own kind, or a refusal; a mark and a count are never refused
abbrev pub IsOfEvent : Event → Reply → Type 0
IsOfEvent event.Begin r = IsRefusal r ⊎ ((start : ℕ) × (r ≡ reply.Begun start))
IsOfEvent (event.Next kind after when) r = IsRefusal r ⊎ ((id : Option ℕ) × (r ≡ reply.Id id))
IsOfEvent (event.Read x when) r = IsRefusal r ⊎ ((o : Object) × (r ≡ reply.Version o))
IsOfEvent (event.Write ask) r = IsRefusal r ⊎ ((wrote : Wrote) × (r ≡ reply.Wrote wrote))
IsOfEvent event.Commit r = IsRefusal r ⊎ ((ts : ℕ) × (r ≡ reply.Committed ts))
IsOfEvent event.Abort r = IsRefusal r ⊎ (r ≡ reply.Aborted)
IsOfEvent event.Mark r = (marked : Marked) × (r ≡ reply.Marked marked)
IsOfEvent (event.Lift x) r = IsRefusal r ⊎ ((lifted : LiftedParts) × (r ≡ reply.Lifted lifted))
IsOfEvent (event.Install piece) r = IsRefusal r ⊎ (r ≡ reply.Installed)
IsOfEvent event.Stats r = (stats : Stats) × (r ≡ reply.Stats stats)

-- Each event is answered in its own kind; a version is of the object that was asked for, and a number is told where one
-- was.
pub record IsReplyTo (e : Event) (a : Reply) : Type 0 where
  pub kind : IsOfEvent e a
  pub told : IsAnswerTo (asked_by e) a

-- An installation that finds no memory hands back the piece that it was sent.
abbrev pub IsHandedBack : PieceParts → Answer → Type 0
IsHandedBack piece (answer.NotInstalled back) = back ≡ piece
IsHandedBack piece (answer.Refused why) = why ≢ NoMemory
IsHandedBack piece a = Unit {0}

abbrev pub HandsBack : Event → Answer → Type 0
HandsBack (event.Install piece) a = IsHandedBack piece a
HandsBack e a = Unit {0}
