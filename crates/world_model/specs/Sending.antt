-- What a call on a store does: one event of the store's caller is sent, and the call tells what was answered.
use Rattle.std.specs.Prelude.{◌≡◌, ℕ, List, [], ◌∷◌, ◌++◌, Option, Some, None, Bool, true, false, not, ◌⊎◌, Result, Ok, Err, nat_eq, option_map, if◌then◌else◌}
use Rattle.std.specs.List.{list_all}
use Rattle.graph_value.specs.declared.id.Oid.{Oid}
use Rattle.graph_record.specs.Graph.{Graph}
use Rattle.graph_record.specs.declared.object.Object.{Object}
use Rattle.world_model.specs.declared.answer.Refused.{Refused}
use Rattle.world_model.specs.declared.answer.Refused.TheVariants.{NoTxn, AlreadyOpen, Missing, Conflict, HasEdges, TimeAhead, ClockEnd, Stale, TooMany, IdEnd, NoMemory}
use Rattle.world_model.specs.declared.answer.Wrote.{Wrote}
use Rattle.world_model.specs.declared.event.Event.{Event}
use Rattle.world_model.specs.declared.event.Event.TheVariants as event
use Rattle.world_model.specs.declared.event.When.{When}
use Rattle.world_model.specs.declared.store.InstallRefused.{InstallRefused}
use Rattle.world_model.specs.declared.store.InstallRefused.TheVariants as install
use Rattle.world_model.specs.declared.txn.Txn.{Txn as Ticket}
use Rattle.world_model.specs.History.{Entry, IsPieceOf, MayStand, no_memory, run}
use Rattle.world_model.specs.Pieces.{LiftedParts, PieceParts}
use Rattle.world_model.specs.Reply.{Reply}
use Rattle.world_model.specs.Reply as reply
use Rattle.world_model.specs.Views.{graph_of, time_ahead}
use Rattle.world_model.specs.World.{Start, Txn, World, start_world, txn_of}

-- WHAT A CALL TELLS, AS ITS ENTRY HAS IT

abbrev pub begun : Result Ticket Refused → Reply
begun (Ok txn) = reply.Begun txn.start
begun (Err why) = reply.Refused why

abbrev pub found_next : Result (Option ℕ) Refused → Reply
found_next (Ok id) = reply.Id id
found_next (Err why) = reply.Refused why

abbrev pub written : Result Wrote Refused → Reply
written (Ok wrote) = reply.Wrote wrote
written (Err why) = reply.Refused why

abbrev pub lifted : Result LiftedParts Refused → Reply
lifted (Ok parts) = reply.Lifted parts
lifted (Err why) = reply.Refused why

abbrev pub install_refused : InstallRefused → Reply
install_refused (install.Stale cut) = reply.Refused (Stale cut)
install_refused (install.NoMemory piece) = no_memory

abbrev pub installed : {A : Type 0} → Result A InstallRefused → Reply
installed (Ok done) = reply.Installed
installed (Err why) = install_refused why

-- Where a read finds no memory, its entry may have the object all the same: it was to be rebuilt behind the event.
abbrev pub IsReadRefused : Refused → Reply → Type 0
IsReadRefused NoMemory r = (r ≡ no_memory) ⊎ ((o : Object) × (r ≡ reply.Version o))
IsReadRefused NoTxn r = r ≡ reply.Refused NoTxn
IsReadRefused AlreadyOpen r = r ≡ reply.Refused AlreadyOpen
IsReadRefused (Missing x) r = r ≡ reply.Refused (Missing x)
IsReadRefused (Conflict x rival) r = r ≡ reply.Refused (Conflict x rival)
IsReadRefused (HasEdges v) r = r ≡ reply.Refused (HasEdges v)
IsReadRefused (TimeAhead t start) r = r ≡ reply.Refused (TimeAhead t start)
IsReadRefused ClockEnd r = r ≡ reply.Refused ClockEnd
IsReadRefused (Stale cut) r = r ≡ reply.Refused (Stale cut)
IsReadRefused TooMany r = r ≡ reply.Refused TooMany
IsReadRefused IdEnd r = r ≡ reply.Refused IdEnd

abbrev pub IsRead : Result Object Refused → Reply → Type 0
IsRead (Ok o) r = r ≡ reply.Version o
IsRead (Err why) r = IsReadRefused why r

-- HOW A HISTORY GOES ON

-- the entries are of other callers
unfoldable pub are_of_others : ℕ → List Entry → Bool
are_of_others caller es = list_all (λ e. not (nat_eq e.caller caller)) es

-- One more entry stands at the end, behind entries of others. Where nobody else acts there are none of these.
pub record GoesOn (alone : Bool) (entry : Entry) (es more : List Entry) : Type 0 where
  pub others : List Entry
  pub parts : more ≡ (es ++ others) ++ entry ∷ []
  pub apart : are_of_others entry.caller others ≡ true
  pub nobody : alone ≡ true → others ≡ []

abbrev pub is_reading : Event → Bool
is_reading event.Begin = false
is_reading (event.Next kind after when) = true
is_reading (event.Read x when) = true
is_reading (event.Write ask) = false
is_reading event.Commit = false
is_reading event.Abort = false
is_reading event.Mark = false
is_reading (event.Lift x) = false
is_reading (event.Install piece) = false
is_reading event.Stats = false

-- an entry that may come while the caller only reads: a reading one of its own, or any of others where these act
abbrev pub is_beside : Bool → ℕ → Entry → Bool
is_beside alone caller e = if nat_eq e.caller caller then is_reading e.event else not alone

unfoldable pub are_beside : Bool → ℕ → List Entry → Bool
are_beside alone caller es = list_all (is_beside alone caller) es

-- the history went on, and the caller has only read
pub record ReadsOn (alone : Bool) (caller : ℕ) (es more : List Entry) : Type 0 where
  pub later : List Entry
  pub parts : more ≡ es ++ later
  pub beside : are_beside alone caller later ≡ true

-- the start of a caller's open transaction
abbrev pub open_start : World → ℕ → Option ℕ
open_start w caller = option_map (λ p. p.start) (txn_of w caller)

-- the graph that is meant by a caller's transaction with this start, in which an instant isn't ahead
pub record IsSeen (w : World) (caller start : ℕ) (when : When) (g : Graph) : Type 0 where
  pub txn : Txn
  pub found : txn_of w caller ≡ Some txn
  pub began : txn.start ≡ start
  pub there : time_ahead txn when ≡ None
  pub graph : g ≡ graph_of w txn when

-- WORDS OF A STORE: the histories that it stands for, its caller, and whether nobody else acts on it

module _ {S : Type 0} (stands : S → Start → List Entry → Type 0) where
  -- some history that the store stands for
  pub record StandsForSome (store : S) : Type 0 where
    pub start : Start
    pub entries : List Entry
    pub stood : stands store start entries

  -- the piece was built of what some history that the store stands for lifted
  pub record IsOfSome (store : S) (piece : PieceParts) : Type 0 where
    pub start : Start
    pub entries : List Entry
    pub stood : stands store start entries
    pub of : IsPieceOf entries piece

module _ {S : Type 0} (stands : S → Start → List Entry → Type 0) (caller : S → ℕ) (alone : S → Bool) where
  -- the event was sent: each history that the store stood for has gone on with it
  pub record Sends (event : Event) (reply : Reply) (old new : S) : Type 0 where
    pub goes_on : (s : Start) (es : List Entry) → stands old s es → MayStand es event →
        (more : List Entry) × GoesOn (alone old) (record { caller = caller old; event = event; reply = reply }) es more × stands new s more
    pub some : StandsForSome stands old
    pub same_caller : caller new ≡ caller old
    pub same_alone : alone new ≡ alone old

  -- a read was sent, and what was answered is told
  pub record SendsRead (x : Oid) (when : When) (result : Result Object Refused) (old new : S) : Type 0 where
    pub reply : Reply
    pub told : IsRead result reply
    pub sent : Sends (event.Read x when) reply old new

  -- each history that the store stood for has gone on, while its caller only read
  pub record OnlyReads (old new : S) : Type 0 where
    pub goes_on : (s : Start) (es : List Entry) → stands old s es →
        (more : List Entry) × ReadsOn (alone old) (caller old) es more × stands new s more
    pub same_caller : caller new ≡ caller old
    pub same_alone : alone new ≡ alone old

  -- some history that the store stands for has this graph for the caller's transaction with this start
  pub record Sees (start : ℕ) (when : When) (store : S) (g : Graph) : Type 0 where
    pub begin : Start
    pub entries : List Entry
    pub stood : stands store begin entries
    pub seen : IsSeen (run (start_world begin) entries) (caller store) start when g
