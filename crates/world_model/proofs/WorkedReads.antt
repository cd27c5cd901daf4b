-- The definitions of reads, searches, aborts and marks, computed on the networks.
use Rattle.std.proofs.Common.{◌≡◌, ◌≤◌, ◌⊎◌, List, ℕ, [], ◌∷◌, Option, Some, None, false, true, codes, refl, arith, inl, inr}
use Rattle.graph_value.specs.declared.id.EdgeId.{EdgeId}
use Rattle.graph_value.specs.declared.id.Oid.TheVariants as oid
use Rattle.graph_record.specs.declared.object.Object.{Object}
use Rattle.graph_record.specs.declared.object.Object.TheVariants as object
use Rattle.undo_delta.specs.declared.ask.Ask.TheVariants.{CreateVertex}
use Rattle.world_model.specs.declared.event.Event.TheVariants as event
use Rattle.world_model.specs.declared.event.Kind.TheVariants as kind
use Rattle.world_model.specs.declared.event.When.{When}
use Rattle.world_model.specs.declared.event.When.TheVariants.{Own, At}
use Rattle.world_model.specs.Reply as reply
use Rattle.world_model.specs.declared.answer.Refused.TheVariants as refused
use Rattle.world_model.specs.Op.{apply_all}
use Rattle.world_model.specs.World.{find_txn, ops_of, before, view_of}
use Rattle.world_model.specs.Views.{IsNext}
use Rattle.world_model.specs.Step.{Outcome, step, without}
use Rattle.world_model.specs.History.{may_want, stamps_given}
use Rattle.world_model.specs.Replies.{IsReplyTo}
use Rattle.world_model.proofs.Network.{v0, v1, e0, e1, network, early}
use Rattle.world_model.proofs.Gaps.{gaps, maker}

abbrev vertex : List (List ℕ) → List EdgeId → List EdgeId → Object
vertex labels outs ins = object.Vertex (record { labels = labels; props = []; outs = outs; ins = ins })

-- ---- reads

-- a transaction sees its own writes, and not at an instant
read_own : step network 2 (event.Read (oid.Vertex v1) Own) ≡ record { reply = reply.Version (vertex (codes "C" ∷ []) (e1 ∷ []) (e0 ∷ e1 ∷ [])); world = network }
unfolding apply_all ops_of before find_txn
read_own = refl

read_at_start : step network 2 (event.Read (oid.Vertex v1) (At 7)) ≡ record { reply = reply.Version (vertex [] (e1 ∷ []) (e0 ∷ e1 ∷ [])); world = network }
unfolding apply_all ops_of before find_txn
read_at_start = refl

-- a read at an instant sees the commits up to it
read_at_3 : (step network 1 (event.Read (oid.Vertex v0) (At 3))).reply ≡ reply.Version (vertex [] (e0 ∷ []) [])
unfolding apply_all ops_of before find_txn
read_at_3 = refl

read_at_4 : (step network 1 (event.Read (oid.Vertex v0) (At 4))).reply ≡ reply.Version (vertex (codes "A" ∷ codes "B" ∷ []) (e0 ∷ []) [])
unfolding apply_all ops_of before find_txn
read_at_4 = refl

read_before_all : (step network 1 (event.Read (oid.Vertex v0) (At 1))).reply ≡ reply.Version object.Dead
unfolding apply_all ops_of before find_txn
read_before_all = refl

-- the start itself may be read, and nothing past it
read_at_5 : (step network 1 (event.Read (oid.Vertex v0) (At 5))).reply ≡ reply.Version (vertex (codes "A" ∷ codes "B" ∷ []) (e0 ∷ []) [])
unfolding apply_all ops_of before find_txn
read_at_5 = refl

read_ahead : step network 1 (event.Read (oid.Vertex v0) (At 6)) ≡ record { reply = reply.Refused (refused.TimeAhead 6 5); world = network }
unfolding find_txn
read_ahead = refl

read_by_nobody : step network 3 (event.Read (oid.Vertex v0) (At 1)) ≡ record { reply = reply.Refused refused.NoTxn; world = network }
unfolding find_txn
read_by_nobody = refl

-- ---- searches

abbrev next_vertex : Option ℕ → When → Outcome
next_vertex after when = step gaps 1 (event.Next kind.Vertex after when)

abbrev told : Option ℕ → Outcome
told id = record { reply = reply.Id id; world = gaps }

first_vertex : next_vertex None Own ≡ told (Some 0)
unfolding apply_all ops_of before find_txn
first_vertex = refl

-- dead numbers are left out
past_dead : next_vertex (Some 0) Own ≡ told (Some 3)
unfolding apply_all ops_of before find_txn
past_dead = refl

from_dead : next_vertex (Some 1) Own ≡ told (Some 3)
unfolding apply_all ops_of before find_txn
from_dead = refl

-- its own vertex is found, and behind it none
own_vertex : next_vertex (Some 3) Own ≡ told (Some 4)
unfolding apply_all ops_of before find_txn
own_vertex = refl

no_vertex : next_vertex (Some 4) Own ≡ told None
unfolding apply_all ops_of before find_txn
no_vertex = refl

-- at an instant it isn't, and what was alive then is
not_own_at : next_vertex (Some 3) (At 5) ≡ told None
unfolding apply_all ops_of before find_txn
not_own_at = refl

alive_then : next_vertex (Some 0) (At 3) ≡ told (Some 1)
unfolding apply_all ops_of before find_txn
alive_then = refl

search_ahead : next_vertex None (At 6) ≡ record { reply = reply.Refused (refused.TimeAhead 6 5); world = gaps }
unfolding find_txn
search_ahead = refl

next_edge : step gaps 1 (event.Next kind.Edge (Some 0) Own) ≡ told (Some 2)
unfolding apply_all ops_of before find_txn
next_edge = refl

no_edge : step gaps 1 (event.Next kind.Edge (Some 2) Own) ≡ told None
unfolding apply_all ops_of before find_txn
no_edge = refl

search_by_nobody : step gaps 2 (event.Next kind.Edge None Own) ≡ record { reply = reply.Refused refused.NoTxn; world = gaps }
unfolding find_txn
search_by_nobody = refl

-- a number with a lesser one before it isn't the next, nor is the other number itself
not_the_least : IsNext kind.Vertex None (view_of gaps maker) 3 → ⊥
unfolding apply_all ops_of before
not_the_least next = let low : 3 ≤ 0 = next.least 0 refl refl in absurd (omega arith)

not_itself : IsNext kind.Vertex (Some 3) (view_of gaps maker) 3 → ⊥
not_itself next = let above : false ≡ true = next.above in cc

-- ---- aborts: the transaction is gone, and clock, counters and commits are as they were

aborted : step network 2 event.Abort ≡ record { reply = reply.Aborted; world = record network { running = early ∷ [] } }
unfolding find_txn without
aborted = refl

ids_stay : step gaps 1 event.Abort ≡ record { reply = reply.Aborted; world = record gaps { running = [] } }
unfolding find_txn without
ids_stay = refl

none_to_abort : step network 3 event.Abort ≡ record { reply = reply.Refused refused.NoTxn; world = network }
unfolding find_txn
none_to_abort = refl

no_stamp : stamps_given network (record { caller = 2; event = event.Abort; reply = reply.Aborted } ∷ []) ≡ []
unfolding stamps_given find_txn without
no_stamp = refl

-- ---- marks: four numbers, told to everybody

marked : step gaps 9 event.Mark ≡ record { reply = reply.Marked (record { mark = 5; clock = 6; vertices = 5; edges = 3 }); world = gaps }
marked = refl

marked_unopened : (step (record gaps { running = [] }) 9 event.Mark).reply ≡ reply.Marked (record { mark = 6; clock = 6; vertices = 5; edges = 3 })
marked_unopened = refl

-- ---- where memory may be wanting

not_at_an_abort : may_want network 1 event.Abort ≡ false
not_at_an_abort = refl

not_at_a_mark : may_want network 1 event.Mark ≡ false
not_at_a_mark = refl

at_a_search : may_want network 1 (event.Next kind.Edge None Own) ≡ true
unfolding find_txn
at_a_search = refl

not_ahead : may_want network 1 (event.Read (oid.Vertex v0) (At 6)) ≡ false
unfolding find_txn
not_ahead = refl

-- ---- which answers belong to which events

no_number_at_a_read : IsReplyTo (event.Read (oid.Vertex v0) Own) (reply.Id None) → ⊥
no_number_at_a_read h = h.told

no_number_at_a_mark : IsReplyTo event.Mark (reply.Id None) → ⊥
no_number_at_a_mark h = h.told

no_number_at_an_abort : IsReplyTo event.Abort (reply.Id None) → ⊥
no_number_at_an_abort h = h.told

no_number_at_a_write : IsReplyTo (event.Write CreateVertex) (reply.Id None) → ⊥
no_number_at_a_write h = h.told

no_version_at_an_abort : IsReplyTo event.Abort (reply.Version object.Dead) → ⊥
no_version_at_an_abort h = h.told

no_version_at_a_mark : IsReplyTo event.Mark (reply.Version object.Dead) → ⊥
no_version_at_a_mark h = h.told

no_version_at_a_search : IsReplyTo (event.Next kind.Vertex None Own) (reply.Version object.Dead) → ⊥
no_version_at_a_search h = h.told

-- a mark is never refused, and nothing is answered in another event's kind
no_refusal_at_a_mark : IsReplyTo event.Mark (reply.Refused refused.NoTxn) → ⊥
no_refusal_at_a_mark h = other h.kind.1
  where
    other : {marked : _} → reply.Refused refused.NoTxn ≡ reply.Marked marked → ⊥
    other e = cc

no_commit_at_an_abort : IsReplyTo event.Abort (reply.Committed 1) → ⊥
no_commit_at_an_abort h = either h.kind
  where
    either : (((why : _) × (reply.Committed 1 ≡ reply.Refused why)) ⊎ (reply.Committed 1 ≡ reply.Aborted)) → ⊥
    either (inl refusal) = let e : reply.Committed 1 ≡ reply.Refused refusal.0 = refusal.1 in cc
    either (inr e) = cc
