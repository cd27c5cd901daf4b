-- A new core keeps the world that nothing has happened in, and a step of the world is a step of its history.
use Rattle.std.proofs.Common.{◌≡◌, ℕ, ◌-◌, List, [], ◌∷◌, ◌++◌, Bool, true, false, cond, get_or, refl, sym, ap, subst, ◌∙◌, arith}
use Rattle.std.specs.Prelude.{nat_lt}
use Rattle.std.proofs.lemmas.Option.{unwrap_or-slice_get}
use Rattle.graph_value.specs.declared.id.Oid.{Oid}
use Rattle.graph_value.specs.declared.id.Oid.TheVariants.{Vertex, Edge}
use Rattle.graph_record.specs.declared.object.Object.{Object}
use Rattle.undo_delta.specs.declared.delta.Delta.{Delta}
use Rattle.world_model.specs.declared.event.Event.{Event}
use Rattle.world_model.specs.Reply.{Reply}
use Rattle.world_model.specs.Replies.{IsReplyTo}
use Rattle.world_model.proofs.Folds.{empty_dead}
use Rattle.world_model.proofs.Replies.{answer_replies}
use Rattle.world_model.specs.Op.{apply_all}
use Rattle.world_model.specs.World.{Start, start_world, find_txn, ops_of, cut_of}
use Rattle.world_model.specs.Placement.{blocks_of}
use Rattle.history_keeper.specs.Rows.{RowParts, empty_row}
use Rattle.front_core.specs.Histories.{history_at}
use Rattle.front_core.specs.History.{history_of}
use Rattle.front_core.specs.declared.histories.Histories.{Histories}
use Rattle.world_model.specs.History.{Entry, IsAnswered, IsPieceOf, IsStart, AreAnswered, MayStand, MayAllStand, run}
use Rattle.world_model.specs.Undo.{left_since}
use Rattle.world_model.proofs.Histories.{start_in_order, run-append, answered-append}
use Rattle.world_model.proofs.Carried.{carried-append, pieces_right}
use Rattle.front_core.specs.Books.{Book}
use Rattle.world_model.specs.declared.event.Event.TheVariants.{Install}
use Rattle.world_model.specs.Pieces.{PieceParts}
use Rattle.front_core.specs.Keeps.{Keeps, FitsRow, FitsSome, IsOfSome, StandsFor, StandsForSome, KeepsSome, Obeys, ObeysAll, ObeysWith}
use Rattle.front_core.specs.Objects.{row_at}
use Rattle.front_core.specs.Rows.{ObjectRow, no_row}
use Rattle.front_core.specs.Tables.{Numbered, row_of}
use Rattle.front_core.specs.declared.state.State.{State}

abbrev pub new_histories : Start → Histories
new_histories s = record { interval = s.interval; vertices = record { first = s.vertices; rows = [] }; edges = record { first = s.edges; rows = [] } }

abbrev pub new_state : Start → State
new_state s = record { transactions = record { clock = s.clock; txns = [] }; objects = record { vertices = record { first = s.vertices; rows = [] }; edges = record { first = s.edges; rows = [] } }; histories = new_histories s; tally = record { committed = 0; all = 0 } }

nothing : (s : Start) (x : Oid) → FitsRow (start_world s) x no_row
unfolding find_txn left_since apply_all ops_of
nothing s x = record { untouched = λ c p f. absurd cc; newest = sym (empty_dead x); chain = refl }

none : (first n : ℕ) → row_of (record { first = first; rows = [] }) n ≡ no_row
none first n = pick (nat_lt n first)
  where
    pick : (b : Bool) → cond b no_row no_row ≡ no_row
    pick true = refl
    pick false = refl

abbrev bare : RowParts Object Delta
bare = empty_row

no_blocks : (first n : ℕ) → history_of (record { first = first; rows = [] }) n ≡ bare
no_blocks first n = ap (cond (nat_lt n first) bare) (unwrap_or-slice_get [] (n - first) bare) ∙ pick (nat_lt n first)
  where
    pick : (b : Bool) → cond b bare bare ≡ bare
    pick true = refl
    pick false = refl

no_history : (s : Start) (x : Oid) → history_at (new_histories s) x ≡ record { cut = cut_of (start_world s) x; blocks = blocks_of (start_world s) x }
unfolding left_since
no_history s (Vertex v) = no_blocks s.vertices v.0
no_history s (Edge e) = no_blocks s.edges e.0

pub keeps_new : (s : Start) → IsStart s → Keeps (new_state s) (start_world s)
unfolding find_txn ops_of
keeps_new s h = record {
  ordered = start_in_order s h;
  times = refl;
  written = λ c. tt;
  vertices = omega arith;
  edges = omega arith;
  rows = by_kind;
  cuts = λ x. omega arith;
  deltas = λ c. tt;
  counts = record { committed = refl; all = refl; most = omega arith };
  alike = record { vertices = refl; edges = refl };
  interval = refl;
  histories = no_history s;
}
  where
    by_kind : (x : Oid) → FitsRow (start_world s) x (row_at (new_state s).objects x)
    by_kind (Vertex v) = subst (FitsRow (start_world s) (Vertex v)) (sym (none s.vertices v.0)) (nothing s (Vertex v))
    by_kind (Edge e) = subst (FitsRow (start_world s) (Edge e)) (sym (none s.edges e.0)) (nothing s (Edge e))

-- a new core stands for the empty history
pub stands_new : (s : Start) → IsStart s → StandsFor s (new_state s) []
unfolding AreAnswered MayAllStand run
stands_new s h = record { start = h; legal = record { answered = tt; carried = tt }; keeps = keeps_new s h }

-- a core made of these parts is a new one
pub same_new : (s : Start) (b : Book) (vertices edges : Numbered) (histories : Histories) → b ≡ record { clock = s.clock; txns = [] } → vertices ≡ record { first = s.vertices; rows = [] } → edges ≡ record { first = s.edges; rows = [] } → histories ≡ new_histories s →
    new_state s ≡ record { transactions = b; objects = record { vertices = vertices; edges = edges }; histories = histories; tally = record { committed = 0; all = 0 } }
same_new s b vertices edges histories x y z h =
    sym (ap (λ (u : Book). record { transactions = u; objects = record { vertices = vertices; edges = edges }; histories = histories; tally = record { committed = 0; all = 0 } }) x
    ∙ ap (λ (t : Numbered). record { transactions = record { clock = s.clock; txns = [] }; objects = record { vertices = t; edges = edges }; histories = histories; tally = record { committed = 0; all = 0 } }) y
    ∙ ap (λ (t : Numbered). record { transactions = record { clock = s.clock; txns = [] }; objects = record { vertices = record { first = s.vertices; rows = [] }; edges = t }; histories = histories; tally = record { committed = 0; all = 0 } }) z
    ∙ ap (λ (t : Histories). record { transactions = record { clock = s.clock; txns = [] }; objects = record { vertices = record { first = s.vertices; rows = [] }; edges = record { first = s.edges; rows = [] } }; histories = t; tally = record { committed = 0; all = 0 } }) h)

-- What holds of every world holds of every history: the core stands for the history with the entry.
pub stands_for : (s : Start) (old new : State) (es : List Entry) (e : Entry) → MayStand es e.event → Obeys (run (start_world s) es) new e → StandsFor s old es → StandsFor s new (es ++ e ∷ [])
stands_for s old new es e may o stands =
    record {
      start = stands.start;
      legal = record {
        answered = answered-append (start_world s) es e stands.legal.answered o.answered;
        carried = carried-append [] es e stands.legal.carried may;
      };
      keeps = subst (Keeps new) (sym (run-append (start_world s) es e)) o.keeps;
    }

-- the same where the state obeys in every world that it kept
pub stands_all : (s : Start) (old new : State) (es : List Entry) (e : Entry) → MayStand es e.event → ObeysAll old new e → StandsFor s old es → StandsFor s new (es ++ e ∷ [])
stands_all s old new es e may obeys stands = stands_for s old new es e may (obeys (run (start_world s) es) stands.keeps) stands

-- the answer belongs to its event, since the core keeps some world
pub fits_event : (old new : State) (c : ℕ) (e : Event) (r : Reply) → KeepsSome old → ObeysAll old new (record { caller = c; event = e; reply = r }) → IsReplyTo e r
fits_event old new c e r some obeys = answer_replies some.0 c e r (obeys some.0 some.1).answered

-- AN INSTALLATION

-- a piece of some history is right for its world
pub fits_some : (s : State) (piece : PieceParts) → IsOfSome s piece → FitsSome s piece
fits_some s piece m = record {
  world = run (start_world m.start) m.entries;
  keeps = m.stood.keeps;
  right = pieces_right m.start m.entries piece m.stood.start m.stood.legal m.of;
}

-- of each history that has the piece
pub obeys_with : (s : Start) (old new : State) (es : List Entry) (c : ℕ) (piece : PieceParts) (r : Reply) → IsPieceOf es piece → ObeysWith piece old new (record { caller = c; event = Install piece; reply = r }) → StandsFor s old es → Obeys (run (start_world s) es) new (record { caller = c; event = Install piece; reply = r })
obeys_with s old new es c piece r of obeys stands = obeys (run (start_world s) es) stands.keeps (pieces_right s es piece stands.start stands.legal of)

pub stands_with : (s : Start) (old new : State) (es : List Entry) (c : ℕ) (piece : PieceParts) (r : Reply) → IsPieceOf es piece → ObeysWith piece old new (record { caller = c; event = Install piece; reply = r }) → StandsFor s old es → StandsFor s new (es ++ record { caller = c; event = Install piece; reply = r } ∷ [])
stands_with s old new es c piece r of obeys stands = stands_for s old new es (record { caller = c; event = Install piece; reply = r }) of (obeys_with s old new es c piece r of obeys stands) stands

pub fits_with : (old new : State) (c : ℕ) (piece : PieceParts) (r : Reply) → FitsSome old piece → ObeysWith piece old new (record { caller = c; event = Install piece; reply = r }) → IsReplyTo (Install piece) r
fits_with old new c piece r some obeys = answer_replies some.world c (Install piece) r (obeys some.world some.keeps some.right).answered

-- ---- some history is stood for at all times

abbrev pub keeps_some : (s : State) → StandsForSome s → KeepsSome s
keeps_some s some = (run (start_world some.start) some.entries, some.stood.keeps)

pub some_after : (old new : State) (c : ℕ) (e : Event) (r : Reply) → (some : StandsForSome old) → MayStand some.entries e → ObeysAll old new (record { caller = c; event = e; reply = r }) → StandsForSome new
some_after old new c e r some may obeys = record {
  start = some.start;
  entries = some.entries ++ record { caller = c; event = e; reply = r } ∷ [];
  stood = stands_all some.start old new some.entries (record { caller = c; event = e; reply = r }) may obeys some.stood;
}

pub some_with : (old new : State) (c : ℕ) (piece : PieceParts) (r : Reply) → (some : IsOfSome old piece) → ObeysWith piece old new (record { caller = c; event = Install piece; reply = r }) → StandsForSome new
some_with old new c piece r some obeys = record {
  start = some.start;
  entries = some.entries ++ record { caller = c; event = Install piece; reply = r } ∷ [];
  stood = stands_with some.start old new some.entries c piece r some.of obeys some.stood;
}
