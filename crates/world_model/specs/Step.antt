-- One step of the store: what it answers to a caller's event, and the world afterwards, where memory isn't wanting.
use Rattle.std.specs.Prelude.{ℕ, ◌+◌, List, [], ◌∷◌, ◌++◌, Option, Some, None, Bool, nat_eq, not, filter, if◌then◌else◌}
use Rattle.graph_value.specs.declared.id.Oid.{Oid}
use Rattle.graph_record.specs.Graph.{object_at}
use Rattle.txn_manager.specs.declared.refusals.BeginRefused.{BeginRefused}
use Rattle.txn_manager.specs.Transactions.{begin_refusal}
use Rattle.undo_delta.specs.declared.ask.Ask.{Ask}
use Rattle.undo_delta.specs.declared.op.Op.{Op}
use Rattle.world_model.specs.declared.event.Event.{Event}
use Rattle.world_model.specs.declared.event.Event.TheVariants as event
use Rattle.world_model.specs.declared.event.Kind.{Kind}
use Rattle.world_model.specs.declared.event.When.{When}
use Rattle.world_model.specs.declared.answer.Wrote.TheVariants as wrote
use Rattle.world_model.specs.declared.answer.Refused.{Refused}
use Rattle.world_model.specs.declared.answer.Refused.TheVariants.{NoTxn, Missing, Stale}
use Rattle.world_model.specs.Op.{changes, is_given}
use Rattle.world_model.specs.World.{World, Txn, view_of, txn_of, transactions_of, mark, cut_of}
use Rattle.world_model.specs.Views.{graph_of, time_ahead, next_id}
use Rattle.world_model.specs.Refusals.{refused_begin, write_refusal}
use Rattle.world_model.specs.Asked.{op_of, wrote_of, vertices_made, edges_made}
use Rattle.world_model.specs.Pieces.{PieceParts}
use Rattle.world_model.specs.Placement.{lifted_of, stats_of}
use Rattle.world_model.specs.Reply.{Reply}
use Rattle.world_model.specs.Reply as reply

-- what is answered, and the world after it
pub record Outcome : Type 0 where
  pub reply : Reply
  pub world : World

-- an answer that changes nothing
abbrev pub answered : World → Reply → Outcome
answered w reply = record { reply = reply; world = w }

-- a refusal changes nothing
abbrev pub refused : World → Refused → Outcome
refused w why = answered w (reply.Refused why)

-- a transaction of the caller opens at the clock, which rises by one
abbrev pub begun_world : World → ℕ → World
begun_world w caller = record w { clock = w.clock + 1; running = w.running ++ record { caller = caller; start = w.clock; ops = [] } ∷ [] }

abbrev pub begin_step : World → ℕ → Option BeginRefused → Outcome
begin_step w caller (Some why) = refused w (refused_begin why)
begin_step w caller None = record { reply = reply.Begun w.clock; world = begun_world w caller }

-- what is answered of a graph that is asked for, unless its instant is ahead
abbrev pub seen_step : World → Option Refused → Reply → Outcome
seen_step w (Some why) reply = refused w why
seen_step w None reply = answered w reply

abbrev pub read_step : World → Oid → When → Option Txn → Outcome
read_step w x when None = refused w NoTxn
read_step w x when (Some p) = seen_step w (time_ahead p when) (reply.Version (object_at (graph_of w p when) x))

abbrev pub next_step : World → Kind → Option ℕ → When → Option Txn → Outcome
next_step w kind after when None = refused w NoTxn
next_step w kind after when (Some p) = seen_step w (time_ahead p when) (reply.Id (next_id kind after (graph_of w p when)))

-- the caller's transaction with one more write
unfoldable pub with_op : List Txn → ℕ → Op → List Txn
with_op [] caller op = []
with_op (p ∷ ps) caller op = if nat_eq p.caller caller then record p { ops = p.ops ++ op ∷ [] } ∷ ps else p ∷ with_op ps caller op

-- the world with one more write of the caller's
abbrev pub written_world : World → ℕ → Ask → Op → World
written_world w caller ask op =
    record w { vertices = w.vertices + vertices_made ask; edges = w.edges + edges_made ask; running = with_op w.running caller op }

-- the answer to a write that would leave the graph as it is
abbrev pub unchanged : Reply
unchanged = reply.Wrote wrote.Unchanged

-- a write that changes nothing is no write
abbrev pub effect_step : World → ℕ → Ask → Op → Bool → Outcome
effect_step w caller ask op changed =
    if changed then record { reply = reply.Wrote (wrote_of w ask); world = written_world w caller ask op } else answered w unchanged

abbrev pub allowed_write_step : World → Txn → ℕ → Ask → Option Refused → Outcome
allowed_write_step w p caller ask (Some why) = refused w why
allowed_write_step w p caller ask None =
    effect_step w caller ask (op_of w (view_of w p) ask) (changes (op_of w (view_of w p) ask) (view_of w p))

abbrev pub write_step : World → ℕ → Ask → Option Txn → Outcome
write_step w caller ask None = refused w NoTxn
write_step w caller ask (Some p) = allowed_write_step w p caller ask (write_refusal w p ask)

-- the open transactions of the other callers
unfoldable pub without : ℕ → List Txn → List Txn
without caller ps = filter (λ p. not (nat_eq p.caller caller)) ps

-- Writes are committed under the clock, which rises by one; a transaction without writes leaves no commit.
abbrev pub committed : World → ℕ → ℕ → List Op → Outcome
committed w caller start [] = record { reply = reply.Committed start; world = record w { running = without caller w.running } }
committed w caller start (op ∷ ops) = record {
  reply = reply.Committed w.clock;
  world = record w { clock = w.clock + 1; commits = w.commits ++ record { ts = w.clock; ops = op ∷ ops } ∷ []; running = without caller w.running };
}

abbrev pub commit_step : World → ℕ → Option Txn → Outcome
commit_step w caller None = refused w NoTxn
commit_step w caller (Some p) = committed w caller p.start p.ops

-- An abort leaves no trace of the transaction but the ids that it took.
abbrev pub abort_step : World → ℕ → Option Txn → Outcome
abort_step w caller None = refused w NoTxn
abort_step w caller (Some p) = record { reply = reply.Aborted; world = record w { running = without caller w.running } }

abbrev pub mark_step : World → Outcome
mark_step w = answered w (reply.Marked (record { mark = mark w; clock = w.clock; vertices = w.vertices; edges = w.edges }))

-- A lift copies what has expired of an object, and changes nothing.
abbrev pub lift_step : World → Oid → Outcome
lift_step w x = if is_given w.vertices w.edges x then answered w (reply.Lifted (lifted_of w x)) else refused w (Missing x)

-- the object's deltas below the piece's mark are moved into its history
abbrev pub installed_world : World → PieceParts → World
installed_world w piece = record w { installs = record { x = piece.x; mark = piece.mark } ∷ w.installs }

-- A piece is installed unless other deltas of the object were moved since it was lifted.
abbrev pub install_step : World → PieceParts → Outcome
install_step w piece =
    if nat_eq piece.cut (cut_of w piece.x) then record { reply = reply.Installed; world = installed_world w piece }
    else refused w (Stale (cut_of w piece.x))

-- what the store answers to a caller's event, and the world afterwards
abbrev pub step : World → ℕ → Event → Outcome
step w caller event.Begin = begin_step w caller (begin_refusal (transactions_of w) caller)
step w caller (event.Next kind after when) = next_step w kind after when (txn_of w caller)
step w caller (event.Read x when) = read_step w x when (txn_of w caller)
step w caller (event.Write ask) = write_step w caller ask (txn_of w caller)
step w caller event.Commit = commit_step w caller (txn_of w caller)
step w caller event.Abort = abort_step w caller (txn_of w caller)
step w caller event.Mark = mark_step w
step w caller (event.Lift x) = lift_step w x
step w caller (event.Install piece) = install_step w piece
step w caller event.Stats = answered w (reply.Stats (stats_of w))
