-- Why an event is refused, and which reason comes first.
use Rattle.std.specs.Prelude.{ℕ, List, [], ◌∷◌, Option, Some, None, nat_le, if◌then◌else◌}
use Rattle.graph_value.specs.declared.id.Oid.{Oid}
use Rattle.graph_value.specs.declared.id.Oid.TheVariants as oid
use Rattle.graph_record.specs.Graph.{Graph, object_at, is_dead}
use Rattle.txn_manager.specs.declared.rivals.Rival.{Rival}
use Rattle.txn_manager.specs.declared.refusals.BeginRefused.{BeginRefused}
use Rattle.txn_manager.specs.declared.refusals.BeginRefused.TheVariants as begin
use Rattle.undo_delta.specs.Change.{is_without_edges}
use Rattle.undo_delta.specs.Touch.{touches}
use Rattle.undo_delta.specs.declared.ask.Ask.{Ask}
use Rattle.undo_delta.specs.declared.ask.Ask.TheVariants.{CreateVertex, DeleteVertex, AddLabel, RemoveLabel, SetVertexProp, CreateEdge, DeleteEdge, SetEdgeProp}
use Rattle.world_model.specs.declared.TheConstants.{ID_END}
use Rattle.world_model.specs.declared.answer.Refused.{Refused}
use Rattle.world_model.specs.declared.answer.Refused.TheVariants.{AlreadyOpen, Missing, Conflict, HasEdges, ClockEnd, TooMany, IdEnd, NoMemory}
use Rattle.world_model.specs.World.{World, Txn, view_of, rival_at}
use Rattle.world_model.specs.Asked.{named, op_of}

-- the first of two reasons
abbrev pub or_else : {A : Type 0} → Option A → Option A → Option A
or_else None other = other
or_else (Some a) other = Some a

abbrev pub refused_begin : BeginRefused → Refused
refused_begin begin.AlreadyOpen = AlreadyOpen
refused_begin begin.TooMany = TooMany
refused_begin begin.ClockEnd = ClockEnd
refused_begin begin.NoMemory = NoMemory

-- the first of the objects that isn't in the graph
abbrev pub missing : Graph → List Oid → Option Refused
missing g [] = None
missing g (x ∷ xs) = if is_dead (object_at g x) then Some (Missing x) else missing g xs

abbrev pub conflict_at : Oid → Option Rival → Option Refused
conflict_at x None = None
conflict_at x (Some rival) = Some (Conflict x rival)

-- the first of the objects that has a rival
abbrev pub conflict : World → Txn → List Oid → Option Refused
conflict w p [] = None
conflict w p (x ∷ xs) = or_else (conflict_at x (rival_at w p x)) (conflict w p xs)

-- a vertex that is deleted has no edges in the graph
abbrev pub has_edges : Graph → Ask → Option Refused
has_edges g CreateVertex = None
has_edges g (DeleteVertex v) = if is_without_edges (object_at g (oid.Vertex v)) then None else Some (HasEdges v)
has_edges g (AddLabel v name) = None
has_edges g (RemoveLabel v name) = None
has_edges g (SetVertexProp v name value) = None
has_edges g (CreateEdge from kind to) = None
has_edges g (DeleteEdge e) = None
has_edges g (SetEdgeProp e name value) = None

-- no number is left where the counter stands at its end
abbrev pub none_left : ℕ → Option Refused
none_left counter = if nat_le ID_END counter then Some IdEnd else None

abbrev pub id_end : World → Ask → Option Refused
id_end w CreateVertex = none_left w.vertices
id_end w (DeleteVertex v) = None
id_end w (AddLabel v name) = None
id_end w (RemoveLabel v name) = None
id_end w (SetVertexProp v name value) = None
id_end w (CreateEdge from kind to) = none_left w.edges
id_end w (DeleteEdge e) = None
id_end w (SetEdgeProp e name value) = None

-- Why a write is refused: an object that it names is missing, then one that it touches has a rival, then a vertex has
-- edges, then no id is left.
abbrev pub write_refusal : World → Txn → Ask → Option Refused
write_refusal w p ask =
    or_else (missing (view_of w p) (named ask))
    (or_else (conflict w p (touches (op_of w (view_of w p) ask)))
    (or_else (has_edges (view_of w p) ask)
    (id_end w ask)))
