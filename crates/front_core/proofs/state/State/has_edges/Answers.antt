use Rattle.std.proofs.Common.{◌≡◌, Some, None, Bool, true, false, cond, sym, ap, ◌∙◌, arith}
use Rattle.graph_value.specs.declared.id.Oid.TheVariants.{Vertex}
use Rattle.graph_record.specs.Graph.{object_at}
use Rattle.undo_delta.specs.Change.{is_without_edges}
use Rattle.undo_delta.specs.Touch.{touches}
use Rattle.world_model.specs.declared.answer.Refused.TheVariants.{HasEdges}
use Rattle.world_model.specs.World.{view_of}
use Rattle.front_core.proofs.Changing.{edges_of, one_vertex, touched_newest}
use Rattle.front_core.proofs.state.State.has_edges.Goals as goal

pub returns-in-DeleteVertex : goal.returns-in-DeleteVertex
returns-in-DeleteVertex c = λ w caller start p ask o asked free.
    let bare : c.is_without_edges.result ≡ false = grind (arith, c.if-not-is_without_edges.true) in
    let newest = touched_newest c.args.self.now w caller start p o c.args.op.now (Vertex c.in-DeleteVertex.v) free (one_vertex c.args.op.now c.in-DeleteVertex.v (ap touches c.in-DeleteVertex.is)) in
    sym (edges_of w (view_of w p) ask c.in-DeleteVertex.v (sym c.in-DeleteVertex.is ∙ asked.is)
    ∙ ap (λ b. cond b None (Some (HasEdges c.in-DeleteVertex.v))) (sym (c.is_without_edges.ensures ∙ ap is_without_edges newest) ∙ bare))

pub returns-in_default : goal.returns-in_default
returns-in_default c = λ w caller start p ask o asked free.
    let bare : c.is_without_edges.result ≡ true = grind (arith, c.if-not-is_without_edges.false) in
    let newest = touched_newest c.args.self.now w caller start p o c.args.op.now (Vertex c.in-DeleteVertex.v) free (one_vertex c.args.op.now c.in-DeleteVertex.v (ap touches c.in-DeleteVertex.is)) in
    sym (edges_of w (view_of w p) ask c.in-DeleteVertex.v (sym c.in-DeleteVertex.is ∙ asked.is)
    ∙ ap (λ b. cond b None (Some (HasEdges c.in-DeleteVertex.v))) (sym (c.is_without_edges.ensures ∙ ap is_without_edges newest) ∙ bare))
