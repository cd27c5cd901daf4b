use Rattle.std.proofs.Common.{◌≡◌, [], ◌∷◌, None, not, refl, sym, ap, subst, ◌∙◌}
use Rattle.graph_value.specs.Value.{same_value}
use Rattle.graph_value.specs.declared.id.Oid.TheVariants.{Vertex, Edge}
use Rattle.graph_record.specs.Graph.{object_at}
use Rattle.undo_delta.specs.Change.{has_label, kept, value_at}
use Rattle.undo_delta.specs.Touch.{touches}
use Rattle.undo_delta.specs.declared.op.Op.{Op}
use Rattle.undo_delta.specs.declared.op.Op.TheVariants.{AddLabel, RemoveLabel, SetVertexProp, SetEdgeProp}
use Rattle.world_model.specs.Op.{changes}
use Rattle.world_model.specs.Refusals.{conflict}
use Rattle.world_model.specs.World.{view_of}
use Rattle.front_core.proofs.Changing.{one_edge, one_vertex, touched_newest}
use Rattle.front_core.proofs.state.State.changes.Goals as goal

pub returns-in-AddLabel : goal.returns-in-AddLabel
returns-in-AddLabel c = λ w caller start p o free.
    ap not (c.has_label.ensures ∙ ap (has_label c.in-AddLabel.name) (touched_newest c.args.self.now w caller start p o c.args.op.now (Vertex c.in-AddLabel.v) free (one_vertex c.args.op.now c.in-AddLabel.v (ap touches c.in-AddLabel.is))))
    ∙ ap (λ (op : Op). changes op (view_of w p)) (sym c.in-AddLabel.is)

pub returns-in-RemoveLabel : goal.returns-in-RemoveLabel
returns-in-RemoveLabel c = λ w caller start p o free.
    c.has_label-in-RemoveLabel.ensures ∙ ap (has_label c.in-RemoveLabel.name) (touched_newest c.args.self.now w caller start p o c.args.op.now (Vertex c.in-RemoveLabel.v) free (one_vertex c.args.op.now c.in-RemoveLabel.v (ap touches c.in-RemoveLabel.is)))
    ∙ ap (λ (op : Op). changes op (view_of w p)) (sym c.in-RemoveLabel.is)

pub returns-in-SetVertexProp : goal.returns-in-SetVertexProp
returns-in-SetVertexProp c = λ w caller start p o free.
    c.is_set.ensures ∙ ap (λ object. not (same_value (value_at c.in-SetVertexProp.name object) (kept c.in-SetVertexProp.value))) (touched_newest c.args.self.now w caller start p o c.args.op.now (Vertex c.in-SetVertexProp.v) free (one_vertex c.args.op.now c.in-SetVertexProp.v (ap touches c.in-SetVertexProp.is)))
    ∙ ap (λ (op : Op). changes op (view_of w p)) (sym c.in-SetVertexProp.is)

pub returns-in-SetEdgeProp : goal.returns-in-SetEdgeProp
returns-in-SetEdgeProp c = λ w caller start p o free.
    c.is_set-in-SetEdgeProp.ensures ∙ ap (λ object. not (same_value (value_at c.in-SetEdgeProp.name object) (kept c.in-SetEdgeProp.value))) (touched_newest c.args.self.now w caller start p o c.args.op.now (Edge c.in-SetEdgeProp.e) free (one_edge c.args.op.now c.in-SetEdgeProp.e (ap touches c.in-SetEdgeProp.is)))
    ∙ ap (λ (op : Op). changes op (view_of w p)) (sym c.in-SetEdgeProp.is)
