use Rattle.std.proofs.Common.{◌≡◌, sym, ap, ◌∙◌}
use Rattle.graph_record.specs.Graph.{object_at}
use Rattle.world_model.specs.Views.{graph_of}
use Rattle.front_core.specs.Outlines.{outline_of}
use Rattle.front_core.proofs.state.State.outline.Goals as goal

pub returns-in-Own : goal.returns-in-Own
returns-in-Own c = λ w p o.
    c.outline_seen.ensures w p o ∙ ap (λ when. outline_of (object_at (graph_of w p when) c.args.x)) (sym c.in-Own.is)

pub returns-in-At : goal.returns-in-At
returns-in-At c = λ w p o.
    c.outline_at.ensures w o.keeps ∙ ap (λ when. outline_of (object_at (graph_of w p when) c.args.x)) (sym c.in-At.is)
