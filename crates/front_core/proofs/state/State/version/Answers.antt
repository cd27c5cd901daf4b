use Rattle.std.proofs.Common.{◌≡◌, sym, ap, ◌∙◌}
use Rattle.std.proofs.lemmas.Result.{IfOk-weaker}
use Rattle.graph_record.specs.Graph.{object_at}
use Rattle.world_model.specs.Views.{graph_of}
use Rattle.front_core.proofs.state.State.version.Goals as goal

pub returns-in-Own : goal.returns-in-Own
returns-in-Own c = IfOk-weaker c.seen.result _ _ (λ object is w p o.
    is w p o ∙ ap (λ when. object_at (graph_of w p when) c.args.x) (sym c.in-Own.is)) c.seen.ensures
