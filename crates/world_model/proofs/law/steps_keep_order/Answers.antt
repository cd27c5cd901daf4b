use Rattle.world_model.proofs.Order.{step_keeps_order}
use Rattle.world_model.proofs.law.steps_keep_order.Goals as goal

pub returns : goal.returns
returns c = step_keeps_order
