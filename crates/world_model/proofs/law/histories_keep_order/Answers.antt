use Rattle.world_model.specs.World.{start_world}
use Rattle.world_model.proofs.Histories.{run_keeps_order, start_in_order}
use Rattle.world_model.proofs.law.histories_keep_order.Goals as goal

pub returns : goal.returns
returns c = λ s es h. run_keeps_order (start_world s) es (start_in_order s h)
