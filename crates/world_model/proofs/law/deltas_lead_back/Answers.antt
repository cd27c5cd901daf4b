use Rattle.world_model.proofs.Undo.{instant_undone}
use Rattle.world_model.proofs.law.deltas_lead_back.Goals as goal

pub returns : goal.returns
returns c = instant_undone
