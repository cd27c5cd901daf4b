use Rattle.world_model.proofs.Invisible.{clients_are_legal}
use Rattle.world_model.proofs.law.collectors_are_invisible.Goals as goal

pub returns : goal.returns
returns c = clients_are_legal
