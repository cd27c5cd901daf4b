use Rattle.world_model.proofs.Growing.{instant_stays, past_deltas_stay}
use Rattle.world_model.proofs.law.the_past_stays.Goals as goal

pub returns-clause-instants : goal.returns-clause-instants
returns-clause-instants c = instant_stays

pub returns-clause-deltas : goal.returns-clause-deltas
returns-clause-deltas c = past_deltas_stay
