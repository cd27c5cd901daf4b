use Rattle.world_model.proofs.Effects.{effect_seen}
use Rattle.world_model.proofs.law.effects_are_seen.Goals as goal

pub returns : goal.returns
returns c = effect_seen
