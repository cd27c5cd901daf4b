use Rattle.world_model.proofs.Histories.{history_rises}
use Rattle.front_core.proofs.law.histories_are_legal.Goals as goal

pub returns-clause-rise : goal.returns-clause-rise
returns-clause-rise c = λ s store es h. history_rises s es h.start h.legal
