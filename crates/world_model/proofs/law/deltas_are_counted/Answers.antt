use Rattle.world_model.proofs.Counted.{deltas_counted, parts_counted}
use Rattle.world_model.proofs.law.deltas_are_counted.Goals as goal

pub returns-clause-all : goal.returns-clause-all
returns-clause-all c = deltas_counted

pub returns-clause-parts : goal.returns-clause-parts
returns-clause-parts c = parts_counted
