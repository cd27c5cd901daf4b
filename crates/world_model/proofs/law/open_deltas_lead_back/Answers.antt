use Rattle.world_model.proofs.OpenUndo.{written_undone, other_undone, unwritten_undone}
use Rattle.world_model.proofs.law.open_deltas_lead_back.Goals as goal

pub returns-clause-instants : goal.returns-clause-instants
returns-clause-instants c = written_undone

pub returns-clause-others : goal.returns-clause-others
returns-clause-others c = other_undone

pub returns-clause-unwritten : goal.returns-clause-unwritten
returns-clause-unwritten c = unwritten_undone
