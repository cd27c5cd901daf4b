use Rattle.world_model.proofs.Marks.{step_mark, history_mark}
use Rattle.world_model.proofs.law.marks_never_fall.Goals as goal

pub returns-clause-steps : goal.returns-clause-steps
returns-clause-steps c = step_mark

pub returns-clause-histories : goal.returns-clause-histories
returns-clause-histories c = history_mark
