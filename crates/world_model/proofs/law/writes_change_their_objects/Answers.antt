use Rattle.world_model.proofs.Answered.{touched_object, other_object}
use Rattle.world_model.proofs.law.writes_change_their_objects.Goals as goal

pub returns-clause-touched : goal.returns-clause-touched
returns-clause-touched c = touched_object

pub returns-clause-others : goal.returns-clause-others
returns-clause-others c = other_object
