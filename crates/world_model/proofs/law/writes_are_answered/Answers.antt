use Rattle.world_model.proofs.Answered.{unchanged_seen}
use Rattle.world_model.proofs.Writes.{allowed_possible}
use Rattle.world_model.proofs.law.writes_are_answered.Goals as goal

pub returns-clause-possible : goal.returns-clause-possible
returns-clause-possible c = allowed_possible

pub returns-clause-unchanged : goal.returns-clause-unchanged
returns-clause-unchanged c = unchanged_seen
