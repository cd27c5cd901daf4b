use Rattle.world_model.proofs.Carried.{pieces_right, cuts_low}
use Rattle.world_model.proofs.law.pieces_are_right.Goals as goal

pub returns-clause-pieces : goal.returns-clause-pieces
returns-clause-pieces c = pieces_right

pub returns-clause-cuts : goal.returns-clause-cuts
returns-clause-cuts c = cuts_low
