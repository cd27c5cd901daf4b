use Rattle.write_ops.proofs.CreateFits.{create_fits}
use Rattle.write_ops.proofs.laws.names_stand_for_creates.Goals as goal

pub returns : goal.returns
returns c = create_fits
