use Rattle.cypher_print.proofs.ReadSigns.{signs}
use Rattle.cypher_print.proofs.laws.signs_are_read_back.Goals as goal

pub returns : goal.returns
returns c = signs
