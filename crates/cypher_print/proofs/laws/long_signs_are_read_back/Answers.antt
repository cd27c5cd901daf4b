use Rattle.cypher_print.proofs.ReadSigns.{long_signs}
use Rattle.cypher_print.proofs.laws.long_signs_are_read_back.Goals as goal

pub returns : goal.returns
returns c = long_signs
