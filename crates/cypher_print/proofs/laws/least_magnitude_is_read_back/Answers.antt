use Rattle.cypher_print.proofs.ReadNumbers.{least}
use Rattle.cypher_print.proofs.laws.least_magnitude_is_read_back.Goals as goal

pub returns : goal.returns
returns c = least
