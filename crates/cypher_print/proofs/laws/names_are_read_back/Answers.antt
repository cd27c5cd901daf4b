use Rattle.cypher_print.proofs.ReadBack.{names}
use Rattle.cypher_print.proofs.laws.names_are_read_back.Goals as goal

pub returns : goal.returns
returns c = names
