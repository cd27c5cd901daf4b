use Rattle.cypher_print.proofs.ReadBack.{texts}
use Rattle.cypher_print.proofs.laws.texts_are_read_back.Goals as goal

pub returns : goal.returns
returns c = texts
