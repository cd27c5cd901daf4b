use Rattle.cypher_print.proofs.ReadSigns.{words}
use Rattle.cypher_print.proofs.laws.words_are_read_back.Goals as goal

pub returns : goal.returns
returns c = words
