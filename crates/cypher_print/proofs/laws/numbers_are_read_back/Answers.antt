use Rattle.cypher_print.proofs.ReadNumbers.{numbers}
use Rattle.cypher_print.proofs.laws.numbers_are_read_back.Goals as goal

pub returns : goal.returns
returns c = numbers
