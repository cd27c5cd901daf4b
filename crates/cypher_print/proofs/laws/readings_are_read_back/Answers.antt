use Rattle.cypher_parse.specs.Expressions.{Expression}
use Rattle.cypher_print.proofs.ReadingsRead.{reading}
use Rattle.cypher_print.proofs.laws.readings_are_read_back.Goals as goal

pub returns : goal.returns
returns c = λ m. reading (Expression m)
