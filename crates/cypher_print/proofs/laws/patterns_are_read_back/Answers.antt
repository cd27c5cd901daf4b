use Rattle.cypher_parse.specs.Expressions.{Expression}
use Rattle.cypher_print.proofs.EdgesRead.{pattern_read}
use Rattle.cypher_print.proofs.laws.patterns_are_read_back.Goals as goal

pub returns : goal.returns
returns c = λ m. pattern_read (Expression m)
