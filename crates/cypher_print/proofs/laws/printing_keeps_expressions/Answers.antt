use Rattle.cypher_print.proofs.PrintedRead.{printed_expression}
use Rattle.cypher_print.proofs.laws.printing_keeps_expressions.Goals as goal

pub returns : goal.returns
returns c = printed_expression
