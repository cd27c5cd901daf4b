use Rattle.cypher_parse.specs.Expressions.{Expression}
use Rattle.cypher_print.proofs.QueriesRead.{query_read}
use Rattle.cypher_print.proofs.laws.queries_are_read_back.Goals as goal

pub returns : goal.returns
returns c = λ m q behind is parts. (query_read (Expression m) q is).reads behind parts
