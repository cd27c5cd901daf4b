use Rattle.std.proofs.Common.{length}
use Rattle.cypher_parse.specs.Queries.{QueryAt}
use Rattle.cypher_parse.specs.QueryParsers.{query_at}
use Rattle.cypher_parse.specs.Texts.{lexemes}
use Rattle.cypher_parse.proofs.ExactQueries.{whole_shape, tied_query}
use Rattle.cypher_parse.proofs.Unique.{one_answer}
use Rattle.cypher_parse.proofs.whole.one_answer.Goals as goal

pub returns : goal.returns
returns c = λ text a b is is'. one_answer QueryAt query_at whole_shape tied_query (length text) (lexemes text) a b is is'
