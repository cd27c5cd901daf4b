use Rattle.std.proofs.Common.{length}
use Rattle.cypher_parse.specs.Queries.{QueryAt}
use Rattle.cypher_parse.specs.QueryParsers.{query_at}
use Rattle.cypher_parse.specs.Texts.{lexemes}
use Rattle.cypher_parse.proofs.Depth.{only_tree}
use Rattle.cypher_parse.proofs.ExactQueries.{whole_shape, tied_query}
use Rattle.cypher_parse.proofs.whole.only_the_tree.Goals as goal

pub returns : goal.returns
returns c = λ text tree is answer a. only_tree QueryAt query_at whole_shape tied_query (length text) (lexemes text) tree answer is a
