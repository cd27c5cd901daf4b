use Rattle.cypher_parse.specs.Queries.{QueryAt}
use Rattle.cypher_parse.specs.QueryParsers.{query_at}
use Rattle.cypher_parse.specs.Texts.{lexemes}
use Rattle.cypher_parse.proofs.Depth.{one_tree}
use Rattle.cypher_parse.proofs.ExactQueries.{whole_shape, tied_query}
use Rattle.cypher_parse.proofs.whole.one_tree.Goals as goal

pub returns : goal.returns
returns c = λ m n text a b is is'. one_tree QueryAt query_at whole_shape tied_query m n (lexemes text) a b is is'
