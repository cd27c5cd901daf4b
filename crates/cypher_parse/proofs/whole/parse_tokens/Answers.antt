use Rattle.std.proofs.Common.{sym, ◌∙◌}
use Rattle.std.proofs.lemmas.Bool.{false≢true}
use Rattle.cypher_parse.specs.Queries.{QueryAt}
use Rattle.cypher_parse.specs.QueryParsers.{query_at}
use Rattle.cypher_parse.proofs.Depth.{answers_tree, answers_more, answers_refused}
use Rattle.cypher_parse.proofs.ExactQueries.{whole_shape, tied_query}
use Rattle.cypher_parse.proofs.whole.parse_tokens.Goals as goal

pub returns-then-is_empty : goal.returns-then-is_empty
returns-then-is_empty c =
    answers_tree QueryAt query_at whole_shape tied_query c.args.end c.args.tokens c.in-Ok.tree c.query-found.new.tokens c.in-Ok.ensures (c.is_empty.ensures.0 c.if-is_empty.true)

pub returns-in-Ok : goal.returns-in-Ok
returns-in-Ok c =
    answers_more QueryAt query_at whole_shape tied_query c.args.end c.args.tokens c.in-Ok.tree c.query-found.new.tokens c.place-place.result c.in-Ok.ensures (λ e. false≢true (sym c.if-is_empty.false ∙ c.is_empty.ensures.1 e)) c.place-place.ensures

pub returns : goal.returns
returns c =
    answers_refused QueryAt query_at whole_shape tied_query c.args.end c.args.tokens c.in-Err.stop c.query-found.new.tokens c.place-place.result c.refusal.result c.in-Err.ensures c.place-place.ensures c.refusal.ensures
