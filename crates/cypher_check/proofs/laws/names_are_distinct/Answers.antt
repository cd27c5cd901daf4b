use Rattle.cypher_check.proofs.Standings.{distinct_after}
use Rattle.cypher_check.proofs.laws.names_are_distinct.Goals as goal

pub returns : goal.returns
returns c = distinct_after
