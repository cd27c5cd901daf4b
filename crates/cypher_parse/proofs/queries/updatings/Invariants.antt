use Rattle.std.proofs.Common.{◌≡◌, length}
use Rattle.cypher_parse.specs.declared.kinds.TheConstants.{UPDATES}
use Rattle.cypher_parse.specs.ClauseParsers.{updating}
use Rattle.cypher_parse.specs.ExpressionParsers.{expression}
use Rattle.cypher_parse.specs.QueryParsers.{updatings}
use Rattle.cypher_parse.proofs.Turns.{gathered}
use Rattle.cypher_parse.proofs.queries.updatings.Given as goal

abbrev pub invariant-loop-alloc : goal.invariant-loop-alloc
invariant-loop-alloc l = updatings (expression 64) l.fn.tokens ≡ gathered UPDATES (updating (expression 64)) l.clauses l.tokens

abbrev pub decreases-loop-alloc : goal.decreases-loop-alloc
decreases-loop-alloc l = length l.tokens
