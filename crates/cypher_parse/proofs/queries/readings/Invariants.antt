use Rattle.std.proofs.Common.{◌≡◌, length}
use Rattle.cypher_parse.specs.declared.kinds.TheConstants.{READINGS}
use Rattle.cypher_parse.specs.ClauseParsers.{reading}
use Rattle.cypher_parse.specs.ExpressionParsers.{expression}
use Rattle.cypher_parse.specs.QueryParsers.{readings}
use Rattle.cypher_parse.proofs.Turns.{gathered}
use Rattle.cypher_parse.proofs.queries.readings.Given as goal

abbrev pub invariant-loop-alloc : goal.invariant-loop-alloc
invariant-loop-alloc l = readings (expression 64) l.fn.tokens ≡ gathered READINGS (reading (expression 64)) l.clauses l.tokens

abbrev pub decreases-loop-alloc : goal.decreases-loop-alloc
decreases-loop-alloc l = length l.tokens
