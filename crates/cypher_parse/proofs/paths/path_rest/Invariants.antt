use Rattle.std.proofs.Common.{◌≡◌, length}
use Rattle.cypher_parse.specs.declared.kinds.TheConstants.{EDGE_SIGNS}
use Rattle.cypher_parse.specs.ExpressionParsers.{expression}
use Rattle.cypher_parse.specs.PatternParsers.{path_step, path_more}
use Rattle.cypher_parse.proofs.Turns.{gathered}
use Rattle.cypher_parse.proofs.paths.path_rest.Given as goal

abbrev pub invariant-loop-alloc : goal.invariant-loop-alloc
invariant-loop-alloc l = (path_more (expression 64)) l.fn.tokens ≡ gathered EDGE_SIGNS (path_step (expression 64)) l.rest l.tokens

abbrev pub decreases-loop-alloc : goal.decreases-loop-alloc
decreases-loop-alloc l = length l.tokens
