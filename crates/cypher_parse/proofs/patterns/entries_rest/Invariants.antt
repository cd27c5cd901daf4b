use Rattle.std.proofs.Common.{◌≡◌, [], ◌∷◌, length}
use Rattle.cypher_parse.specs.declared.kind.Kind.TheVariants as k
use Rattle.cypher_parse.specs.Parsers.{after, many}
use Rattle.cypher_parse.specs.ExpressionParsers.{expression}
use Rattle.cypher_parse.specs.PatternParsers.{entry}
use Rattle.cypher_parse.proofs.Turns.{gathered}
use Rattle.cypher_parse.proofs.patterns.entries_rest.Given as goal

abbrev pub invariant-loop-alloc : goal.invariant-loop-alloc
invariant-loop-alloc l = many (k.Comma ∷ []) (after (k.Comma ∷ []) (entry (expression 64))) l.fn.tokens ≡ gathered (k.Comma ∷ []) (after (k.Comma ∷ []) (entry (expression 64))) l.rest l.tokens

abbrev pub decreases-loop-alloc : goal.decreases-loop-alloc
decreases-loop-alloc l = length l.tokens
