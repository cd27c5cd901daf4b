use Rattle.std.proofs.Common.{◌≡◌, [], ◌∷◌, length}
use Rattle.cypher_parse.specs.declared.kind.Kind.TheVariants as k
use Rattle.cypher_parse.specs.Parsers.{after, many}
use Rattle.cypher_parse.specs.ExpressionParsers.{name}
use Rattle.cypher_parse.proofs.Turns.{gathered}
use Rattle.cypher_parse.proofs.clauses.names_rest.Given as goal

abbrev pub invariant-loop-tokens : goal.invariant-loop-tokens
invariant-loop-tokens l = many (k.Comma ∷ []) (after (k.Comma ∷ []) name) l.fn.tokens ≡ gathered (k.Comma ∷ []) (after (k.Comma ∷ []) name) l.rest l.tokens

abbrev pub decreases-loop-tokens : goal.decreases-loop-tokens
decreases-loop-tokens l = length l.tokens
