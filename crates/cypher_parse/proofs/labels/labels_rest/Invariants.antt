use Rattle.std.proofs.Common.{◌≡◌, [], ◌∷◌, length}
use Rattle.cypher_parse.specs.declared.kind.Kind.TheVariants as k
use Rattle.cypher_parse.specs.Parsers.{after}
use Rattle.cypher_parse.specs.ExpressionParsers.{schema, labels_more}
use Rattle.cypher_parse.proofs.Turns.{gathered}
use Rattle.cypher_parse.proofs.labels.labels_rest.Given as goal

abbrev pub invariant-loop-rest : goal.invariant-loop-rest
invariant-loop-rest l =
    labels_more l.fn.tokens ≡ gathered (k.Colon ∷ []) (after (k.Colon ∷ []) schema) l.rest l.tokens

abbrev pub decreases-loop-rest : goal.decreases-loop-rest
decreases-loop-rest l = length l.tokens
