use Rattle.std.proofs.Common.{◌≡◌, [], ◌∷◌, length}
use Rattle.cypher_parse.specs.declared.kind.Kind.TheVariants as k
use Rattle.cypher_parse.specs.PatternParsers.{another_kind, kinds_more}
use Rattle.cypher_parse.proofs.Turns.{gathered}
use Rattle.cypher_parse.proofs.patterns.kinds_rest.Given as goal

abbrev pub invariant-loop-rest : goal.invariant-loop-rest
invariant-loop-rest l = kinds_more l.fn.tokens ≡ gathered (k.Bar ∷ []) another_kind l.rest l.tokens

abbrev pub decreases-loop-rest : goal.decreases-loop-rest
decreases-loop-rest l = length l.tokens
