use Rattle.std.proofs.Common.{◌≡◌, ◌∷◌, drop, codes}
use Rattle.std.specs.List.{flat_map}
use Rattle.cypher_print.specs.Pieces.{written, schema}
use Rattle.cypher_print.proofs.patterns.alternatives.Given as goal

abbrev pub invariant-loop-x : goal.invariant-loop-x
invariant-loop-x l = written l.out (flat_map (λ y. codes "|" ∷ schema y) (drop l.x-index l.rest)) ≡ written l.initial.out (flat_map (λ y. codes "|" ∷ schema y) l.rest)
