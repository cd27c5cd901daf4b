use Rattle.std.proofs.Common.{◌≡◌, ◌∷◌, drop, codes}
use Rattle.std.specs.List.{flat_map}
use Rattle.cypher_print.specs.Pieces.{written}
use Rattle.cypher_print.specs.QueryText.{sort_key}
use Rattle.cypher_print.proofs.query.sort_keys.Given as goal

abbrev pub invariant-loop-x : goal.invariant-loop-x
invariant-loop-x l = written l.out (flat_map (λ y. codes ", " ∷ sort_key y) (drop l.x-index l.rest)) ≡ written l.initial.out (flat_map (λ y. codes ", " ∷ sort_key y) l.rest)
