use Rattle.std.proofs.Common.{◌≡◌, ◌∷◌, drop, codes}
use Rattle.std.specs.List.{flat_map}
use Rattle.cypher_print.specs.Pieces.{written}
use Rattle.cypher_print.specs.QueryText.{remove_item}
use Rattle.cypher_print.proofs.clauses.remove_items.Given as goal

abbrev pub invariant-loop-x : goal.invariant-loop-x
invariant-loop-x l = written l.out (flat_map (λ y. codes ", " ∷ remove_item y) (drop l.x-index l.rest)) ≡ written l.initial.out (flat_map (λ y. codes ", " ∷ remove_item y) l.rest)
