use Rattle.std.proofs.Common.{◌≡◌, ◌∷◌, ◌++◌, drop, codes, []}
use Rattle.std.specs.List.{flat_map}
use Rattle.cypher_syntax.specs.declared.tree.clause.Clause.{Clause}
use Rattle.cypher_print.specs.Pieces.{written}
use Rattle.cypher_print.specs.QueryText.{clause_text}
use Rattle.cypher_print.proofs.clauses.clauses.Given as goal

abbrev pub invariant-loop-c : goal.invariant-loop-c
invariant-loop-c l = written l.out (flat_map (λ (c : Clause). clause_text c ++ codes " " ∷ []) (drop l.c-index l.cs)) ≡ written l.fn.out (flat_map (λ (c : Clause). clause_text c ++ codes " " ∷ []) l.cs)
