use Rattle.std.proofs.Common.{◌≡◌, map, drop}
use Rattle.cypher_parse.specs.Spelling.{spelled}
use Rattle.cypher_parse.proofs.spelling.looked_up.Given as goal

abbrev pub invariant-loop-spelling : goal.invariant-loop-spelling
invariant-loop-spelling l =
    spelled (map (λ s. (s.0.now, s.1)) l.table) l.word ≡ spelled (map (λ s. (s.0.now, s.1)) (drop l.spelling-index l.table)) l.word
