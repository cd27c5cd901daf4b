use Rattle.std.proofs.Common.{◌≡◌, drop}
use Rattle.std.specs.List.{flat_map}
use Rattle.cypher_print.specs.Pieces.{written}
use Rattle.cypher_print.specs.QueryText.{stage_text}
use Rattle.cypher_print.proofs.query.stages.Given as goal

abbrev pub invariant-loop-s : goal.invariant-loop-s
invariant-loop-s l = written l.out (flat_map stage_text (drop l.s-index l.ss)) ≡ written l.fn.out (flat_map stage_text l.ss)
