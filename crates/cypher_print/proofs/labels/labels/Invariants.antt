use Rattle.std.proofs.Common.{◌≡◌, drop}
use Rattle.cypher_print.specs.Pieces.{written}
use Rattle.cypher_print.specs.Printed.{labels}
use Rattle.cypher_print.proofs.labels.labels.Given as goal

abbrev pub invariant-loop-name : goal.invariant-loop-name
invariant-loop-name l = written l.out (labels (drop l.name-index l.names)) ≡ written l.fn.out (labels l.names)
