use Rattle.std.proofs.Common.{◌≡◌, [], drop}
use Rattle.row_ops.specs.Grouping.{results_on, through}
use Rattle.row_ops.proofs.grouping.results.Given as goal

abbrev pub invariant-loop-place : goal.invariant-loop-place
invariant-loop-place l = results_on (through [] l.item l.group) l.place l.row (drop l.place l.aggregates) ≡ results_on (through [] l.item l.group) 0 [] l.aggregates
