use Rattle.std.proofs.Common.{◌≡◌, drop}
use Rattle.graph_reader.specs.Alive.{first_above}
use Rattle.expr_eval_tests.proofs.counting.CountingReader.above.Given as goal

abbrev pub invariant-loop-known : goal.invariant-loop-known
invariant-loop-known l = first_above l.after (drop l.known-index l.known-items) ≡ first_above l.after l.known-items
