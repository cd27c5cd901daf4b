use Rattle.std.proofs.Common.{◌≡◌}
use Rattle.query_run_tests.proofs.tests.first_wrong.Given as goal

abbrev pub invariant-loop-statement : goal.invariant-loop-statement
invariant-loop-statement g l = g.S.GraphStore.running l.store ≡ g.S.GraphStore.running l.fn.store
