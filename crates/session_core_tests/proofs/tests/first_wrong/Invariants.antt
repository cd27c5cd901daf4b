use Rattle.std.proofs.Common.{◌≡◌}
use Rattle.session_core.specs.Answering.{running_of}
use Rattle.session_core_tests.proofs.tests.first_wrong.Given as goal

abbrev pub invariant-loop-line : goal.invariant-loop-line
invariant-loop-line g l = g.S.GraphStore.running l.store ≡ running_of l.session
