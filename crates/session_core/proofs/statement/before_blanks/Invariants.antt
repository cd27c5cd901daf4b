use Rattle.std.proofs.Common.{◌≡◌, length}
use Rattle.session_core.specs.Statement.{before_blanks}
use Rattle.session_core.proofs.statement.before_blanks.Given as goal

abbrev pub invariant-loop-rest : goal.invariant-loop-rest
invariant-loop-rest l = before_blanks l.rest ≡ before_blanks l.bytes

abbrev pub decreases-loop-rest : goal.decreases-loop-rest
decreases-loop-rest l = length l.rest
