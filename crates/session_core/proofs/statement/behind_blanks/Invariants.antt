use Rattle.std.proofs.Common.{◌≡◌, length}
use Rattle.session_core.specs.Statement.{behind_blanks}
use Rattle.session_core.proofs.statement.behind_blanks.Given as goal

abbrev pub invariant-loop-rest : goal.invariant-loop-rest
invariant-loop-rest l = behind_blanks l.rest ≡ behind_blanks l.bytes

abbrev pub decreases-loop-rest : goal.decreases-loop-rest
decreases-loop-rest l = length l.rest
