use Rattle.script_desk.specs.Stands.{Stands}
use Rattle.script_desk.specs.Script.{Past}
use Rattle.store_pass.specs.Solo.{core_of}
use Rattle.script_desk.proofs.Closing.{IsClosing}
use Rattle.script_desk.proofs.desk.Desk.end.Given as goal

abbrev pub invariant-loop-number : goal.invariant-loop-number
invariant-loop-number l = (past : Past) → Stands l.fn.self past → IsClosing l.number past (core_of l.store)
