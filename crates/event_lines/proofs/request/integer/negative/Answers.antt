-- the digits are the text of the number, and the minus makes it the text of what is below zero
use Rattle.std.proofs.Common.{sym, arith}
use Rattle.event_lines.proofs.Integers.{minus_again}
use Rattle.event_lines.proofs.request.integer.negative.Goals as goal

pub returns-in_default : goal.returns-in_default
returns-in_default c = minus_again c.args.digits.now c.in_ok-n.n (λ zero. absurd (omega (arith, zero, c.in_default))) (sym c.in_ok-n.ensures.read)
