-- the digits that were read stand for no less than the limit, and more digits never stand for less
use Rattle.std.proofs.Common.{◌≡◌, ◌≤◌, take, arith}
use Rattle.event_lines.specs.Words.{value_of}
use Rattle.event_lines.proofs.Numbers.{front_at_most}
use Rattle.event_lines.proofs.request.number.value_below.Goals as goal

pub returns-then-value-limit-clause-great : goal.returns-then-value-limit-clause-great
returns-then-value-limit-clause-great c = omega (arith, c.loop-digit.invariant, c.if-value-limit.true, front_at_most 0 c.loop-digit.digit-index c.args.digits.now)
