use Rattle.std.proofs.Common.{◌≡◌, take}
use Rattle.event_lines.specs.Words.{value_of}
use Rattle.event_lines.proofs.request.number.value_below.Given as goal

abbrev pub invariant-loop-digit : goal.invariant-loop-digit
invariant-loop-digit l = l.value ≡ value_of (take l.digit-index l.digits)
