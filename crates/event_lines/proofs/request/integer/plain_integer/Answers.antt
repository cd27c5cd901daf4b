use Rattle.std.proofs.Common.{sym}
use Rattle.event_lines.proofs.Integers.{digits_again}
use Rattle.event_lines.proofs.request.integer.plain_integer.Goals as goal

pub returns-in_ok-number_below-in_default : goal.returns-in_ok-number_below-in_default
returns-in_ok-number_below-in_default c = digits_again c.args.text.now c.in_ok-number_below-in_default.field-0 (sym c.in_ok-number_below-in_default.ensures.read)
