use Rattle.std.proofs.Common.{◌∙◌, sym, arith}
use Rattle.event_lines.proofs.Whites.{ends_last}
use Rattle.event_lines.proofs.request.values.ends_white.Goals as goal

pub returns-in-len1-up : goal.returns-in-len1-up
returns-in-len1-up c = c.is_white.ensures ∙ sym (ends_last c.args.text.now (omega (arith, c.in-len1-up.len_at_least)))
