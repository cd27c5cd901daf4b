use Rattle.event_lines.proofs.Spelled.{spelling_is_read}
use Rattle.event_lines.proofs.spelling.spelling_is_read.Goals as goal

pub returns : goal.returns
returns c = spelling_is_read
