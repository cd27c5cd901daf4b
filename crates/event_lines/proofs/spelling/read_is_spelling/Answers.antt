use Rattle.event_lines.proofs.Read.{read_is_spelling}
use Rattle.event_lines.proofs.spelling.read_is_spelling.Goals as goal

pub returns : goal.returns
returns c = read_is_spelling
