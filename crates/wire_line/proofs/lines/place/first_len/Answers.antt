use Rattle.std.proofs.Common.{◌∙◌, sym}
use Rattle.wire_line.proofs.FirstLine.{place_some, place_none}
use Rattle.wire_line.proofs.lines.place.first_len.Goals as goal

pub returns-in-Some : goal.returns-in-Some
returns-in-Some c = place_some c.args.bytes.now c.in-Some.at (sym c.end_place.ensures ∙ c.in-Some.is)

pub returns-in-None : goal.returns-in-None
returns-in-None c = place_none c.args.bytes.now (sym c.end_place.ensures ∙ c.in-None.is)
