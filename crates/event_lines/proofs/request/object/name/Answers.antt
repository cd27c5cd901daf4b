-- A name is ASCII, so it is a text.
use Rattle.std.proofs.Common.{◌≡◌, true, arith}
use Rattle.event_lines.specs.Words.{is_name}
use Rattle.event_lines.proofs.Names.{name_utf8}
use Rattle.event_lines.proofs.request.object.name.Goals as goal

pub returns-in-Err : goal.returns-in-Err
returns-in-Err c =
    let yes : is_name c.args.word.now ≡ true = grind arith in
    absurd (c.in-Err.ensures.cases.0 (name_utf8 _ yes))
