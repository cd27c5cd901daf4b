use Rattle.std.proofs.Common.{◌≤◌, List, ℕ, [], subst, sym, arith}
use Rattle.wire_line.specs.Intake.{Says, StillAhead}
use Rattle.wire_line.specs.declared.line.TheConstants.{INPUT_LIMIT}
use Rattle.wire_line.proofs.Told.{told_weaker, told_both}
use Rattle.wire_line.proofs.Turns.{says_later, line_within, last_within}
use Rattle.wire_line.proofs.lines.Lines.next.Goals as goal

pub returns-in-Ok-clause-says : goal.returns-in-Ok-clause-says
returns-in-Ok-clause-says g c =
    let within : c.give-in-Ok.new.self.taken ≤ INPUT_LIMIT = omega (arith, c.give-in-Ok.ensures.taken, c.in-Ok.ensures.found.within) in
    rw (← c.search.ensures.same)
    (told_weaker (g.I.Source.left c.args.input.now) (g.I.Source.left c.find.new.input) _ _ c.in-Ok.ensures.ahead
    (λ l m still. says_later c.give-in-Ok.result c.give-in-Ok.new.self m still
    (line_within c.give-in-Ok.result c.give-in-Ok.new.self.taken c.give-in-Ok.ensures.line within) within (c.give-in-Ok.ensures.says m)))

pub returns-in-Err-Ended-clause-says : goal.returns-in-Err-Ended-clause-says
returns-in-Err-Ended-clause-says g c =
    let stopped = rw c.in-Err-Ended.field-0-is at c.in-Err-Ended.ensures.stopped in
    let ended = rw c.in-Err-Ended.field-0-is at c.in-Err-Ended.ensures.told in
    let within : c.give_last.new.self.taken ≤ INPUT_LIMIT = omega (arith, c.give_last.ensures.taken, stopped.0) in
    rw (← c.search.ensures.same)
    (told_both (g.I.Source.left c.args.input.now) (g.I.Source.left c.find.new.input) _ _ _ c.in-Err-Ended.ensures.ahead ended
    (λ l m still empty. let P : List ℕ → Type 0 = λ m. StillAhead c.search.new.self c.find.new.self l m → Says c.give_last.result c.search.new.self c.give_last.new.self l m in
    subst P (sym empty)
    (λ still. says_later c.give_last.result c.give_last.new.self [] still
    (last_within c.give_last.result c.give_last.new.self.taken c.give_last.ensures.answer within) within c.give_last.ensures.says) still))
