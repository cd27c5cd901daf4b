use Rattle.std.proofs.Common.{sym, ◌∙◌}
use Rattle.std.proofs.lemmas.Result.{on_ok_weaker}
use Rattle.script_desk.proofs.Lists.{absent_enrolled, found_enrolled, found_number}
use Rattle.script_desk.proofs.roll.Roll.number.Goals as goal

pub returns-in-Some-clause-number : goal.returns-in-Some-clause-number
returns-in-Some-clause-number c = found_number c.args.name.now c.args.self.now.entries.entries c.in-Some.number c.in-Some.ensures.index

pub returns-in-Some-clause-ok : goal.returns-in-Some-clause-ok
returns-in-Some-clause-ok c = sym (found_enrolled c.args.name.now c.args.self.now.entries.entries c.in-Some.number c.in-Some.ensures.index)

pub returns-in-None-clause-ok : goal.returns-in-None-clause-ok
returns-in-None-clause-ok c =
    on_ok_weaker c.enroll.result
    (λ e. e ∙ sym (absent_enrolled c.args.name.now c.args.self.now.entries.entries c.in-None.ensures.index))
    c.enroll.ensures.ok
