use Rattle.std.proofs.Common.{sym, ap, ◌∙◌}
use Rattle.script_desk.proofs.Lists.{running_by_place, second}
use Rattle.script_desk.proofs.roll.Roll.running.Goals as goal

pub returns-in-Some : goal.returns-in-Some
returns-in-Some c = sym (running_by_place c.args.number c.args.self.now.entries.entries ∙ sym (ap second c.in-Some.ensures.entry))

pub returns-in-None : goal.returns-in-None
returns-in-None c = sym (running_by_place c.args.number c.args.self.now.entries.entries ∙ sym (ap second c.in-None.ensures.entry))
