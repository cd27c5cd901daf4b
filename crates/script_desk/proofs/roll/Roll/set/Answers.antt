use Rattle.std.proofs.Common.{sym}
use Rattle.script_desk.proofs.Lists.{set_by_place, set_past}
use Rattle.script_desk.proofs.roll.Roll.set.Goals as goal

pub returns-in-Some : goal.returns-in-Some
returns-in-Some c = set_by_place c.args.number c.args.running c.args.self.now.entries.entries

pub returns-in_default : goal.returns-in_default
returns-in_default c = sym (set_past c.args.number c.args.running c.args.self.now.entries.entries (sym c.in_default.ensures.value))
