use Rattle.std.proofs.Common.{None, ap, ◌∙◌}
use Rattle.script_desk.proofs.Lists.{inserted, number_by_key, shown}
use Rattle.script_desk.proofs.roll.Roll.insert.Goals as goal

pub returns-clause-number : goal.returns-clause-number
returns-clause-number c = c.in_ok-number.ensures.index ∙ number_by_key _ c.args.self.now.entries.entries

pub returns-clause-ok : goal.returns-clause-ok
returns-clause-ok c = ap shown c.in_ok-number.ensures.entries ∙ inserted c.args.name None c.args.self.now.entries.entries
