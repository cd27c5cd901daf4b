use Rattle.std.proofs.Common.{ap, ◌∙◌}
use Rattle.front_core.specs.Outlines.{outline_of}
use Rattle.front_core.specs.Rows.{seen}
use Rattle.front_core.proofs.Stepping.{nothing_seen, row_seen}
use Rattle.front_core.proofs.state.State.outline_seen.Goals as goal

pub returns-in-Some : goal.returns-in-Some
returns-in-Some c = λ w p o.
    c.outline_seen.ensures ∙ ap outline_of (ap (seen c.args.caller c.args.start) c.in-Some.ensures ∙ row_seen c.args.self.now w c.args.caller c.args.start p o c.args.x)

pub returns-in-None : goal.returns-in-None
returns-in-None c = λ w p o. ap outline_of (nothing_seen c.args.self.now w c.args.caller c.args.start p o c.args.x c.in-None.ensures)
