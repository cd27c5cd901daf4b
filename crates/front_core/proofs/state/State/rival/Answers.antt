use Rattle.std.proofs.Common.{ap, ◌∙◌}
use Rattle.front_core.specs.Rows.{row_rival}
use Rattle.front_core.proofs.Stepping.{rival_told}
use Rattle.front_core.proofs.state.State.rival.Goals as goal

pub returns-in-Some : goal.returns-in-Some
returns-in-Some c = λ w p o. c.rival.ensures ∙ ap (row_rival c.args.caller c.args.start) c.in-Some.ensures ∙ rival_told c.args.self.now w c.args.caller c.args.start p o c.args.x

pub returns-in-None : goal.returns-in-None
returns-in-None c = λ w p o. ap (row_rival c.args.caller c.args.start) c.in-None.ensures ∙ rival_told c.args.self.now w c.args.caller c.args.start p o c.args.x
