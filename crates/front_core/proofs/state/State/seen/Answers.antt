use Rattle.std.proofs.Common.{sym, ap, ◌∙◌}
use Rattle.std.proofs.lemmas.Result.{IfOk-weaker}
use Rattle.front_core.specs.Rows.{seen}
use Rattle.front_core.proofs.Stepping.{nothing_seen, row_seen}
use Rattle.front_core.proofs.state.State.seen.Goals as goal

pub returns-in-Some : goal.returns-in-Some
returns-in-Some c = IfOk-weaker c.seen.result _ _ (λ object is w p o.
    is ∙ ap (seen c.args.caller c.args.start) c.in-Some.ensures ∙ row_seen c.args.self.now w c.args.caller c.args.start p o c.args.x) c.seen.ensures

pub returns-in-None : goal.returns-in-None
returns-in-None c = λ w p o. nothing_seen c.args.self.now w c.args.caller c.args.start p o c.args.x c.in-None.ensures
