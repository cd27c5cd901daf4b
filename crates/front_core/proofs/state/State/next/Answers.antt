use Rattle.std.proofs.Common.{◌≡◌, Some, None, sym, ap, ◌∙◌, refl}
use Rattle.world_model.specs.Reply as answer
use Rattle.world_model.specs.declared.answer.Refused.TheVariants.{NoTxn}
use Rattle.world_model.specs.declared.event.Event.TheVariants.{Next}
use Rattle.world_model.specs.Step.{next_step, seen_step}
use Rattle.world_model.specs.Views.{graph_of, next_id}
use Rattle.front_core.proofs.Stepping.{closed, obeys_refusal, obeys_step, open_at}
use Rattle.front_core.proofs.state.State.next.Goals as goal

pub returns-in_default : goal.returns-in_default
returns-in_default c = λ w keeps.
    obeys_refusal c.args.self.now w c.args.caller (Next c.args.kind c.args.after c.args.when) NoTxn keeps
    (ap (next_step w c.args.kind c.args.after c.args.when) (closed c.args.self.now w c.args.caller keeps (sym c.in_default.ensures)))

pub returns-in-Some-time_ahead : goal.returns-in-Some-time_ahead
returns-in-Some-time_ahead c = λ w keeps.
    let o = open_at c.args.self.now w c.args.caller c.in-Some.place c.at.result.now keeps (sym c.in-Some.ensures) c.at.ensures in
    obeys_refusal c.args.self.now w c.args.caller (Next c.args.kind c.args.after c.args.when) c.in-Some-time_ahead.why keeps
    (ap (next_step w c.args.kind c.args.after c.args.when) o.1.found
    ∙ ap (λ why. seen_step w why (answer.Id (next_id c.args.kind c.args.after (graph_of w o.0 c.args.when)))) (sym (c.in-Some-time_ahead.ensures o.0 o.1.began)))

pub returns : goal.returns
returns c = λ w keeps.
    let o = open_at c.args.self.now w c.args.caller c.in-Some.place c.at.result.now keeps (sym c.in-Some.ensures) c.at.ensures in
    obeys_step c.args.self.now w w c.args.caller (Next c.args.kind c.args.after c.args.when) (answer.Id c.next_alive.result)
    (ap (next_step w c.args.kind c.args.after c.args.when) o.1.found
    ∙ ap (λ why. seen_step w why (answer.Id (next_id c.args.kind c.args.after (graph_of w o.0 c.args.when)))) (sym (c.in_default-time_ahead.ensures o.0 o.1.began))
    ∙ ap (λ id. record { reply = answer.Id id; world = w }) (sym (c.next_alive.ensures w o.0 o.1)))
    refl keeps
