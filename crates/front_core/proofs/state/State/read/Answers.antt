use Rattle.std.proofs.Common.{◌≡◌, Some, None, sym, ap, not, ◌∙◌, refl}
use Rattle.graph_record.specs.Graph.{object_at}
use Rattle.world_model.specs.Reply as answer
use Rattle.world_model.specs.declared.answer.Refused.TheVariants.{NoTxn}
use Rattle.world_model.specs.declared.event.Event.TheVariants.{Read}
use Rattle.world_model.specs.History.{is_refused}
use Rattle.world_model.specs.Step.{read_step, seen_step}
use Rattle.world_model.specs.Views.{graph_of}
use Rattle.front_core.proofs.Stepping.{closed, obeys_no_memory, obeys_refusal, obeys_step, open_at}
use Rattle.front_core.proofs.state.State.read.Goals as goal

pub returns-in_default : goal.returns-in_default
returns-in_default c = λ w keeps.
    obeys_refusal c.args.self.now w c.args.caller (Read c.args.x c.args.when) NoTxn keeps
    (ap (read_step w c.args.x c.args.when) (closed c.args.self.now w c.args.caller keeps (sym c.in_default.ensures)))

pub returns-in-Some-time_ahead : goal.returns-in-Some-time_ahead
returns-in-Some-time_ahead c = λ w keeps.
    let o = open_at c.args.self.now w c.args.caller c.in-Some.place c.at.result.now keeps (sym c.in-Some.ensures) c.at.ensures in
    obeys_refusal c.args.self.now w c.args.caller (Read c.args.x c.args.when) c.in-Some-time_ahead.why keeps
    (ap (read_step w c.args.x c.args.when) o.1.found
    ∙ ap (λ why. seen_step w why (answer.Version (object_at (graph_of w o.0 c.args.when) c.args.x))) (sym (c.in-Some-time_ahead.ensures o.0 o.1.began)))

pub returns-in-Ok : goal.returns-in-Ok
returns-in-Ok c = λ w keeps.
    let o = open_at c.args.self.now w c.args.caller c.in-Some.place c.at.result.now keeps (sym c.in-Some.ensures) c.at.ensures in
    obeys_step c.args.self.now w w c.args.caller (Read c.args.x c.args.when) (answer.Version c.in-Ok.object)
    (ap (read_step w c.args.x c.args.when) o.1.found
    ∙ ap (λ why. seen_step w why (answer.Version (object_at (graph_of w o.0 c.args.when) c.args.x))) (sym (c.in_default-time_ahead.ensures o.0 o.1.began))
    ∙ ap (λ object. record { reply = answer.Version object; world = w }) (sym (c.in-Ok.ensures w o.0 o.1)))
    refl keeps

pub returns-in-Err : goal.returns-in-Err
returns-in-Err c = λ w keeps.
    let o = open_at c.args.self.now w c.args.caller c.in-Some.place c.at.result.now keeps (sym c.in-Some.ensures) c.at.ensures in
    obeys_no_memory c.args.self.now w c.args.caller (Read c.args.x c.args.when) keeps
    (ap (λ outcome. not (is_refused outcome.reply)) (ap (read_step w c.args.x c.args.when) o.1.found
    ∙ ap (λ why. seen_step w why (answer.Version (object_at (graph_of w o.0 c.args.when) c.args.x))) (sym (c.in_default-time_ahead.ensures o.0 o.1.began))))
