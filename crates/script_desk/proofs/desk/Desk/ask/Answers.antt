use Rattle.std.proofs.Common.{ap, subst, sym, ◌∙◌}
use Rattle.session_core.specs.Answering.{running_of}
use Rattle.store_pass.specs.Solo.{core_of}
use Rattle.script_desk.specs.Roll.{running_at, with_running_at}
use Rattle.script_desk.specs.Stands.{DeskParts, Stands, roll_of}
use Rattle.script_desk.proofs.Turning.{asked, may_ask}
use Rattle.script_desk.proofs.desk.Desk.ask.Goals as goal

pub answer-reply-requires : goal.answer-reply-requires
answer-reply-requires c =
    let name = c.args.name.now in
    let n = c.in_ok-number.number in
    let old : DeskParts = record { core = core_of c.self.inside.store; sessions = roll_of c.self.inside.roll } in
    let was = c.resumed-session.ensures ∙ c.running.ensures ∙ ap (running_at n) c.in_ok-number.ensures.ok in
    may_ask c.self.invariant.0 old name n c.turn_to.new.self.core c.turn_to.new.self.caller c.self.invariant.1
    c.in_ok-number.ensures.number c.turn_to.ensures.core c.turn_to.ensures.caller
    ∙ sym was

pub returns : goal.returns
returns c past st =
    let name = c.args.name.now in
    let n = c.in_ok-number.number in
    let old : DeskParts = record { core = core_of c.self.inside.store; sessions = roll_of c.self.inside.roll } in
    let new : DeskParts = record { core = core_of c.answer-reply.new.store; sessions = roll_of c.set.new.self } in
    let was = c.resumed-session.ensures ∙ c.running.ensures ∙ ap (running_at n) c.in_ok-number.ensures.ok in
    let now = running_of c.answer-reply.new.self in
    let kept = c.set.ensures ∙ ap (λ v. with_running_at n v (roll_of c.number.new.self)) c.paused.ensures ∙ ap (with_running_at n now) c.in_ok-number.ensures.ok in
    asked past old name n c.turn_to.new.self.core c.turn_to.new.self.caller (subst (λ d. Stands d past) (sym c.self.view_is) st)
    c.in_ok-number.ensures.number c.turn_to.ensures.core c.turn_to.ensures.caller
    new c.args.statement.now c.as_bytes.result.now c.answer-reply.result (running_of c.resumed-session.result) now c.answer-reply.new.store.caller
    c.as_bytes.ensures.value was c.answer-reply.ensures.says.adds c.answer-reply.ensures.says.same_caller c.answer-reply.ensures.open kept

pub invariant_of-self-2 : goal.invariant_of-self-2
invariant_of-self-2 c =
    let name = c.args.name.now in
    let n = c.in_ok-number.number in
    let old : DeskParts = record { core = core_of c.self.inside.store; sessions = roll_of c.self.inside.roll } in
    let new : DeskParts = record { core = core_of c.answer-reply.new.store; sessions = roll_of c.set.new.self } in
    let was = c.resumed-session.ensures ∙ c.running.ensures ∙ ap (running_at n) c.in_ok-number.ensures.ok in
    let now = running_of c.answer-reply.new.self in
    let kept = c.set.ensures ∙ ap (λ v. with_running_at n v (roll_of c.number.new.self)) c.paused.ensures ∙ ap (with_running_at n now) c.in_ok-number.ensures.ok in
    let done = asked c.self.invariant.0 old name n c.turn_to.new.self.core c.turn_to.new.self.caller c.self.invariant.1
    c.in_ok-number.ensures.number c.turn_to.ensures.core c.turn_to.ensures.caller
    new c.args.statement.now c.as_bytes.result.now c.answer-reply.result (running_of c.resumed-session.result) now c.answer-reply.new.store.caller
    c.as_bytes.ensures.value was c.answer-reply.ensures.says.adds c.answer-reply.ensures.says.same_caller c.answer-reply.ensures.open kept in
    (_, done.stood)
