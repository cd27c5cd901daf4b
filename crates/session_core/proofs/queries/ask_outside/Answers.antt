use Rattle.std.proofs.Common.{None, subst}
use Rattle.cypher_check.specs.Answer.{query_of}
use Rattle.session_core.proofs.Acting.{follows, one, other, says_so, sends}
use Rattle.session_core.specs.Asking.{AsksOutside, HasNotBegun, RunsOutside}
use Rattle.session_core.specs.Replying.{Refuses}
use Rattle.session_core.specs.Says.{Acts, Sent, Then}
use Rattle.session_core.specs.Texts.{not_begun_text}
use Rattle.session_core.proofs.queries.ask_outside.Goals as goal
use Rattle.world_model.specs.declared.event.Event.TheVariants as event
use Rattle.world_model.specs.Reply as reply

pub returns-in-Ok-clause-says : goal.returns-in-Ok-clause-says
returns-in-Ok-clause-says g c =
    let S = g.S.GraphStore in
    let q = query_of c.args.checked.now in
    let start = c.in-Ok.txn.start in
    let a = c.run_in_own.result in
    let old = c.args.store.now in
    let mid = c.begin.new.self in
    let new = c.run_in_own.new.store in
    let sent = Sent event.Begin (reply.Begun start) in
    other S.stands S.caller S.alone (HasNotBegun a) (AsksOutside q a) old new
    (says_so S.stands S.caller S.alone (Then sent (RunsOutside q a start)) (AsksOutside q a) old new
    (λ n s es later x. record { start = start; says = x })
    (follows S.stands S.caller S.alone sent (RunsOutside q a start) old mid new
    (sends S.stands S.caller S.alone event.Begin (reply.Begun start) old mid (λ es. tt) c.in-Ok.ensures.sends)
    c.run_in_own.ensures.says))

pub returns-in-Err-clause-says : goal.returns-in-Err-clause-says
returns-in-Err-clause-says g c =
    let S = g.S.GraphStore in
    let q = query_of c.args.checked.now in
    let why = c.in-Err.why in
    let a = c.refused.result in
    let old = c.args.store.now in
    let mid = c.begin.new.self in
    let new = c.refused.new.store in
    let sent = Sent event.Begin (reply.Refused why) in
    let refuses = Refuses (not_begun_text why) None a in
    one S.stands S.caller S.alone (HasNotBegun a) (AsksOutside q a) old new
    (says_so S.stands S.caller S.alone (Then sent refuses) (HasNotBegun a) old new
    (λ n s es later x. record { why = why; says = x })
    (follows S.stands S.caller S.alone sent refuses old mid new
    (sends S.stands S.caller S.alone event.Begin (reply.Refused why) old mid (λ es. tt) c.in-Err.ensures.sends)
    (subst (λ t. Acts S.stands S.caller S.alone (Refuses t None a) mid new) c.not_begun_text.ensures c.refused.ensures.says)))
