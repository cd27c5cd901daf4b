use Rattle.std.proofs.Common.{None, Some, ◌++◌, ap, subst, ◌∙◌}
use Rattle.std.specs.Fmt.{decimal}
use Rattle.session_core.proofs.Telling.{retold}
use Rattle.session_core.proofs.Acting.{follows, one, other, says_so, sends}
use Rattle.session_core.specs.Answering.{HasBegun}
use Rattle.session_core.specs.Asking.{HasNotBegun}
use Rattle.session_core.specs.Replying.{IsPlain, Refuses, Wants}
use Rattle.session_core.specs.Says.{Acts, Or, Sent, Then}
use Rattle.session_core.specs.Texts.{begun_text, no_memory_text, not_begun_text}
use Rattle.session_core.proofs.transactions.begin_first.Goals as goal
use Rattle.world_model.specs.declared.event.Event.TheVariants as event
use Rattle.world_model.specs.Reply as reply

-- there was no room for the reply
pub returns-in_default-clause-says : goal.returns-in_default-clause-says
returns-in_default-clause-says g c =
    let S = g.S.GraphStore in
    let a = c.wanting.result in
    let old = c.args.store.now in
    let new = c.wanting.new.store in
    other S.stands S.caller S.alone (HasBegun a) (Or (HasNotBegun a) (Wants None a)) old new
    (other S.stands S.caller S.alone (HasNotBegun a) (Wants None a) old new (c.wanting.ensures.says no_memory_text))

pub returns-in-Ok-begin-clause-says : goal.returns-in-Ok-begin-clause-says
returns-in-Ok-begin-clause-says g c =
    let S = g.S.GraphStore in
    let a = c.plain.result in
    let start = c.in-Ok-begin.txn.start in
    let old = c.args.store.now in
    let new = c.begin.new.self in
    one S.stands S.caller S.alone (HasBegun a) (Or (HasNotBegun a) (Wants None a)) old new
    (says_so S.stands S.caller S.alone (Sent event.Begin (reply.Begun start)) (HasBegun a) old new
    (λ n s es later x. record {
      start = start;
      plain = subst (λ t. IsPlain a (begun_text start) (Some t)) c.end-start.ensures
          (retold a _ (begun_text start) _ (c.with_number.ensures ∙ ap (λ t. t ++ decimal c.end-start.result) c.in-Ok.ensures.text ∙ ap begun_text c.end-start.ensures) c.plain.ensures);
      sent = x;
    })
    (sends S.stands S.caller S.alone event.Begin (reply.Begun start) old new (λ es. tt) c.in-Ok-begin.ensures.sends))

pub returns-in-Err-clause-says : goal.returns-in-Err-clause-says
returns-in-Err-clause-says g c =
    let S = g.S.GraphStore in
    let a = c.refused.result in
    let why = c.in-Err.why in
    let old = c.args.store.now in
    let mid = c.begin.new.self in
    let new = c.refused.new.store in
    other S.stands S.caller S.alone (HasBegun a) (Or (HasNotBegun a) (Wants None a)) old new
    (one S.stands S.caller S.alone (HasNotBegun a) (Wants None a) old new
    (says_so S.stands S.caller S.alone (Then (Sent event.Begin (reply.Refused why)) (Refuses (not_begun_text why) None a)) (HasNotBegun a) old new
    (λ n s es later x. record { why = why; says = x })
    (follows S.stands S.caller S.alone (Sent event.Begin (reply.Refused why)) (Refuses (not_begun_text why) None a) old mid new
    (sends S.stands S.caller S.alone event.Begin (reply.Refused why) old mid (λ es. tt) c.in-Err.ensures.sends)
    (subst (λ t. Acts S.stands S.caller S.alone (Refuses t None a) mid new) c.not_begun_text.ensures c.refused.ensures.says))))
