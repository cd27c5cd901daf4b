use Rattle.std.proofs.Common.{None, Some, codes}
use Rattle.session_core.proofs.Acting.{one, other, says_so}
use Rattle.session_core.proofs.Telling.{aborts, retold}
use Rattle.session_core.specs.Answering.{HasRolledBack}
use Rattle.session_core.specs.Replying.{Wants}
use Rattle.session_core.specs.Says.{Sent}
use Rattle.session_core.specs.Texts.{no_memory_text}
use Rattle.session_core.proofs.transactions.roll_back_open.Goals as goal
use Rattle.world_model.specs.declared.event.Event.TheVariants as event
use Rattle.world_model.specs.Reply as reply

-- there was no memory for the reply
pub returns-in_default-clause-says : goal.returns-in_default-clause-says
returns-in_default-clause-says g c =
    let S = g.S.GraphStore in
    let a = c.wanting.result in
    other S.stands S.caller S.alone (HasRolledBack a) (Wants (Some c.args.start) a) c.args.store.now c.wanting.new.store (c.wanting.ensures.says no_memory_text)

pub returns-clause-says : goal.returns-clause-says
returns-clause-says g c =
    let S = g.S.GraphStore in
    let a = c.plain.result in
    let old = c.args.store.now in
    let new = c.abort.new.self in
    one S.stands S.caller S.alone (HasRolledBack a) (Wants (Some c.args.start) a) old new
    (says_so S.stands S.caller S.alone (Sent event.Abort reply.Aborted) (HasRolledBack a) old new
    (λ n s es later x. record { plain = retold a _ (codes "OK rollback") None c.in-Ok.ensures c.plain.ensures; sent = x })
    (aborts S.stands S.caller S.alone old new c.abort.ensures.sends))
