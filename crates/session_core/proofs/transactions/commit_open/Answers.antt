use Rattle.std.proofs.Common.{Some, ◌++◌, ap, ◌∙◌}
use Rattle.std.specs.Fmt.{decimal}
use Rattle.session_core.proofs.Acting.{one, other, says_so, sends}
use Rattle.session_core.proofs.Telling.{recommitted}
use Rattle.session_core.specs.Answering.{HasCommitted}
use Rattle.session_core.specs.Replying.{Wants}
use Rattle.session_core.specs.Says.{Sent}
use Rattle.session_core.specs.Texts.{committed_text, no_memory_text}
use Rattle.session_core.proofs.transactions.commit_open.Goals as goal
use Rattle.world_model.specs.declared.event.Event.TheVariants as event
use Rattle.world_model.specs.Reply as reply

-- there was no room for the reply
pub returns-in_default-clause-says : goal.returns-in_default-clause-says
returns-in_default-clause-says g c =
    let S = g.S.GraphStore in
    let a = c.wanting.result in
    other S.stands S.caller S.alone (HasCommitted a) (Wants (Some c.args.start) a) c.args.store.now c.wanting.new.store (c.wanting.ensures.says no_memory_text)

pub returns-clause-says : goal.returns-clause-says
returns-clause-says g c =
    let S = g.S.GraphStore in
    let a = c.committed.result in
    let ts = c.commit-ts.result in
    let old = c.args.store.now in
    let new = c.commit-ts.new.self in
    one S.stands S.caller S.alone (HasCommitted a) (Wants (Some c.args.start) a) old new
    (says_so S.stands S.caller S.alone (Sent event.Commit (reply.Committed ts)) (HasCommitted a) old new
    (λ n s es later x. record { ts = ts; commit = recommitted a _ (committed_text ts) (c.with_number.ensures ∙ ap (λ t. t ++ decimal ts) c.in-Ok.ensures.text) c.committed.ensures; sent = x })
    (sends S.stands S.caller S.alone event.Commit (reply.Committed ts) old new (λ es. tt) c.commit-ts.ensures.sends))
