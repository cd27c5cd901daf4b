use Rattle.session_core.proofs.Acting.{follows, says_so, sends}
use Rattle.session_core.specs.Answering.{TellsMark}
use Rattle.session_core.specs.Replying.{Tells}
use Rattle.session_core.specs.Says.{Sent, Then}
use Rattle.session_core.specs.Texts.{marked_text}
use Rattle.session_core.proofs.commands.now.Goals as goal
use Rattle.world_model.specs.declared.event.Event.TheVariants as event
use Rattle.world_model.specs.Reply as reply

pub returns-clause-says : goal.returns-clause-says
returns-clause-says g c =
    let S = g.S.GraphStore in
    let a = c.told.result in
    let m = c.mark-marked.result in
    let running = c.args.running in
    let old = c.args.store.now in
    let mid = c.mark-marked.new.self in
    let new = c.told.new.store in
    let sent = Sent event.Mark (reply.Marked m) in
    let tells = Tells (marked_text m) running a in
    says_so S.stands S.caller S.alone (Then sent tells) (TellsMark running a) old new
    (λ n s es later x. record { marked = m; says = x })
    (follows S.stands S.caller S.alone sent tells old mid new
    (sends S.stands S.caller S.alone event.Mark (reply.Marked m) old mid (λ es. tt) c.mark-marked.ensures.sends)
    (c.told.ensures.says (marked_text m) c.marked_text.ensures))
