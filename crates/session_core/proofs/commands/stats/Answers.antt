use Rattle.session_core.proofs.Acting.{follows, says_so, sends}
use Rattle.session_core.specs.Answering.{TellsStats}
use Rattle.session_core.specs.Replying.{Tells}
use Rattle.session_core.specs.Says.{Sent, Then}
use Rattle.session_core.specs.Texts.{stats_text}
use Rattle.session_core.proofs.commands.stats.Goals as goal
use Rattle.world_model.specs.declared.event.Event.TheVariants as event
use Rattle.world_model.specs.Reply as reply

pub returns-clause-says : goal.returns-clause-says
returns-clause-says g c =
    let S = g.S.GraphStore in
    let a = c.told.result in
    let stats = c.stats-stats.result in
    let running = c.args.running in
    let old = c.args.store.now in
    let mid = c.stats-stats.new.self in
    let new = c.told.new.store in
    let sent = Sent event.Stats (reply.Stats stats) in
    let tells = Tells (stats_text stats) running a in
    says_so S.stands S.caller S.alone (Then sent tells) (TellsStats running a) old new
    (λ n s es later x. record { stats = stats; says = x })
    (follows S.stands S.caller S.alone sent tells old mid new
    (sends S.stands S.caller S.alone event.Stats (reply.Stats stats) old mid (λ es. tt) c.stats-stats.ensures.sends)
    (c.told.ensures.says (stats_text stats) c.stats_text.ensures))
