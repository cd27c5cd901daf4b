use Rattle.std.proofs.Common.{refl}
use Rattle.world_model.specs.declared.event.Event.TheVariants as event
use Rattle.world_model.specs.Reply as reply
use Rattle.world_model.specs.Reply.{Reply, reply_of}
use Rattle.store_pass.proofs.Alone.{open_stays, sends}
use Rattle.store_pass.proofs.solo.SoloGraphStore.stats.Goals as goal

pub returns-clause-sends : goal.returns-clause-sends
returns-clause-sends c = sends c.args.self.now _ event.Stats (reply.Stats c.in-Stats.stats) refl c.in-Stats.ensures.some c.in-Stats.ensures.stands

pub returns-clause-stays : goal.returns-clause-stays
returns-clause-stays c =
    let some = c.in-Stats.ensures.some in
    open_stays some.start c.args.self.now.core c.step.new.self some.entries c.args.self.now.caller event.Stats (reply.Stats c.in-Stats.stats) some.stood (c.in-Stats.ensures.stands some.start some.entries some.stood tt) refl
