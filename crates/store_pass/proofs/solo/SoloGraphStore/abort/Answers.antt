use Rattle.std.proofs.Common.{refl}
use Rattle.world_model.specs.declared.event.Event.TheVariants as event
use Rattle.world_model.specs.Reply as reply
use Rattle.world_model.specs.Reply.{reply_of}
use Rattle.store_pass.proofs.Alone.{open_aborted, sends}
use Rattle.store_pass.proofs.solo.SoloGraphStore.abort.Goals as goal

pub returns-clause-sends : goal.returns-clause-sends
returns-clause-sends c = sends c.args.self.now _ event.Abort reply.Aborted refl c.in-Aborted.ensures.some c.in-Aborted.ensures.stands

pub returns-clause-ended : goal.returns-clause-ended
returns-clause-ended c =
    let some = c.in-Aborted.ensures.some in
    open_aborted some.start c.args.self.now.core c.step.new.self some.entries c.args.self.now.caller some.stood (c.in-Aborted.ensures.stands some.start some.entries some.stood tt) (c.in-Aborted.ensures.answered some.start some.entries some.stood tt)
