use Rattle.std.proofs.Common.{refl}
use Rattle.world_model.specs.declared.event.Event.TheVariants as event
use Rattle.world_model.specs.Reply as reply
use Rattle.world_model.specs.Reply.{reply_of}
use Rattle.store_pass.proofs.Alone.{open_committed, sends}
use Rattle.store_pass.proofs.solo.SoloGraphStore.commit.Goals as goal

pub returns-clause-sends : goal.returns-clause-sends
returns-clause-sends c = sends c.args.self.now _ event.Commit (reply.Committed c.in-Committed.ts) refl c.in-Committed.ensures.some c.in-Committed.ensures.stands

pub returns-clause-ended : goal.returns-clause-ended
returns-clause-ended c =
    let some = c.in-Committed.ensures.some in
    open_committed some.start c.args.self.now.core c.step.new.self some.entries c.args.self.now.caller c.in-Committed.ts some.stood (c.in-Committed.ensures.stands some.start some.entries some.stood tt) (c.in-Committed.ensures.answered some.start some.entries some.stood tt)
