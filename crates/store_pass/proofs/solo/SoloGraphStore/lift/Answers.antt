use Rattle.std.proofs.Common.{refl}
use Rattle.world_model.specs.declared.event.Event.TheVariants as event
use Rattle.world_model.specs.Reply as reply
use Rattle.world_model.specs.Reply.{reply_of}
use Rattle.store_pass.proofs.Alone.{open_stays, retold, sends}
use Rattle.store_pass.proofs.Refusals.{lifted_or_refusal}
use Rattle.store_pass.proofs.solo.SoloGraphStore.lift.Goals as goal

pub refusal-requires : goal.refusal-requires
refusal-requires c = lifted_or_refusal c.step.result c.in_default.not-Lifted c.step.ensures.fits.kind

pub returns-in-Lifted-clause-sends : goal.returns-in-Lifted-clause-sends
returns-in-Lifted-clause-sends c = sends c.args.self.now _ (event.Lift c.args.x) (reply.Lifted c.in-Lifted.lifted) refl c.in-Lifted.ensures.some c.in-Lifted.ensures.stands

pub returns-in-Lifted-clause-stays : goal.returns-in-Lifted-clause-stays
returns-in-Lifted-clause-stays c =
    let some = c.in-Lifted.ensures.some in
    open_stays some.start c.args.self.now.core c.step.new.self some.entries c.args.self.now.caller (event.Lift c.args.x) (reply.Lifted c.in-Lifted.lifted) some.stood (c.in-Lifted.ensures.stands some.start some.entries some.stood tt) refl

pub returns-in_default-clause-sends : goal.returns-in_default-clause-sends
returns-in_default-clause-sends c =
    sends c.args.self.now _ (event.Lift c.args.x) (reply.Refused c.refusal.result) refl c.step.ensures.some
    (retold c.args.self.now.core c.step.new.self c.args.self.now.caller (event.Lift c.args.x) (reply_of c.step.result) (reply.Refused c.refusal.result) c.refusal.ensures c.step.ensures.stands)

pub returns-in_default-clause-stays : goal.returns-in_default-clause-stays
returns-in_default-clause-stays c =
    let some = c.step.ensures.some in
    open_stays some.start c.args.self.now.core c.step.new.self some.entries c.args.self.now.caller (event.Lift c.args.x) (reply_of c.step.result) some.stood (c.step.ensures.stands some.start some.entries some.stood tt) refl
