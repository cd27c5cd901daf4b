use Rattle.std.proofs.Common.{refl}
use Rattle.world_model.specs.declared.event.Event.TheVariants as event
use Rattle.world_model.specs.Reply as reply
use Rattle.world_model.specs.Reply.{reply_of}
use Rattle.store_pass.proofs.Alone.{open_stays, retold, sends}
use Rattle.store_pass.proofs.Refusals.{wrote_or_refusal}
use Rattle.store_pass.proofs.solo.SoloGraphStore.write.Goals as goal

pub refusal-requires : goal.refusal-requires
refusal-requires c = wrote_or_refusal c.step.result c.in_default.not-Wrote c.step.ensures.fits.kind

pub returns-in-Wrote-clause-sends : goal.returns-in-Wrote-clause-sends
returns-in-Wrote-clause-sends c = sends c.args.self.now _ (event.Write c.args.ask) (reply.Wrote c.in-Wrote.wrote) refl c.in-Wrote.ensures.some c.in-Wrote.ensures.stands

pub returns-in-Wrote-clause-stays : goal.returns-in-Wrote-clause-stays
returns-in-Wrote-clause-stays c =
    let some = c.in-Wrote.ensures.some in
    open_stays some.start c.args.self.now.core c.step.new.self some.entries c.args.self.now.caller (event.Write c.args.ask) (reply.Wrote c.in-Wrote.wrote) some.stood (c.in-Wrote.ensures.stands some.start some.entries some.stood tt) refl

pub returns-in_default-clause-sends : goal.returns-in_default-clause-sends
returns-in_default-clause-sends c =
    sends c.args.self.now _ (event.Write c.args.ask) (reply.Refused c.refusal.result) refl c.step.ensures.some
    (retold c.args.self.now.core c.step.new.self c.args.self.now.caller (event.Write c.args.ask) (reply_of c.step.result) (reply.Refused c.refusal.result) c.refusal.ensures c.step.ensures.stands)

pub returns-in_default-clause-stays : goal.returns-in_default-clause-stays
returns-in_default-clause-stays c =
    let some = c.step.ensures.some in
    open_stays some.start c.args.self.now.core c.step.new.self some.entries c.args.self.now.caller (event.Write c.args.ask) (reply_of c.step.result) some.stood (c.step.ensures.stands some.start some.entries some.stood tt) refl
