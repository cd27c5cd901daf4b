use Rattle.std.proofs.Common.{refl, ap}
use Rattle.world_model.specs.declared.event.Event.TheVariants as event
use Rattle.world_model.specs.Reply as reply
use Rattle.world_model.specs.Reply.{reply_of}
use Rattle.world_model.specs.declared.answer.Refused.TheVariants.{NoMemory, Stale}
use Rattle.store_pass.proofs.Alone.{open_stays, retold, sends}
use Rattle.store_pass.proofs.solo.SoloGraphStore.install.Goals as goal

pub returns-in-Installed-clause-sends : goal.returns-in-Installed-clause-sends
returns-in-Installed-clause-sends c = sends c.args.self.now _ (event.Install c.args.piece) reply.Installed refl c.in-Installed.ensures.some c.in-Installed.ensures.stands

pub returns-in-Installed-clause-stays : goal.returns-in-Installed-clause-stays
returns-in-Installed-clause-stays c =
    open_stays c.requires.start c.args.self.now.core c.step.new.self c.requires.entries c.args.self.now.caller (event.Install c.args.piece) reply.Installed c.requires.stood (c.in-Installed.ensures.stands c.requires.start c.requires.entries c.requires.stood c.requires.of) refl

pub returns-in-NotInstalled-clause-sends : goal.returns-in-NotInstalled-clause-sends
returns-in-NotInstalled-clause-sends c = sends c.args.self.now _ (event.Install c.args.piece) (reply.Refused NoMemory) refl c.in-NotInstalled.ensures.some c.in-NotInstalled.ensures.stands

pub returns-in-NotInstalled-clause-stays : goal.returns-in-NotInstalled-clause-stays
returns-in-NotInstalled-clause-stays c =
    open_stays c.requires.start c.args.self.now.core c.step.new.self c.requires.entries c.args.self.now.caller (event.Install c.args.piece) (reply.Refused NoMemory) c.requires.stood (c.in-NotInstalled.ensures.stands c.requires.start c.requires.entries c.requires.stood c.requires.of) refl

pub returns-in-Refused-Stale-clause-sends : goal.returns-in-Refused-Stale-clause-sends
returns-in-Refused-Stale-clause-sends c =
    sends c.args.self.now _ (event.Install c.args.piece) (reply.Refused (Stale c.in-Refused-Stale.cut)) refl c.in-Refused-Stale.ensures.some
    (retold c.args.self.now.core c.step.new.self c.args.self.now.caller (event.Install c.args.piece) (reply.Refused c.in-Refused-Stale.field-0) (reply.Refused (Stale c.in-Refused-Stale.cut)) (ap reply.Refused c.in-Refused-Stale.field-0-is) c.in-Refused-Stale.ensures.stands)

pub returns-in-Refused-Stale-clause-stays : goal.returns-in-Refused-Stale-clause-stays
returns-in-Refused-Stale-clause-stays c =
    open_stays c.requires.start c.args.self.now.core c.step.new.self c.requires.entries c.args.self.now.caller (event.Install c.args.piece) (reply.Refused c.in-Refused-Stale.field-0) c.requires.stood (c.in-Refused-Stale.ensures.stands c.requires.start c.requires.entries c.requires.stood c.requires.of) refl
