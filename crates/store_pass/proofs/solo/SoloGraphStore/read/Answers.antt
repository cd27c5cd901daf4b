use Rattle.std.proofs.Common.{refl, sym, ap, inr}
use Rattle.world_model.specs.declared.event.Event.TheVariants as event
use Rattle.world_model.specs.Reply as reply
use Rattle.world_model.specs.Reply.{reply_of}
use Rattle.anchor_store.specs.Found.{found_object}
use Rattle.undo_delta.specs.Apply.{after}
use Rattle.store_pass.proofs.Alone.{is_refused, open_stays, retold, sends}
use Rattle.store_pass.proofs.Refusals.{version_or_refusal}
use Rattle.store_pass.proofs.solo.SoloGraphStore.read.Goals as goal

pub refusal-requires : goal.refusal-requires
refusal-requires c = version_or_refusal c.step.result c.in_default.not-Version c.step.ensures.fits.kind

pub returns-in-Ok-clause-sends : goal.returns-in-Ok-clause-sends
returns-in-Ok-clause-sends c = record {
  reply = reply.Version (found_object after c.in-Version.found);
  told = ap reply.Version (sym c.in-Ok.ensures);
  sent = sends c.args.self.now _ (event.Read c.args.x c.args.when) (reply.Version (found_object after c.in-Version.found)) refl c.in-Version.ensures.some c.in-Version.ensures.stands;
}

pub returns-in-Ok-clause-stays : goal.returns-in-Ok-clause-stays
returns-in-Ok-clause-stays c =
    let some = c.in-Version.ensures.some in
    open_stays some.start c.args.self.now.core c.step.new.self some.entries c.args.self.now.caller (event.Read c.args.x c.args.when) (reply.Version (found_object after c.in-Version.found)) some.stood (c.in-Version.ensures.stands some.start some.entries some.stood tt) refl

pub returns-in-Err-clause-sends : goal.returns-in-Err-clause-sends
returns-in-Err-clause-sends c = record {
  reply = reply.Version (found_object after c.in-Version.found);
  told = inr (found_object after c.in-Version.found, refl);
  sent = sends c.args.self.now _ (event.Read c.args.x c.args.when) (reply.Version (found_object after c.in-Version.found)) refl c.in-Version.ensures.some c.in-Version.ensures.stands;
}

pub returns-in-Err-clause-stays : goal.returns-in-Err-clause-stays
returns-in-Err-clause-stays c =
    let some = c.in-Version.ensures.some in
    open_stays some.start c.args.self.now.core c.step.new.self some.entries c.args.self.now.caller (event.Read c.args.x c.args.when) (reply.Version (found_object after c.in-Version.found)) some.stood (c.in-Version.ensures.stands some.start some.entries some.stood tt) refl

pub returns-in_default-clause-sends : goal.returns-in_default-clause-sends
returns-in_default-clause-sends c = record {
  reply = reply.Refused c.refusal.result;
  told = is_refused c.refusal.result;
  sent = sends c.args.self.now _ (event.Read c.args.x c.args.when) (reply.Refused c.refusal.result) refl c.step.ensures.some
      (retold c.args.self.now.core c.step.new.self c.args.self.now.caller (event.Read c.args.x c.args.when) (reply_of c.step.result) (reply.Refused c.refusal.result) c.refusal.ensures c.step.ensures.stands);
}

pub returns-in_default-clause-stays : goal.returns-in_default-clause-stays
returns-in_default-clause-stays c =
    let some = c.step.ensures.some in
    open_stays some.start c.args.self.now.core c.step.new.self some.entries c.args.self.now.caller (event.Read c.args.x c.args.when) (reply_of c.step.result) some.stood (c.step.ensures.stands some.start some.entries some.stood tt) refl
