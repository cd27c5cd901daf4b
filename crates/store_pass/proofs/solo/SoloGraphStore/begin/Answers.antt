use Rattle.std.proofs.Common.{Some, refl, sym, ap, subst, ◌∙◌}
use Rattle.world_model.specs.declared.event.Event.TheVariants as event
use Rattle.world_model.specs.Reply as reply
use Rattle.world_model.specs.Reply.{reply_of}
use Rattle.world_model.specs.History.{IsAnswered, run}
use Rattle.world_model.specs.World.{start_world}
use Rattle.store_pass.proofs.Alone.{entry, open_begun, open_refused, retold, sends}
use Rattle.store_pass.proofs.Refusals.{begun_or_refusal}
use Rattle.store_pass.proofs.solo.SoloGraphStore.begin.Goals as goal

pub refusal-requires : goal.refusal-requires
refusal-requires c = begun_or_refusal c.step.result c.in_default.not-Begun c.step.ensures.fits.kind

pub returns-in-Begun-clause-sends : goal.returns-in-Begun-clause-sends
returns-in-Begun-clause-sends c =
    sends c.args.self.now _ event.Begin (reply.Begun c.begun.result.start) refl c.in-Begun.ensures.some
    (retold c.args.self.now.core c.step.new.self c.args.self.now.caller event.Begin (reply.Begun c.in-Begun.start) (reply.Begun c.begun.result.start) (ap reply.Begun (sym c.begun.ensures)) c.in-Begun.ensures.stands)

pub returns-in-Begun-clause-opens : goal.returns-in-Begun-clause-opens
returns-in-Begun-clause-opens c =
    let some = c.in-Begun.ensures.some in
    open_begun some.start c.args.self.now.core c.step.new.self some.entries c.args.self.now.caller c.in-Begun.start some.stood (c.in-Begun.ensures.stands some.start some.entries some.stood tt) (c.in-Begun.ensures.answered some.start some.entries some.stood tt) ∙ ap Some (sym c.begun.ensures)

pub returns-in_default-clause-sends : goal.returns-in_default-clause-sends
returns-in_default-clause-sends c =
    sends c.args.self.now _ event.Begin (reply.Refused c.refusal.result) refl c.step.ensures.some
    (retold c.args.self.now.core c.step.new.self c.args.self.now.caller event.Begin (reply_of c.step.result) (reply.Refused c.refusal.result) c.refusal.ensures c.step.ensures.stands)

pub returns-in_default-clause-refused : goal.returns-in_default-clause-refused
returns-in_default-clause-refused c =
    let some = c.step.ensures.some in
    open_refused some.start c.args.self.now.core c.step.new.self some.entries c.args.self.now.caller c.refusal.result some.stood
    (retold c.args.self.now.core c.step.new.self c.args.self.now.caller event.Begin (reply_of c.step.result) (reply.Refused c.refusal.result) c.refusal.ensures c.step.ensures.stands some.start some.entries some.stood tt)
    (subst (λ r. IsAnswered (run (start_world some.start) some.entries) (entry c.args.self.now.caller event.Begin r)) c.refusal.ensures (c.step.ensures.answered some.start some.entries some.stood tt))
