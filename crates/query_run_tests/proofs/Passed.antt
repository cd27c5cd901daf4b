-- What the owned store was sent, as what the store was sent that owns it.
use Rattle.std.proofs.Common.{◌++◌, true, refl, subst}
use Rattle.undo_delta.specs.declared.ask.Ask.{Ask}
use Rattle.world_model.specs.declared.event.Event.{Event}
use Rattle.world_model.specs.declared.event.Event.TheVariants as event
use Rattle.world_model.specs.History.{no_memory}
use Rattle.world_model.specs.Reply.{Reply}
use Rattle.world_model.specs.Sending.{Sends}
use Rattle.world_model.specs.Step.{unchanged}
use Rattle.front_core.specs.Keeps.{StandsFor}
use Rattle.store_pass.specs.declared.solo.Solo.{Solo}
use Rattle.query_run_tests.specs.declared.wanting.Wanting.{Wanting}
use Rattle.query_run_tests.proofs.Unchanged.{wants_instead}

abbrev pub SoloSends : Event → Reply → Solo → Solo → Type 0
SoloSends e r old new = Sends (λ (k : Solo) s es. StandsFor s k.core es) (λ (k : Solo). k.caller) (λ (k : Solo). true) e r old new

abbrev pub WantingSends : Event → Reply → Wanting → Wanting → Type 0
WantingSends e r old new = Sends (λ (k : Wanting) s es. StandsFor s k.solo.core es) (λ (k : Wanting). k.solo.caller) (λ (k : Wanting). true) e r old new

pub passed : (e : Event) (r : Reply) (old new : Wanting) → SoloSends e r old.solo new.solo → WantingSends e r old new
passed e r old new sent = record {
  goes_on = sent.goes_on;
  some = record { start = sent.some.start; entries = sent.some.entries; stood = sent.some.stood };
  same_caller = sent.same_caller;
  same_alone = refl;
}

-- a write that changes nothing is told as one that found no memory
pub told_otherwise : (ask : Ask) (old new : Solo) → SoloSends (event.Write ask) unchanged old new → SoloSends (event.Write ask) no_memory old new
told_otherwise ask old new sent = record {
  goes_on = λ s es st may.
      let on = sent.goes_on s es st may in
      let others = on.1.others in (
        _,
        record { others = others; parts = refl; apart = on.1.apart; nobody = on.1.nobody },
        wants_instead s new.core (es ++ others) old.caller ask (subst (StandsFor s new.core) on.1.parts on.2),
      );
  some = sent.some;
  same_caller = sent.same_caller;
  same_alone = sent.same_alone;
}
