use Rattle.std.proofs.Common.{◌≡◌, sym, ap, refl, ◌∙◌}
use Rattle.txn_manager.specs.Transactions.{Transactions, mark_of}
use Rattle.world_model.specs.Reply as answer
use Rattle.world_model.specs.declared.event.Event.TheVariants.{Mark}
use Rattle.front_core.proofs.Stepping.{obeys_step}
use Rattle.front_core.proofs.state.State.mark.Goals as goal

pub returns : goal.returns
returns c = λ w keeps.
    obeys_step c.args.self.now w w c.args.caller Mark (answer.Marked (record { mark = c.mark.result; clock = c.clock.result; vertices = c.next.result; edges = c.next-2.result }))
    (ap (λ n. record { reply = answer.Marked (record { mark = n; clock = w.clock; vertices = w.vertices; edges = w.edges }); world = w }) (sym (c.mark.ensures ∙ ap mark_of keeps.times))
    ∙ ap (λ n. record { reply = answer.Marked (record { mark = c.mark.result; clock = n; vertices = w.vertices; edges = w.edges }); world = w }) (sym (c.clock.ensures.value ∙ ap (λ (t : Transactions). t.clock) keeps.times))
    ∙ ap (λ n. record { reply = answer.Marked (record { mark = c.mark.result; clock = c.clock.result; vertices = n; edges = w.edges }); world = w }) (sym (c.next.ensures.value ∙ keeps.vertices))
    ∙ ap (λ n. record { reply = answer.Marked (record { mark = c.mark.result; clock = c.clock.result; vertices = c.next.result; edges = n }); world = w }) (sym (c.next-2.ensures.value ∙ keeps.edges)))
    refl keeps
