use Rattle.std.proofs.Common.{◌≡◌, ℕ, Some, None, not, sym, ap, subst, refl, ◌∙◌, inl, inr}
use Rattle.txn_manager.specs.Transactions.{Transactions, begin_refusal}
use Rattle.txn_manager.specs.declared.refusals.BeginRefused.TheVariants as begin
use Rattle.world_model.specs.Reply as answer
use Rattle.world_model.specs.declared.event.Event.TheVariants.{Begin}
use Rattle.world_model.specs.History.{is_refused}
use Rattle.world_model.specs.Refusals.{refused_begin}
use Rattle.world_model.specs.Step.{begin_step, begun_world}
use Rattle.world_model.specs.World.{World, transactions_of}
use Rattle.front_core.specs.Books.{Book, times_of}
use Rattle.front_core.specs.Keeps.{Keeps, Obeys}
use Rattle.front_core.proofs.Stepping.{entry, obeys_step}
use Rattle.front_core.proofs.Turning.{begin_refused, keeps_begun}
use Rattle.front_core.proofs.state.State.begin.Goals as goal

pub returns-in-Ok : goal.returns-in-Ok
returns-in-Ok c = λ w keeps.
    let free : begin_refusal (transactions_of w) c.args.caller ≡ None = ap (λ (t : Transactions). begin_refusal t c.args.caller) (sym keeps.times) ∙ c.in-Ok.ensures.accepted in
    obeys_step (record c.args.self.now { transactions = c.begin.new.self }) w (begun_world w c.args.caller) c.args.caller Begin (answer.Begun c.in-Ok.start)
    (ap (begin_step w c.args.caller) free ∙ ap (λ n. record { reply = answer.Begun n; world = begun_world w c.args.caller }) (sym (c.in-Ok.ensures.start ∙ ap (λ (t : Transactions). t.clock) keeps.times)))
    refl
    (subst (λ (b : Book). Keeps (record c.args.self.now { transactions = b }) (begun_world w c.args.caller)) (sym c.in-Ok.ensures.begun) (keeps_begun c.args.self.now w c.args.caller keeps free))

pub returns-in-Err : goal.returns-in-Err
returns-in-Err c = λ w keeps.
    subst (λ (b : Book). Obeys w (record c.args.self.now { transactions = b }) (entry c.args.caller Begin (answer.Refused c.refused_begin.result))) (sym c.in-Err.ensures.unchanged)
    (subst (λ why. Obeys w c.args.self.now (entry c.args.caller Begin (answer.Refused why))) (sym c.refused_begin.ensures)
    (begin_refused c.args.self.now w c.args.caller c.in-Err.why keeps c.in-Err.ensures.refused c.in-Err.ensures.reason))
