use Rattle.std.proofs.Common.{arith, ◌≡◌, ℕ, ◌-◌, List, Some, None, sym, ap, subst, refl, ◌∙◌}
use Rattle.std.specs.Prelude.{IfSome}
use Rattle.graph_value.specs.declared.id.Oid.{Oid}
use Rattle.world_model.specs.Reply as answer
use Rattle.world_model.specs.declared.answer.Refused.TheVariants.{NoTxn}
use Rattle.world_model.specs.declared.event.Event.TheVariants.{Abort}
use Rattle.world_model.specs.Step.{abort_step, without}
use Rattle.front_core.specs.Books.{find_txn}
use Rattle.front_core.specs.Objects.{Ended}
use Rattle.front_core.specs.Rows.{aborted_row}
use Rattle.front_core.specs.declared.transactions.Transaction.{Transaction}
use Rattle.front_core.proofs.Stepping.{closed, obeys_refusal, obeys_step, open_of}
use Rattle.front_core.specs.declared.tally.Tally.{Tally}
use Rattle.front_core.proofs.Turning.{among_all, ended_among, keeps_aborted}
use Rattle.front_core.proofs.state.State.abort.Goals as goal

pub returns-in_default : goal.returns-in_default
returns-in_default c = λ w keeps.
    obeys_refusal c.args.self.now w c.args.caller Abort NoTxn keeps
    (ap (abort_step w c.args.caller) (closed c.args.self.now w c.args.caller keeps (sym c.in_default.ensures)))

pub overflow_sub-self : goal.overflow_sub-self
overflow_sub-self c =
    let among = ended_among c.args.self.now c.requires.0 c.args.caller c.in-Some.place c.give_up-ended.result c.requires.1 (sym c.in-Some.ensures) c.give_up-ended.ensures.taken in
    omega (arith, among.0, among.1)

pub returns : goal.returns
returns c = λ w keeps.
    let f = open_of c.args.self.now w c.args.caller c.in-Some.place keeps (sym c.in-Some.ensures) in
    let t = f.0 in
    let p = f.1 in
    let o = f.2 in
    let here : find_txn c.args.self.now.transactions.txns c.args.caller ≡ Some t = f.3 in
    let taken : c.give_up-ended.result ≡ t = subst (λ o. IfSome o (λ (u : Transaction). c.give_up-ended.result ≡ u)) here c.give_up-ended.ensures.taken in
    let list : c.as_slice.result.now ≡ t.written = c.as_slice.ensures ∙ ap (λ (u : Transaction). u.written) taken in
    let deltas : c.give_up-ended.result.deltas ≡ t.deltas = ap (λ (u : Transaction). u.deltas) taken in
    let tally : Tally = record { committed = c.args.self.now.tally.committed; all = c.args.self.now.tally.all - c.give_up-ended.result.deltas } in
    let among = among_all c.args.self.now w c.args.caller t.start p o t here in
    obeys_step (record c.args.self.now { transactions = c.give_up-ended.new.self; objects = c.abort_all.new.self; tally = tally }) w (record w { running = without c.args.caller w.running }) c.args.caller Abort answer.Aborted
    (ap (abort_step w c.args.caller) o.found) refl
    (keeps_aborted c.args.self.now w c.args.caller t.start p o t here c.give_up-ended.new.self c.args.self.now.transactions.clock c.give_up-ended.ensures.closed c.abort_all.new.self tally refl (omega (arith, among, deltas)) refl
    (subst (λ (xs : List Oid). Ended c.args.self.now.objects c.abort_all.new.self aborted_row xs) list c.abort_all.ensures))
