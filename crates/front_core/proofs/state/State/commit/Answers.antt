use Rattle.std.proofs.Common.{arith, ◌≡◌, ℕ, ◌+◌, List, [], ◌∷◌, ◌++◌, Some, None, Bool, true, false, not, cond, sym, ap, subst, refl, ◌∙◌}
use Rattle.std.specs.Prelude.{IfSome}
use Rattle.graph_value.specs.declared.id.Oid.{Oid}
use Rattle.txn_manager.specs.Transactions.{Transactions, clock_after_end}
use Rattle.undo_delta.specs.declared.op.Op.{Op}
use Rattle.world_model.specs.Reply as answer
use Rattle.world_model.specs.declared.answer.Refused.TheVariants.{NoTxn}
use Rattle.world_model.specs.declared.event.Event.TheVariants.{Commit}
use Rattle.world_model.specs.Step.{commit_step, committed, without}
use Rattle.world_model.specs.World.{World, Txn}
use Rattle.front_core.specs.Books.{Closed, end_number, find_txn, is_empty}
use Rattle.front_core.specs.Keeps.{Keeps, Obeys}
use Rattle.front_core.specs.Objects.{Ended, row_at}
use Rattle.front_core.specs.Opened.{Opened}
use Rattle.front_core.specs.Rows.{committed_row, MayCommit}
use Rattle.front_core.specs.declared.state.State.{State}
use Rattle.front_core.specs.declared.tally.Tally.{Tally}
use Rattle.front_core.specs.declared.transactions.Transaction.{Transaction}
use Rattle.front_core.proofs.Stepping.{closed, obeys_refusal, open_of}
use Rattle.front_core.proofs.Turning.{committed_obeys, ended_among, may_commit}
use Rattle.front_core.proofs.state.State.commit.Goals as goal

pub returns-in_default : goal.returns-in_default
returns-in_default c = λ w keeps.
    obeys_refusal c.args.self.now w c.args.caller Commit NoTxn keeps
    (ap (commit_step w c.args.caller) (closed c.args.self.now w c.args.caller keeps (sym c.in_default.ensures)))

pub commit_all-requires : goal.commit_all-requires
commit_all-requires c = λ x.
    subst (λ n. MayCommit n (row_at c.args.self.now.objects x)) (sym c.clock-ts.ensures.value) (may_commit c.args.self.now c.requires.0 c.requires.1 x)

pub overflow_add-self : goal.overflow_add-self
overflow_add-self c =
    let among = ended_among c.args.self.now c.requires.0 c.args.caller c.in-Some.place c.finish-number.result.1 c.requires.1 (sym c.in-Some.ensures) c.finish-number.ensures.taken in
    omega (arith, among.0, among.1)

pub returns : goal.returns
returns c = λ w keeps.
    let f = open_of c.args.self.now w c.args.caller c.in-Some.place keeps (sym c.in-Some.ensures) in
    let t = f.0 in
    let here : find_txn c.args.self.now.transactions.txns c.args.caller ≡ Some t = f.3 in
    let taken : c.finish-number.result.1 ≡ t = subst (λ o. IfSome o (λ (u : Transaction). c.finish-number.result.1 ≡ u)) here c.finish-number.ensures.taken in
    let written : c.finish-number.result.1.written ≡ t.written = ap (λ (u : Transaction). u.written) taken in
    let number : c.finish-number.result.0 ≡ end_number c.args.self.now.transactions.clock t = subst (λ o. IfSome o (λ (u : Transaction). c.finish-number.result.0 ≡ end_number c.args.self.now.transactions.clock u)) here c.finish-number.ensures.number in
    let list : c.as_slice.result.now ≡ t.written = c.as_slice.ensures ∙ written in
    let tally : Tally = record { committed = c.args.self.now.tally.committed + c.finish-number.result.1.deltas; all = c.args.self.now.tally.all } in
    committed_obeys c.args.self.now w c.args.caller f.1 t f.2 here c.finish-number.result.0 number c.finish-number.new.self
    (subst (λ (xs : List Oid). Closed c.args.self.now.transactions c.finish-number.new.self c.args.caller (clock_after_end (not (is_empty xs)) c.args.self.now.transactions.clock)) written c.finish-number.ensures.closed)
    c.commit_all.new.self
    (subst (λ (n : ℕ). Ended c.args.self.now.objects c.commit_all.new.self (committed_row n) t.written) c.clock-ts.ensures.value
    (subst (λ (xs : List Oid). Ended c.args.self.now.objects c.commit_all.new.self (committed_row c.clock-ts.result) xs) list c.commit_all.ensures))
    tally (ap (λ (u : Transaction). c.args.self.now.tally.committed + u.deltas) taken) refl
