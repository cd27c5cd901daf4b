use Rattle.std.proofs.Common.{◌≡◌, ◌∙◌, sym, None}
use Rattle.txn_manager.specs.Transactions.{begin_refusal}
use Rattle.txn_manager.proofs.TransactionsLemmas.{IsReady-begun, may_begin}
use Rattle.txn_manager.proofs.active.Active.begin.Goals as goal

pub invariant_of-self-2 : goal.invariant_of-self-2
invariant_of-self-2 c =
    let free : begin_refusal (record { clock = c.self.inside.clock; running = c.self.inside.running.items }) c.args.caller ≡ None =
    rw (← c.self.view_is) at (sym c.refusal.ensures ∙ c.in_default.is) in
    rw c.in-Ok.ensures.items (IsReady-begun _ c.args.caller c.self.invariant (may_begin _ c.args.caller free))

pub returns-clause-ready : goal.returns-clause-ready
returns-clause-ready c = invariant_of-self-2 c
