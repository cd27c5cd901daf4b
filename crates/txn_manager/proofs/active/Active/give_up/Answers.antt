use Rattle.std.proofs.Common.{arith}
use Rattle.txn_manager.proofs.TransactionsLemmas.{IsReady-left}
use Rattle.txn_manager.proofs.active.Active.give_up.Goals as goal

pub invariant_of-self : goal.invariant_of-self
invariant_of-self c =
    IsReady-left _ c.args.caller _ _ c.self.invariant c.take_out.ensures.others c.take_out.ensures.fewer (omega arith) (omega arith)

pub returns-clause-ready : goal.returns-clause-ready
returns-clause-ready c =
    IsReady-left _ c.args.caller _ _ c.self.invariant c.take_out.ensures.others c.take_out.ensures.fewer (omega arith) (omega arith)
