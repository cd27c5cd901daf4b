use Rattle.std.proofs.Common.{arith}
use Rattle.txn_manager.proofs.TransactionsLemmas.{IsReady-left}
use Rattle.txn_manager.proofs.active.Active.finish.Goals as goal

pub invariant_of-self : goal.invariant_of-self
invariant_of-self c =
    IsReady-left _ c.args.caller _ _ c.self.invariant c.take_out-start.ensures.others c.take_out-start.ensures.fewer (omega arith) (omega arith)

pub returns-then-not-wrote-clause-ready : goal.returns-then-not-wrote-clause-ready
returns-then-not-wrote-clause-ready c =
    IsReady-left _ c.args.caller _ _ c.self.invariant c.take_out-start.ensures.others c.take_out-start.ensures.fewer (omega arith) (omega arith)

pub invariant_of-self-2 : goal.invariant_of-self-2
invariant_of-self-2 c =
    IsReady-left _ c.args.caller _ _ c.self.invariant c.take_out-start.ensures.others c.take_out-start.ensures.fewer (omega arith) (omega arith)

pub returns-clause-ready : goal.returns-clause-ready
returns-clause-ready c =
    IsReady-left _ c.args.caller _ _ c.self.invariant c.take_out-start.ensures.others c.take_out-start.ensures.fewer (omega arith) (omega arith)
