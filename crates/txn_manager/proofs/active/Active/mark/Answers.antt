use Rattle.txn_manager.proofs.RunningListLemmas.{least_start-first}
use Rattle.txn_manager.proofs.active.Active.mark.Goals as goal

pub returns-in-Some : goal.returns-in-Some
returns-in-Some c =
    rw (← c.self.view_is)
    (least_start-first c.self.inside.clock c.self.inside.running.items c.in-Some.oldest.now c.self.invariant.ascending
    (rw c.deref.ensures.value at c.in-Some.ensures.value))
