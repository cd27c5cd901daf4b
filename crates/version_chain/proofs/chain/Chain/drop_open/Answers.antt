use Rattle.version_chain.proofs.Changes.{dropped_front, dropped_chain}
use Rattle.version_chain.proofs.chain.Chain.drop_open.Goals as goal

pub invariant_of-self : goal.invariant_of-self
invariant_of-self g c =
    dropped_chain c.self.inside.open_count c.self.inside.entries.items _ c.self.invariant c.drop_first.ensures

pub returns : goal.returns
returns g c =
    rw (← c.self.view_is) (dropped_front c.self.inside.open_count c.self.inside.entries.items _ c.self.invariant c.drop_first.ensures)
