use Rattle.std.proofs.Common.{ap, take, length, ◌-◌, ◌∙◌, arith}
use Rattle.graph_record.proofs.Front.{one_less, front_ascends}
use Rattle.graph_record.proofs.edge_ids.EdgeIds.pop.Goals as goal

pub invariant_of-self : goal.invariant_of-self
invariant_of-self c = (
  omega (arith, c.saturating_sub-self-inside.ensures, c.self.invariant.0),
  rw (c.saturating_sub-self-inside.ensures, one_less c.self.inside.len c.self.inside.items c.self.invariant.0) (front_ascends (length (take c.self.inside.len c.self.inside.items) - 1) (take c.self.inside.len c.self.inside.items) c.self.invariant.1),
)

pub returns-clause-rest : goal.returns-clause-rest
returns-clause-rest c =
    ap (λ n. take n c.self.inside.items) c.saturating_sub-self-inside.ensures
    ∙ one_less c.self.inside.len c.self.inside.items c.self.invariant.0
    ∙ ap (λ ids. take (length ids - 1) ids) c.self.view_is
