use Rattle.collector.proofs.Objects.{edge_passed, vertex_passed}
use Rattle.collector.proofs.left.Left.rest.Goals as goal

pub returns-then-self : goal.returns-then-self
returns-then-self c = vertex_passed c.args.self c.if-self.true

pub returns-then-self-2 : goal.returns-then-self-2
returns-then-self-2 c = edge_passed c.args.self c.if-self.false c.if-self-2.true
