use Rattle.std.proofs.Common.{length}
use Rattle.graph_reader.specs.Reading.{Continues}
use Rattle.row_ops.specs.Making.{made_on, made_of}
use Rattle.row_ops.proofs.made.make.Given as goal

abbrev pub invariant-loop-before : goal.invariant-loop-before
invariant-loop-before g l = Continues g.G.GraphRead.stands g.G.GraphRead.follows
    (λ w. made_of w l.items l.fn.table)
    (λ w. made_on w l.items l.rows l.left.items)
    l.fn.graph l.graph

abbrev pub decreases-loop-before : goal.decreases-loop-before
decreases-loop-before g l = length l.left.items
