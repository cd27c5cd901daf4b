use Rattle.std.proofs.Common.{length}
use Rattle.graph_reader.specs.Reading.{Continues}
use Rattle.row_ops.specs.Sorting.{sorted_on, sorted_of}
use Rattle.row_ops.proofs.sorting.sorted.Given as goal

abbrev pub invariant-loop-made : goal.invariant-loop-made
invariant-loop-made g l = Continues g.G.GraphRead.stands g.G.GraphRead.follows
    (λ w. sorted_of w l.p l.fn.rows)
    (λ w. sorted_on w l.p l.keyed.items l.left.items)
    l.fn.graph l.graph

abbrev pub decreases-loop-made : goal.decreases-loop-made
decreases-loop-made g l = length l.left.items
