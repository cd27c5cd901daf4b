use Rattle.std.proofs.Common.{drop}
use Rattle.graph_reader.specs.Reading.{Continues}
use Rattle.row_ops.specs.Unwinding.{unwound_on, unwound_of}
use Rattle.row_ops.proofs.unwinding.unwound.Given as goal

abbrev pub invariant-loop-row : goal.invariant-loop-row
invariant-loop-row g l = Continues g.G.GraphRead.stands g.G.GraphRead.follows
    (λ w. unwound_of w l.table l.clause)
    (λ w. unwound_on w l.clause l.rows (drop l.row-index l.table))
    l.fn.graph l.graph
