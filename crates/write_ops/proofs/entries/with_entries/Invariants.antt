use Rattle.std.proofs.Common.{drop}
use Rattle.graph_reader.specs.Reading.{Continues}
use Rattle.write_ops.specs.Creating.{with_entry}
use Rattle.write_ops.specs.Over.{over}
use Rattle.write_ops.proofs.entries.with_entries.Given as goal

abbrev pub invariant-loop-key : goal.invariant-loop-key
invariant-loop-key g l =
    Continues g.G.GraphRead.stands g.G.GraphRead.follows
    (λ w. over (with_entry w l.row l.x) l.fn.ops l.entries)
    (λ w. over (with_entry w l.row l.x) l.ops (drop l.key-index l.entries))
    l.fn.graph l.graph
