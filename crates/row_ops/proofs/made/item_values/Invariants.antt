use Rattle.std.proofs.Common.{map, drop}
use Rattle.graph_reader.specs.Reading.{Continues}
use Rattle.expr_eval.specs.Eval.{eval_of, all_on}
use Rattle.row_ops.specs.Making.{item_values}
use Rattle.row_ops.proofs.made.item_values.Given as goal

abbrev pub invariant-loop-item : goal.invariant-loop-item
invariant-loop-item g l = Continues g.G.GraphRead.stands g.G.GraphRead.follows
    (λ w. item_values w l.items l.row)
    (λ w. all_on l.values (map (eval_of w l.row) (map (λ i. i.expr) (drop l.item-index l.items))))
    l.fn.graph l.graph
