use Rattle.std.proofs.Common.{map, drop}
use Rattle.graph_reader.specs.Reading.{Continues}
use Rattle.expr_eval.specs.Eval.{eval_of, all_on, values_of}
use Rattle.row_ops.proofs.grouping.arguments.Given as goal

abbrev pub invariant-loop-aggregate : goal.invariant-loop-aggregate
invariant-loop-aggregate g l = Continues g.G.GraphRead.stands g.G.GraphRead.follows
    (λ w. values_of w l.row (map (λ a. a.of) l.aggregates))
    (λ w. all_on l.values (map (eval_of w l.row) (map (λ a. a.of) (drop l.aggregate-index l.aggregates))))
    l.fn.graph l.graph
