use Rattle.std.proofs.Common.{[], ◌∷◌, map, drop}
use Rattle.graph_reader.specs.Reading.{Continues}
use Rattle.expr_eval.specs.Eval.{all_on}
use Rattle.row_ops.specs.Making.{seen}
use Rattle.row_ops.specs.Sorting.{key_of}
use Rattle.row_ops.proofs.sorting.other_keys.Given as goal

abbrev pub invariant-loop-sort : goal.invariant-loop-sort
invariant-loop-sort g l = Continues g.G.GraphRead.stands g.G.GraphRead.follows
    (λ w. all_on (l.fn.first ∷ []) (map (key_of w l.p.items l.made.values (seen l.p l.made)) l.sorts))
    (λ w. all_on (l.first ∷ l.others) (map (key_of w l.p.items l.made.values (seen l.p l.made)) (drop l.sort-index l.sorts)))
    l.fn.graph l.graph
