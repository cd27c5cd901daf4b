use Rattle.std.proofs.Common.{map, drop}
use Rattle.graph_reader.specs.Reading.{Continues}
use Rattle.expr_eval.specs.Eval.{eval_of, post_of, pred_of, behind, all_on, steps_on, joined_on, compared_on, summed_on, multiplied_on, values_of, joined_of, coalesced_of, compared_of, summed_of, multiplied_of, posts_of, preds_of, chosen_of}
use Rattle.expr_eval.proofs.evaluate.+eval.Given as goal

-- Each loop has a value so far, and what is left to evaluate.

abbrev pub invariant-values-loop-item : goal.invariant-values-loop-item
invariant-values-loop-item g l =
    Continues g.G.GraphRead.stands g.G.GraphRead.follows
    (λ w. values_of w l.row l.items)
    (λ w. all_on l.values (map (eval_of w l.row) (drop l.item-index l.items)))
    l.fn.graph l.graph

abbrev pub invariant-coalesced-loop-operand : goal.invariant-coalesced-loop-operand
invariant-coalesced-loop-operand g l =
    Continues g.G.GraphRead.stands g.G.GraphRead.follows
    (λ w. coalesced_of w l.row l.operands)
    (λ w. coalesced_of w l.row (drop l.operand-index l.operands))
    l.fn.graph l.graph

abbrev pub invariant-joined-loop-operand : goal.invariant-joined-loop-operand
invariant-joined-loop-operand g l =
    Continues g.G.GraphRead.stands g.G.GraphRead.follows
    (λ w. joined_of w l.row l.joint l.operands)
    (λ w. joined_on l.joint l.left (map (eval_of w l.row) (drop l.operand-index l.operands)))
    l.fn.graph l.graph

abbrev pub invariant-comparisons-loop-op : goal.invariant-comparisons-loop-op
invariant-comparisons-loop-op g l =
    Continues g.G.GraphRead.stands g.G.GraphRead.follows
    (λ w. compared_of w l.row l.fn.first l.rest)
    (λ w. compared_on l.left l.holds (map (behind w l.row) (drop l.op-index l.rest)))
    l.fn.graph l.graph

abbrev pub invariant-sums-loop-op : goal.invariant-sums-loop-op
invariant-sums-loop-op g l =
    Continues g.G.GraphRead.stands g.G.GraphRead.follows
    (λ w. summed_of w l.row l.fn.first l.rest)
    (λ w. summed_on l.left (map (behind w l.row) (drop l.op-index l.rest)))
    l.fn.graph l.graph

abbrev pub invariant-products-loop-op : goal.invariant-products-loop-op
invariant-products-loop-op g l =
    Continues g.G.GraphRead.stands g.G.GraphRead.follows
    (λ w. multiplied_of w l.row l.fn.first l.rest)
    (λ w. multiplied_on l.left (map (behind w l.row) (drop l.op-index l.rest)))
    l.fn.graph l.graph

abbrev pub invariant-preds-loop-test : goal.invariant-preds-loop-test
invariant-preds-loop-test g l =
    Continues g.G.GraphRead.stands g.G.GraphRead.follows
    (λ w. preds_of w l.row l.fn.first l.tests)
    (λ w. steps_on l.value (map (pred_of w l.row) (drop l.test-index l.tests)))
    l.fn.graph l.graph

abbrev pub invariant-posts-loop-op : goal.invariant-posts-loop-op
invariant-posts-loop-op g l =
    Continues g.G.GraphRead.stands g.G.GraphRead.follows
    (λ w. posts_of w l.row l.fn.first l.asked)
    (λ w. steps_on l.value (map (post_of w l.row) (drop l.op-index l.asked)))
    l.fn.graph l.graph

abbrev pub invariant-chosen-loop-condition : goal.invariant-chosen-loop-condition
invariant-chosen-loop-condition g l =
    Continues g.G.GraphRead.stands g.G.GraphRead.follows
    (λ w. chosen_of w l.row l.first l.whens)
    (λ w. chosen_of w l.row l.first (drop l.condition-index l.whens))
    l.fn.graph l.graph
