use Rattle.std.proofs.Common.{◌≡◌, take, None}
use Rattle.std.specs.List.{flat_map}
use Rattle.cypher_check.specs.Marks.{expr_marks, post_marks, pred_marks, pair_marks}
use Rattle.cypher_check.specs.Faults.{first_fault}
use Rattle.cypher_check.proofs.names.expr.+names.Given as goal

abbrev pub invariant-exprs-loop-e : goal.invariant-exprs-loop-e
invariant-exprs-loop-e l = first_fault l.scope (flat_map (λ e. expr_marks e l.place) (take l.e-index l.items)) ≡ None

abbrev pub invariant-pairs-loop-when : goal.invariant-pairs-loop-when
invariant-pairs-loop-when l = first_fault l.scope (flat_map (λ w. pair_marks w l.place) (take l.when-index l.whens)) ≡ None

abbrev pub invariant-compared-loop-p : goal.invariant-compared-loop-p
invariant-compared-loop-p l = first_fault l.scope (flat_map (λ p. expr_marks p.1 l.place) (take l.p-index l.rest)) ≡ None

abbrev pub invariant-added-loop-p : goal.invariant-added-loop-p
invariant-added-loop-p l = first_fault l.scope (flat_map (λ p. expr_marks p.1 l.place) (take l.p-index l.rest)) ≡ None

abbrev pub invariant-multiplied-loop-p : goal.invariant-multiplied-loop-p
invariant-multiplied-loop-p l = first_fault l.scope (flat_map (λ p. expr_marks p.1 l.place) (take l.p-index l.rest)) ≡ None

abbrev pub invariant-tests-loop-t : goal.invariant-tests-loop-t
invariant-tests-loop-t l = first_fault l.scope (flat_map (λ t. pred_marks t l.place) (take l.t-index l.tests)) ≡ None

abbrev pub invariant-posts-loop-a : goal.invariant-posts-loop-a
invariant-posts-loop-a l = first_fault l.scope (flat_map (λ a. post_marks a l.place) (take l.a-index l.posts)) ≡ None
