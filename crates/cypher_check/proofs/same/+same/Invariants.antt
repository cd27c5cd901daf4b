use Rattle.std.proofs.Common.{◌≡◌, drop, length}
use Rattle.std.specs.Cmp.Lexicographic.{pointwise}
use Rattle.cypher_check.specs.Same.{same_expr, same_post, same_pred, same_pair, same_cmp, same_sum, same_prod}
use Rattle.cypher_check.proofs.same.+same.Given as goal

abbrev pub invariant-all_same-loop-i : goal.invariant-all_same-loop-i
invariant-all_same-loop-i l = (length l.a ≡ length l.b) × (pointwise same_expr (drop l.i l.a) (drop l.i l.b) ≡ pointwise same_expr l.a l.b)

abbrev pub invariant-pairs_same-loop-i : goal.invariant-pairs_same-loop-i
invariant-pairs_same-loop-i l = (length l.a ≡ length l.b) × (pointwise same_pair (drop l.i l.a) (drop l.i l.b) ≡ pointwise same_pair l.a l.b)

abbrev pub invariant-compared_same-loop-i : goal.invariant-compared_same-loop-i
invariant-compared_same-loop-i l = (length l.a ≡ length l.b) × (pointwise same_cmp (drop l.i l.a) (drop l.i l.b) ≡ pointwise same_cmp l.a l.b)

abbrev pub invariant-added_same-loop-i : goal.invariant-added_same-loop-i
invariant-added_same-loop-i l = (length l.a ≡ length l.b) × (pointwise same_sum (drop l.i l.a) (drop l.i l.b) ≡ pointwise same_sum l.a l.b)

abbrev pub invariant-multiplied_same-loop-i : goal.invariant-multiplied_same-loop-i
invariant-multiplied_same-loop-i l = (length l.a ≡ length l.b) × (pointwise same_prod (drop l.i l.a) (drop l.i l.b) ≡ pointwise same_prod l.a l.b)

abbrev pub invariant-tests_same-loop-i : goal.invariant-tests_same-loop-i
invariant-tests_same-loop-i l = (length l.a ≡ length l.b) × (pointwise same_pred (drop l.i l.a) (drop l.i l.b) ≡ pointwise same_pred l.a l.b)

abbrev pub invariant-posts_same-loop-i : goal.invariant-posts_same-loop-i
invariant-posts_same-loop-i l = (length l.a ≡ length l.b) × (pointwise same_post (drop l.i l.a) (drop l.i l.b) ≡ pointwise same_post l.a l.b)
