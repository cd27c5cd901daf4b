use Rattle.std.proofs.Common.{◌≡◌, [], ◌∷◌, ◌++◌, ◌-◌, Some, None, refl, sym, ap, ◌∙◌, subst, arith}
use Rattle.cypher_syntax.specs.declared.tree.expr.Expr.TheVariants as tree
use Rattle.cypher_syntax.specs.declared.tree.expr.PostOp.TheVariants as step
use Rattle.cypher_syntax.specs.declared.tree.expr.PredOp.TheVariants as test
use Rattle.cypher_syntax.specs.declared.tree.operators.Fun.TheVariants as fun
use Rattle.cypher_syntax.specs.declared.tree.operators.SumOp.TheVariants.{Plus, Minus}
use Rattle.cypher_parse.specs.declared.kind.Kind.TheVariants as k
use Rattle.cypher_parse.specs.declared.kinds.TheConstants.{PLAIN_NAMES, LITERALS, COMPARISONS, PREDICATE_WORDS, SUM_SIGNS, PRODUCT_SIGNS, STEP_SIGNS, SINGLE_FUNCTIONS, AGGREGATES}
use Rattle.cypher_parse.specs.Parsers.{Done, heads, valued, after, before, unless, seq, many, one, map_out}
use Rattle.cypher_parse.specs.Reads.{Reads, Stopped}
use Rattle.cypher_parse.specs.Words.{name_of, function_of, comparison_of, sum_sign_of, product_sign_of, function_for, aggregate_for}
use Rattle.cypher_parse.specs.Expressions.{joined, chained, flat, posted, counted, called}
use Rattle.cypher_parse.specs.ExpressionParsers.{at, schema, literal, case_operand, case_otherwise, atom, next, tests, steps, turn, post, disjunction, disjunction_more, exclusive, exclusive_more, conjunction, conjunction_more, negation, comparison, comparison_turn, comparison_more, predicate, test_behind, predicate_more, sum, sum_turn, sum_more, product, product_turn, product_more, unary, behind_minus, list_more, when, whens, whens_more, elements, single_call, range_call, coalesce_call, count_call, aggregate_call, call, list, range_bounds, counted_rows, operand}
use Rattle.cypher_parse.proofs.Sets.{chosen, other_chosen}
use Rattle.cypher_parse.proofs.Tied.{tied_after}
use Rattle.cypher_parse.proofs.Levels.{rules, when_at}
use Rattle.cypher_parse.proofs.Turns.{passes, after_passed, loop_begins, loop_goes_on, loop_shrinks, flat_begins, flat_goes_on}
use Rattle.cypher_parse.proofs.Reading.{after_met, behind, both_made, first_stopped, first_stops, kind_stops, loop_ends, no_memory, operand_done, operand_stops, part_done, part_stops, stepped_atom, turn_stops, unmet}
use Rattle.cypher_parse.proofs.Opening.{call_enters, call_shuts, case_enters, case_shuts, element_enters, element_shuts, list_enters, list_shuts, minus_enters, minus_shuts, not_enters, not_shuts, paren_enters, paren_shuts, plain, plus_enters, plus_shuts}
use Rattle.cypher_parse.proofs.+parse.Goals as goal

pub operators::disjunction-returns-in_err-first : goal.operators::disjunction-returns-in_err-first
unfolding disjunction
operators::disjunction-returns-in_err-first t c =
    first_stops (joined tree.Or) (exclusive (at c.args.depth)) (disjunction_more (at c.args.depth)) c.args.tokens.now c.from_residual.result c.in_err-first.field-0.0 c.exclusive.new.tokens c.from_residual.ensures.1 c.in_err-first.ensures

pub operators::disjunction-returns : goal.operators::disjunction-returns
unfolding disjunction
operators::disjunction-returns t c =
    both_made (joined tree.Or) (exclusive (at c.args.depth)) (disjunction_more (at c.args.depth)) c.args.tokens.now c.in_ok-first.first c.exclusive.new.tokens c.disjunction_rest-rest.new.tokens c.disjunction_rest-rest.result c.alternatives.result c.in_ok-first.ensures c.disjunction_rest-rest.ensures c.alternatives.ensures

pub operators::exclusive-returns-in_err-first : goal.operators::exclusive-returns-in_err-first
unfolding exclusive
operators::exclusive-returns-in_err-first t c =
    first_stops (joined tree.Xor) (conjunction (at c.args.depth)) (exclusive_more (at c.args.depth)) c.args.tokens.now c.from_residual.result c.in_err-first.field-0.0 c.conjunction.new.tokens c.from_residual.ensures.1 c.in_err-first.ensures

pub operators::exclusive-returns : goal.operators::exclusive-returns
unfolding exclusive
operators::exclusive-returns t c =
    both_made (joined tree.Xor) (conjunction (at c.args.depth)) (exclusive_more (at c.args.depth)) c.args.tokens.now c.in_ok-first.first c.conjunction.new.tokens c.exclusive_rest-rest.new.tokens c.exclusive_rest-rest.result c.exclusives.result c.in_ok-first.ensures c.exclusive_rest-rest.ensures c.exclusives.ensures

pub operators::conjunction-returns-in_err-first : goal.operators::conjunction-returns-in_err-first
unfolding conjunction
operators::conjunction-returns-in_err-first t c =
    first_stops (joined tree.And) (negation (at c.args.depth)) (conjunction_more (at c.args.depth)) c.args.tokens.now c.from_residual.result c.in_err-first.field-0.0 c.negation.new.tokens c.from_residual.ensures.1 c.in_err-first.ensures

pub operators::conjunction-returns : goal.operators::conjunction-returns
unfolding conjunction
operators::conjunction-returns t c =
    both_made (joined tree.And) (negation (at c.args.depth)) (conjunction_more (at c.args.depth)) c.args.tokens.now c.in_ok-first.first c.negation.new.tokens c.conjunction_rest-rest.new.tokens c.conjunction_rest-rest.result c.conjuncts.result c.in_ok-first.ensures c.conjunction_rest-rest.ensures c.conjuncts.ensures

pub operators::comparison-returns-in_err-first : goal.operators::comparison-returns-in_err-first
unfolding comparison
operators::comparison-returns-in_err-first t c =
    first_stops (chained tree.Cmp) (predicate (at c.args.depth)) (comparison_more (at c.args.depth)) c.args.tokens.now c.from_residual.result c.in_err-first.field-0.0 c.predicate.new.tokens c.from_residual.ensures.1 c.in_err-first.ensures

pub operators::comparison-returns : goal.operators::comparison-returns
unfolding comparison
operators::comparison-returns t c =
    both_made (chained tree.Cmp) (predicate (at c.args.depth)) (comparison_more (at c.args.depth)) c.args.tokens.now c.in_ok-first.first c.predicate.new.tokens c.comparison_rest-rest.new.tokens c.comparison_rest-rest.result c.compared.result c.in_ok-first.ensures c.comparison_rest-rest.ensures c.compared.ensures

pub operators::predicate-returns-in_err-first : goal.operators::predicate-returns-in_err-first
unfolding predicate
operators::predicate-returns-in_err-first t c =
    first_stops (chained tree.Pred) (sum (at c.args.depth)) (predicate_more (at c.args.depth)) c.args.tokens.now c.from_residual.result c.in_err-first.field-0.0 c.sum.new.tokens c.from_residual.ensures.1 c.in_err-first.ensures

pub operators::predicate-returns : goal.operators::predicate-returns
unfolding predicate
operators::predicate-returns t c =
    both_made (chained tree.Pred) (sum (at c.args.depth)) (predicate_more (at c.args.depth)) c.args.tokens.now c.in_ok-first.first c.sum.new.tokens c.predicate_rest-rest.new.tokens c.predicate_rest-rest.result c.tested.result c.in_ok-first.ensures c.predicate_rest-rest.ensures c.tested.ensures

pub operators::sum-returns-in_err-first : goal.operators::sum-returns-in_err-first
unfolding sum
operators::sum-returns-in_err-first t c =
    first_stops (chained tree.Sum) (product (at c.args.depth)) (sum_more (at c.args.depth)) c.args.tokens.now c.from_residual.result c.in_err-first.field-0.0 c.product.new.tokens c.from_residual.ensures.1 c.in_err-first.ensures

pub operators::sum-returns : goal.operators::sum-returns
unfolding sum
operators::sum-returns t c =
    both_made (chained tree.Sum) (product (at c.args.depth)) (sum_more (at c.args.depth)) c.args.tokens.now c.in_ok-first.first c.product.new.tokens c.sum_rest-rest.new.tokens c.sum_rest-rest.result c.summed.result c.in_ok-first.ensures c.sum_rest-rest.ensures c.summed.ensures

pub operators::product-returns-in_err-first : goal.operators::product-returns-in_err-first
unfolding product
operators::product-returns-in_err-first t c =
    first_stops (chained tree.Prod) (unary (at c.args.depth)) (product_more (at c.args.depth)) c.args.tokens.now c.from_residual.result c.in_err-first.field-0.0 c.unary.new.tokens c.from_residual.ensures.1 c.in_err-first.ensures

pub operators::product-returns : goal.operators::product-returns
unfolding product
operators::product-returns t c =
    both_made (chained tree.Prod) (unary (at c.args.depth)) (product_more (at c.args.depth)) c.args.tokens.now c.in_ok-first.first c.unary.new.tokens c.product_rest-rest.new.tokens c.product_rest-rest.result c.multiplied.result c.in_ok-first.ensures c.product_rest-rest.ensures c.multiplied.ensures

pub operators::comparison_turn-returns-in_err-kind : goal.operators::comparison_turn-returns-in_err-kind
unfolding comparison_turn
operators::comparison_turn-returns-in_err-kind t c =
    kind_stops COMPARISONS comparison_of (predicate (at c.args.depth)) c.args.tokens.now c.from_residual.result c.in_err-kind.field-0.0 c.kind.new.self c.from_residual.ensures.1 c.in_err-kind.ensures

pub operators::comparison_turn-returns-in_err-operand : goal.operators::comparison_turn-returns-in_err-operand
unfolding comparison_turn
operators::comparison_turn-returns-in_err-operand t c =
    operand_stops COMPARISONS comparison_of (predicate (at c.args.depth)) c.args.tokens.now c.in_ok-kind.kind c.kind.new.self c.from_residual-in_err-operand.result c.in_err-operand.field-0.0 _ c.in_ok-kind.ensures c.from_residual-in_err-operand.ensures.1 c.in_err-operand.ensures

pub operators::comparison_turn-returns : goal.operators::comparison_turn-returns
unfolding comparison_turn
operators::comparison_turn-returns t c =
    operand_done COMPARISONS comparison_of (predicate (at c.args.depth)) c.args.tokens.now c.in_ok-kind.kind c.kind.new.self _ c.in_ok-operand.operand c.comparison_of.result c.in_ok-kind.ensures c.in_ok-operand.ensures c.comparison_of.ensures

pub operators::sum_turn-returns-in_err-kind : goal.operators::sum_turn-returns-in_err-kind
unfolding sum_turn
operators::sum_turn-returns-in_err-kind t c =
    kind_stops SUM_SIGNS sum_sign_of (product (at c.args.depth)) c.args.tokens.now c.from_residual.result c.in_err-kind.field-0.0 c.kind.new.self c.from_residual.ensures.1 c.in_err-kind.ensures

pub operators::sum_turn-returns-in_err-operand : goal.operators::sum_turn-returns-in_err-operand
unfolding sum_turn
operators::sum_turn-returns-in_err-operand t c =
    operand_stops SUM_SIGNS sum_sign_of (product (at c.args.depth)) c.args.tokens.now c.in_ok-kind.kind c.kind.new.self c.from_residual-in_err-operand.result c.in_err-operand.field-0.0 _ c.in_ok-kind.ensures c.from_residual-in_err-operand.ensures.1 c.in_err-operand.ensures

pub operators::sum_turn-returns : goal.operators::sum_turn-returns
unfolding sum_turn
operators::sum_turn-returns t c =
    operand_done SUM_SIGNS sum_sign_of (product (at c.args.depth)) c.args.tokens.now c.in_ok-kind.kind c.kind.new.self _ c.in_ok-operand.operand c.sum_sign_of.result c.in_ok-kind.ensures c.in_ok-operand.ensures c.sum_sign_of.ensures

pub operators::product_turn-returns-in_err-kind : goal.operators::product_turn-returns-in_err-kind
unfolding product_turn
operators::product_turn-returns-in_err-kind t c =
    kind_stops PRODUCT_SIGNS product_sign_of (unary (at c.args.depth)) c.args.tokens.now c.from_residual.result c.in_err-kind.field-0.0 c.kind.new.self c.from_residual.ensures.1 c.in_err-kind.ensures

pub operators::product_turn-returns-in_err-operand : goal.operators::product_turn-returns-in_err-operand
unfolding product_turn
operators::product_turn-returns-in_err-operand t c =
    operand_stops PRODUCT_SIGNS product_sign_of (unary (at c.args.depth)) c.args.tokens.now c.in_ok-kind.kind c.kind.new.self c.from_residual-in_err-operand.result c.in_err-operand.field-0.0 _ c.in_ok-kind.ensures c.from_residual-in_err-operand.ensures.1 c.in_err-operand.ensures

pub operators::product_turn-returns : goal.operators::product_turn-returns
unfolding product_turn
operators::product_turn-returns t c =
    operand_done PRODUCT_SIGNS product_sign_of (unary (at c.args.depth)) c.args.tokens.now c.in_ok-kind.kind c.kind.new.self _ c.in_ok-operand.operand c.product_sign_of.result c.in_ok-kind.ensures c.in_ok-operand.ensures c.product_sign_of.ensures

pub operators::disjunction_rest-loop-alloc-init : goal.operators::disjunction_rest-loop-alloc-init
unfolding disjunction_more
operators::disjunction_rest-loop-alloc-init t c =
    loop_begins (k.Or ∷ []) (after (k.Or ∷ []) (exclusive (at c.args.depth))) c.new-rest.result c.args.tokens.now c.new-rest.ensures

pub operators::disjunction_rest-loop-alloc-smaller : goal.operators::disjunction_rest-loop-alloc-smaller
operators::disjunction_rest-loop-alloc-smaller t c =
    loop_shrinks ((tied_after k.Or [] (rules c.args.depth).xor).low refl) refl c.loop-alloc.tokens c.in_ok-exclusive.field-0 c.exclusive.new.tokens (after_passed (k.Or ∷ []) (exclusive (at c.args.depth)) c.loop-alloc.tokens c.pass.new.self (sym c.at.ensures ∙ c.loop-alloc-test.true) c.pass.ensures ∙ c.in_ok-exclusive.ensures)

pub operators::disjunction_rest-loop-alloc-preserved : goal.operators::disjunction_rest-loop-alloc-preserved
operators::disjunction_rest-loop-alloc-preserved t c =
    loop_goes_on (k.Or ∷ []) ((tied_after k.Or [] (rules c.args.depth).xor).low refl) refl ((disjunction_more (at c.args.depth)) c.args.tokens.now) c.loop-alloc.rest c.push.new.self c.loop-alloc.tokens c.exclusive.new.tokens c.in_ok-exclusive.field-0 c.loop-alloc.invariant (sym c.at.ensures ∙ c.loop-alloc-test.true) (after_passed (k.Or ∷ []) (exclusive (at c.args.depth)) c.loop-alloc.tokens c.pass.new.self (sym c.at.ensures ∙ c.loop-alloc-test.true) c.pass.ensures ∙ c.in_ok-exclusive.ensures) c.in_ok-push.ensures.ok

pub operators::disjunction_rest-returns-in_err-exclusive : goal.operators::disjunction_rest-returns-in_err-exclusive
operators::disjunction_rest-returns-in_err-exclusive t c =
    turn_stops (k.Or ∷ []) (after (k.Or ∷ []) (exclusive (at c.args.depth))) ((disjunction_more (at c.args.depth)) c.args.tokens.now) c.loop-alloc.rest c.loop-alloc.tokens c.loop-alloc.invariant c.from_residual.result c.in_err-exclusive.field-0.0 c.exclusive.new.tokens (sym c.at.ensures ∙ c.loop-alloc-test.true) c.from_residual.ensures.1 (subst (λ o. Stopped o c.in_err-exclusive.field-0.0 c.exclusive.new.tokens) (sym (after_passed (k.Or ∷ []) (exclusive (at c.args.depth)) c.loop-alloc.tokens c.pass.new.self (sym c.at.ensures ∙ c.loop-alloc-test.true) c.pass.ensures)) c.in_err-exclusive.ensures)

pub operators::disjunction_rest-returns-in_err-push : goal.operators::disjunction_rest-returns-in_err-push
operators::disjunction_rest-returns-in_err-push t c =
    no_memory ((disjunction_more (at c.args.depth)) c.args.tokens.now) c.from_residual-in_err-push.result c.exclusive.new.tokens c.from_residual-in_err-push.ensures.1

pub operators::disjunction_rest-returns : goal.operators::disjunction_rest-returns
operators::disjunction_rest-returns t c =
    loop_ends (k.Or ∷ []) (after (k.Or ∷ []) (exclusive (at c.args.depth))) ((disjunction_more (at c.args.depth)) c.args.tokens.now) c.loop-alloc.rest c.loop-alloc.tokens c.loop-alloc.invariant (sym c.at.ensures ∙ c.loop-alloc-test.false)

pub operators::exclusive_rest-loop-alloc-init : goal.operators::exclusive_rest-loop-alloc-init
unfolding exclusive_more
operators::exclusive_rest-loop-alloc-init t c =
    loop_begins (k.Xor ∷ []) (after (k.Xor ∷ []) (conjunction (at c.args.depth))) c.new-rest.result c.args.tokens.now c.new-rest.ensures

pub operators::exclusive_rest-loop-alloc-smaller : goal.operators::exclusive_rest-loop-alloc-smaller
operators::exclusive_rest-loop-alloc-smaller t c =
    loop_shrinks ((tied_after k.Xor [] (rules c.args.depth).and).low refl) refl c.loop-alloc.tokens c.in_ok-conjunction.field-0 c.conjunction.new.tokens (after_passed (k.Xor ∷ []) (conjunction (at c.args.depth)) c.loop-alloc.tokens c.pass.new.self (sym c.at.ensures ∙ c.loop-alloc-test.true) c.pass.ensures ∙ c.in_ok-conjunction.ensures)

pub operators::exclusive_rest-loop-alloc-preserved : goal.operators::exclusive_rest-loop-alloc-preserved
operators::exclusive_rest-loop-alloc-preserved t c =
    loop_goes_on (k.Xor ∷ []) ((tied_after k.Xor [] (rules c.args.depth).and).low refl) refl ((exclusive_more (at c.args.depth)) c.args.tokens.now) c.loop-alloc.rest c.push.new.self c.loop-alloc.tokens c.conjunction.new.tokens c.in_ok-conjunction.field-0 c.loop-alloc.invariant (sym c.at.ensures ∙ c.loop-alloc-test.true) (after_passed (k.Xor ∷ []) (conjunction (at c.args.depth)) c.loop-alloc.tokens c.pass.new.self (sym c.at.ensures ∙ c.loop-alloc-test.true) c.pass.ensures ∙ c.in_ok-conjunction.ensures) c.in_ok-push.ensures.ok

pub operators::exclusive_rest-returns-in_err-conjunction : goal.operators::exclusive_rest-returns-in_err-conjunction
operators::exclusive_rest-returns-in_err-conjunction t c =
    turn_stops (k.Xor ∷ []) (after (k.Xor ∷ []) (conjunction (at c.args.depth))) ((exclusive_more (at c.args.depth)) c.args.tokens.now) c.loop-alloc.rest c.loop-alloc.tokens c.loop-alloc.invariant c.from_residual.result c.in_err-conjunction.field-0.0 c.conjunction.new.tokens (sym c.at.ensures ∙ c.loop-alloc-test.true) c.from_residual.ensures.1 (subst (λ o. Stopped o c.in_err-conjunction.field-0.0 c.conjunction.new.tokens) (sym (after_passed (k.Xor ∷ []) (conjunction (at c.args.depth)) c.loop-alloc.tokens c.pass.new.self (sym c.at.ensures ∙ c.loop-alloc-test.true) c.pass.ensures)) c.in_err-conjunction.ensures)

pub operators::exclusive_rest-returns-in_err-push : goal.operators::exclusive_rest-returns-in_err-push
operators::exclusive_rest-returns-in_err-push t c =
    no_memory ((exclusive_more (at c.args.depth)) c.args.tokens.now) c.from_residual-in_err-push.result c.conjunction.new.tokens c.from_residual-in_err-push.ensures.1

pub operators::exclusive_rest-returns : goal.operators::exclusive_rest-returns
operators::exclusive_rest-returns t c =
    loop_ends (k.Xor ∷ []) (after (k.Xor ∷ []) (conjunction (at c.args.depth))) ((exclusive_more (at c.args.depth)) c.args.tokens.now) c.loop-alloc.rest c.loop-alloc.tokens c.loop-alloc.invariant (sym c.at.ensures ∙ c.loop-alloc-test.false)

pub operators::conjunction_rest-loop-alloc-init : goal.operators::conjunction_rest-loop-alloc-init
unfolding conjunction_more
operators::conjunction_rest-loop-alloc-init t c =
    loop_begins (k.And ∷ []) (after (k.And ∷ []) (negation (at c.args.depth))) c.new-rest.result c.args.tokens.now c.new-rest.ensures

pub operators::conjunction_rest-loop-alloc-smaller : goal.operators::conjunction_rest-loop-alloc-smaller
operators::conjunction_rest-loop-alloc-smaller t c =
    loop_shrinks ((tied_after k.And [] (rules c.args.depth).not).low refl) refl c.loop-alloc.tokens c.in_ok-negation.field-0 c.negation.new.tokens (after_passed (k.And ∷ []) (negation (at c.args.depth)) c.loop-alloc.tokens c.pass.new.self (sym c.at.ensures ∙ c.loop-alloc-test.true) c.pass.ensures ∙ c.in_ok-negation.ensures)

pub operators::conjunction_rest-loop-alloc-preserved : goal.operators::conjunction_rest-loop-alloc-preserved
operators::conjunction_rest-loop-alloc-preserved t c =
    loop_goes_on (k.And ∷ []) ((tied_after k.And [] (rules c.args.depth).not).low refl) refl ((conjunction_more (at c.args.depth)) c.args.tokens.now) c.loop-alloc.rest c.push.new.self c.loop-alloc.tokens c.negation.new.tokens c.in_ok-negation.field-0 c.loop-alloc.invariant (sym c.at.ensures ∙ c.loop-alloc-test.true) (after_passed (k.And ∷ []) (negation (at c.args.depth)) c.loop-alloc.tokens c.pass.new.self (sym c.at.ensures ∙ c.loop-alloc-test.true) c.pass.ensures ∙ c.in_ok-negation.ensures) c.in_ok-push.ensures.ok

pub operators::conjunction_rest-returns-in_err-negation : goal.operators::conjunction_rest-returns-in_err-negation
operators::conjunction_rest-returns-in_err-negation t c =
    turn_stops (k.And ∷ []) (after (k.And ∷ []) (negation (at c.args.depth))) ((conjunction_more (at c.args.depth)) c.args.tokens.now) c.loop-alloc.rest c.loop-alloc.tokens c.loop-alloc.invariant c.from_residual.result c.in_err-negation.field-0.0 c.negation.new.tokens (sym c.at.ensures ∙ c.loop-alloc-test.true) c.from_residual.ensures.1 (subst (λ o. Stopped o c.in_err-negation.field-0.0 c.negation.new.tokens) (sym (after_passed (k.And ∷ []) (negation (at c.args.depth)) c.loop-alloc.tokens c.pass.new.self (sym c.at.ensures ∙ c.loop-alloc-test.true) c.pass.ensures)) c.in_err-negation.ensures)

pub operators::conjunction_rest-returns-in_err-push : goal.operators::conjunction_rest-returns-in_err-push
operators::conjunction_rest-returns-in_err-push t c =
    no_memory ((conjunction_more (at c.args.depth)) c.args.tokens.now) c.from_residual-in_err-push.result c.negation.new.tokens c.from_residual-in_err-push.ensures.1

pub operators::conjunction_rest-returns : goal.operators::conjunction_rest-returns
operators::conjunction_rest-returns t c =
    loop_ends (k.And ∷ []) (after (k.And ∷ []) (negation (at c.args.depth))) ((conjunction_more (at c.args.depth)) c.args.tokens.now) c.loop-alloc.rest c.loop-alloc.tokens c.loop-alloc.invariant (sym c.at.ensures ∙ c.loop-alloc-test.false)

pub operators::comparison_rest-loop-alloc-init : goal.operators::comparison_rest-loop-alloc-init
unfolding comparison_more
operators::comparison_rest-loop-alloc-init t c =
    loop_begins COMPARISONS (comparison_turn (at c.args.depth)) c.new-rest.result c.args.tokens.now c.new-rest.ensures

pub operators::comparison_rest-loop-alloc-smaller : goal.operators::comparison_rest-loop-alloc-smaller
operators::comparison_rest-loop-alloc-smaller t c =
    loop_shrinks ((rules c.args.depth).comparison_turn.low refl) refl c.loop-alloc.tokens c.in_ok-comparison_turn.field-0 c.comparison_turn.new.tokens c.in_ok-comparison_turn.ensures

pub operators::comparison_rest-loop-alloc-preserved : goal.operators::comparison_rest-loop-alloc-preserved
operators::comparison_rest-loop-alloc-preserved t c =
    loop_goes_on COMPARISONS ((rules c.args.depth).comparison_turn.low refl) refl ((comparison_more (at c.args.depth)) c.args.tokens.now) c.loop-alloc.rest c.push.new.self c.loop-alloc.tokens c.comparison_turn.new.tokens c.in_ok-comparison_turn.field-0 c.loop-alloc.invariant (sym c.at.ensures ∙ c.loop-alloc-test.true) c.in_ok-comparison_turn.ensures c.in_ok-push.ensures.ok

pub operators::comparison_rest-returns-in_err-comparison_turn : goal.operators::comparison_rest-returns-in_err-comparison_turn
operators::comparison_rest-returns-in_err-comparison_turn t c =
    turn_stops COMPARISONS (comparison_turn (at c.args.depth)) ((comparison_more (at c.args.depth)) c.args.tokens.now) c.loop-alloc.rest c.loop-alloc.tokens c.loop-alloc.invariant c.from_residual.result c.in_err-comparison_turn.field-0.0 c.comparison_turn.new.tokens (sym c.at.ensures ∙ c.loop-alloc-test.true) c.from_residual.ensures.1 c.in_err-comparison_turn.ensures

pub operators::comparison_rest-returns-in_err-push : goal.operators::comparison_rest-returns-in_err-push
operators::comparison_rest-returns-in_err-push t c =
    no_memory ((comparison_more (at c.args.depth)) c.args.tokens.now) c.from_residual-in_err-push.result c.comparison_turn.new.tokens c.from_residual-in_err-push.ensures.1

pub operators::comparison_rest-returns : goal.operators::comparison_rest-returns
operators::comparison_rest-returns t c =
    loop_ends COMPARISONS (comparison_turn (at c.args.depth)) ((comparison_more (at c.args.depth)) c.args.tokens.now) c.loop-alloc.rest c.loop-alloc.tokens c.loop-alloc.invariant (sym c.at.ensures ∙ c.loop-alloc-test.false)

pub operators::predicate_rest-loop-alloc-init : goal.operators::predicate_rest-loop-alloc-init
unfolding predicate_more
operators::predicate_rest-loop-alloc-init t c =
    loop_begins PREDICATE_WORDS (test_behind (at c.args.depth)) c.new-rest.result c.args.tokens.now c.new-rest.ensures

pub operators::predicate_rest-loop-alloc-smaller : goal.operators::predicate_rest-loop-alloc-smaller
operators::predicate_rest-loop-alloc-smaller t c =
    loop_shrinks ((rules c.args.depth).test.low refl) refl c.loop-alloc.tokens c.in_ok-test_behind.field-0 c.test_behind.new.tokens c.in_ok-test_behind.ensures

pub operators::predicate_rest-loop-alloc-preserved : goal.operators::predicate_rest-loop-alloc-preserved
operators::predicate_rest-loop-alloc-preserved t c =
    loop_goes_on PREDICATE_WORDS ((rules c.args.depth).test.low refl) refl ((predicate_more (at c.args.depth)) c.args.tokens.now) c.loop-alloc.rest c.push.new.self c.loop-alloc.tokens c.test_behind.new.tokens c.in_ok-test_behind.field-0 c.loop-alloc.invariant (sym c.at.ensures ∙ c.loop-alloc-test.true) c.in_ok-test_behind.ensures c.in_ok-push.ensures.ok

pub operators::predicate_rest-returns-in_err-test_behind : goal.operators::predicate_rest-returns-in_err-test_behind
operators::predicate_rest-returns-in_err-test_behind t c =
    turn_stops PREDICATE_WORDS (test_behind (at c.args.depth)) ((predicate_more (at c.args.depth)) c.args.tokens.now) c.loop-alloc.rest c.loop-alloc.tokens c.loop-alloc.invariant c.from_residual.result c.in_err-test_behind.field-0.0 c.test_behind.new.tokens (sym c.at.ensures ∙ c.loop-alloc-test.true) c.from_residual.ensures.1 c.in_err-test_behind.ensures

pub operators::predicate_rest-returns-in_err-push : goal.operators::predicate_rest-returns-in_err-push
operators::predicate_rest-returns-in_err-push t c =
    no_memory ((predicate_more (at c.args.depth)) c.args.tokens.now) c.from_residual-in_err-push.result c.test_behind.new.tokens c.from_residual-in_err-push.ensures.1

pub operators::predicate_rest-returns : goal.operators::predicate_rest-returns
operators::predicate_rest-returns t c =
    loop_ends PREDICATE_WORDS (test_behind (at c.args.depth)) ((predicate_more (at c.args.depth)) c.args.tokens.now) c.loop-alloc.rest c.loop-alloc.tokens c.loop-alloc.invariant (sym c.at.ensures ∙ c.loop-alloc-test.false)

pub operators::sum_rest-loop-alloc-init : goal.operators::sum_rest-loop-alloc-init
unfolding sum_more
operators::sum_rest-loop-alloc-init t c =
    loop_begins SUM_SIGNS (sum_turn (at c.args.depth)) c.new-rest.result c.args.tokens.now c.new-rest.ensures

pub operators::sum_rest-loop-alloc-smaller : goal.operators::sum_rest-loop-alloc-smaller
operators::sum_rest-loop-alloc-smaller t c =
    loop_shrinks ((rules c.args.depth).sum_turn.low refl) refl c.loop-alloc.tokens c.in_ok-sum_turn.field-0 c.sum_turn.new.tokens c.in_ok-sum_turn.ensures

pub operators::sum_rest-loop-alloc-preserved : goal.operators::sum_rest-loop-alloc-preserved
operators::sum_rest-loop-alloc-preserved t c =
    loop_goes_on SUM_SIGNS ((rules c.args.depth).sum_turn.low refl) refl ((sum_more (at c.args.depth)) c.args.tokens.now) c.loop-alloc.rest c.push.new.self c.loop-alloc.tokens c.sum_turn.new.tokens c.in_ok-sum_turn.field-0 c.loop-alloc.invariant (sym c.at.ensures ∙ c.loop-alloc-test.true) c.in_ok-sum_turn.ensures c.in_ok-push.ensures.ok

pub operators::sum_rest-returns-in_err-sum_turn : goal.operators::sum_rest-returns-in_err-sum_turn
operators::sum_rest-returns-in_err-sum_turn t c =
    turn_stops SUM_SIGNS (sum_turn (at c.args.depth)) ((sum_more (at c.args.depth)) c.args.tokens.now) c.loop-alloc.rest c.loop-alloc.tokens c.loop-alloc.invariant c.from_residual.result c.in_err-sum_turn.field-0.0 c.sum_turn.new.tokens (sym c.at.ensures ∙ c.loop-alloc-test.true) c.from_residual.ensures.1 c.in_err-sum_turn.ensures

pub operators::sum_rest-returns-in_err-push : goal.operators::sum_rest-returns-in_err-push
operators::sum_rest-returns-in_err-push t c =
    no_memory ((sum_more (at c.args.depth)) c.args.tokens.now) c.from_residual-in_err-push.result c.sum_turn.new.tokens c.from_residual-in_err-push.ensures.1

pub operators::sum_rest-returns : goal.operators::sum_rest-returns
operators::sum_rest-returns t c =
    loop_ends SUM_SIGNS (sum_turn (at c.args.depth)) ((sum_more (at c.args.depth)) c.args.tokens.now) c.loop-alloc.rest c.loop-alloc.tokens c.loop-alloc.invariant (sym c.at.ensures ∙ c.loop-alloc-test.false)

pub operators::product_rest-loop-alloc-init : goal.operators::product_rest-loop-alloc-init
unfolding product_more
operators::product_rest-loop-alloc-init t c =
    loop_begins PRODUCT_SIGNS (product_turn (at c.args.depth)) c.new-rest.result c.args.tokens.now c.new-rest.ensures

pub operators::product_rest-loop-alloc-smaller : goal.operators::product_rest-loop-alloc-smaller
operators::product_rest-loop-alloc-smaller t c =
    loop_shrinks ((rules c.args.depth).product_turn.low refl) refl c.loop-alloc.tokens c.in_ok-product_turn.field-0 c.product_turn.new.tokens c.in_ok-product_turn.ensures

pub operators::product_rest-loop-alloc-preserved : goal.operators::product_rest-loop-alloc-preserved
operators::product_rest-loop-alloc-preserved t c =
    loop_goes_on PRODUCT_SIGNS ((rules c.args.depth).product_turn.low refl) refl ((product_more (at c.args.depth)) c.args.tokens.now) c.loop-alloc.rest c.push.new.self c.loop-alloc.tokens c.product_turn.new.tokens c.in_ok-product_turn.field-0 c.loop-alloc.invariant (sym c.at.ensures ∙ c.loop-alloc-test.true) c.in_ok-product_turn.ensures c.in_ok-push.ensures.ok

pub operators::product_rest-returns-in_err-product_turn : goal.operators::product_rest-returns-in_err-product_turn
operators::product_rest-returns-in_err-product_turn t c =
    turn_stops PRODUCT_SIGNS (product_turn (at c.args.depth)) ((product_more (at c.args.depth)) c.args.tokens.now) c.loop-alloc.rest c.loop-alloc.tokens c.loop-alloc.invariant c.from_residual.result c.in_err-product_turn.field-0.0 c.product_turn.new.tokens (sym c.at.ensures ∙ c.loop-alloc-test.true) c.from_residual.ensures.1 c.in_err-product_turn.ensures

pub operators::product_rest-returns-in_err-push : goal.operators::product_rest-returns-in_err-push
operators::product_rest-returns-in_err-push t c =
    no_memory ((product_more (at c.args.depth)) c.args.tokens.now) c.from_residual-in_err-push.result c.product_turn.new.tokens c.from_residual-in_err-push.ensures.1

pub operators::product_rest-returns : goal.operators::product_rest-returns
operators::product_rest-returns t c =
    loop_ends PRODUCT_SIGNS (product_turn (at c.args.depth)) ((product_more (at c.args.depth)) c.args.tokens.now) c.loop-alloc.rest c.loop-alloc.tokens c.loop-alloc.invariant (sym c.at.ensures ∙ c.loop-alloc-test.false)

pub operators::negation-returns-then-depth-eq0 : goal.operators::negation-returns-then-depth-eq0
operators::negation-returns-then-depth-eq0 t c =
    not_shuts c.args.depth c.args.tokens.now c.if-depth-eq0.true (cc)

pub operators::negation-returns : goal.operators::negation-returns
operators::negation-returns t c =
    subst (λ o. Reads o c.negated.result c.negated.new.tokens) (sym (not_enters c.args.depth (c.args.depth - 1) c.args.tokens.now c.pass.new.self (omega arith) (cc) c.pass.ensures)) c.negated.ensures

pub operators::unary-returns-then-depth-eq0 : goal.operators::unary-returns-then-depth-eq0
operators::unary-returns-then-depth-eq0 t c =
    minus_shuts c.args.depth c.args.tokens.now c.if-depth-eq0.true (sym c.at.ensures ∙ c.if-at.true)

pub operators::unary-returns-then-at : goal.operators::unary-returns-then-at
operators::unary-returns-then-at t c =
    subst (λ o. Reads o c.negative.result c.negative.new.tokens) (sym (minus_enters c.args.depth (c.args.depth - 1) c.args.tokens.now c.pass.new.self (omega arith) (sym c.at.ensures ∙ c.if-at.true) c.pass.ensures)) c.negative.ensures

pub operators::unary-returns-then-depth-eq0-2 : goal.operators::unary-returns-then-depth-eq0-2
operators::unary-returns-then-depth-eq0-2 t c =
    plus_shuts c.args.depth c.args.tokens.now c.if-depth-eq0-2.true (sym c.at.ensures ∙ c.if-at.false) (sym c.at-2.ensures ∙ c.if-at-2.true)

pub operators::unary-returns-then-at-2 : goal.operators::unary-returns-then-at-2
operators::unary-returns-then-at-2 t c =
    subst (λ o. Reads o c.positive.result c.positive.new.tokens) (sym (plus_enters c.args.depth (c.args.depth - 1) c.args.tokens.now c.pass-then-at-2.new.self (omega arith) (sym c.at.ensures ∙ c.if-at.false) (sym c.at-2.ensures ∙ c.if-at-2.true) c.pass-then-at-2.ensures)) c.positive.ensures

pub operators::negated-returns-in_err-operand : goal.operators::negated-returns-in_err-operand
operators::negated-returns-in_err-operand t c =
    part_stops tree.Not (negation (at c.args.inside) c.args.tokens.now) c.from_residual.result c.in_err-operand.field-0.0 c.negation.new.tokens c.from_residual.ensures.1 c.in_err-operand.ensures

pub operators::negated-returns-in_err-new : goal.operators::negated-returns-in_err-new
operators::negated-returns-in_err-new t c =
    no_memory (map_out tree.Not (negation (at c.args.inside)) c.args.tokens.now) c.from_residual-in_err-new.result c.negation.new.tokens c.from_residual-in_err-new.ensures.1

pub operators::negated-returns : goal.operators::negated-returns
operators::negated-returns t c =
    part_done tree.Not (negation (at c.args.inside) c.args.tokens.now) c.in_ok-operand.operand (tree.Not c.in_ok-new.field-0) c.negation.new.tokens c.in_ok-operand.ensures (ap tree.Not c.in_ok-new.ensures)

pub operators::positive-returns-in_err-operand : goal.operators::positive-returns-in_err-operand
operators::positive-returns-in_err-operand t c =
    part_stops (tree.Sign Plus) (unary (at c.args.inside) c.args.tokens.now) c.from_residual.result c.in_err-operand.field-0.0 c.unary.new.tokens c.from_residual.ensures.1 c.in_err-operand.ensures

pub operators::positive-returns-in_err-new : goal.operators::positive-returns-in_err-new
operators::positive-returns-in_err-new t c =
    no_memory (map_out (tree.Sign Plus) (unary (at c.args.inside)) c.args.tokens.now) c.from_residual-in_err-new.result c.unary.new.tokens c.from_residual-in_err-new.ensures.1

pub operators::positive-returns : goal.operators::positive-returns
operators::positive-returns t c =
    part_done (tree.Sign Plus) (unary (at c.args.inside) c.args.tokens.now) c.in_ok-operand.operand (tree.Sign Plus c.in_ok-new.field-0) c.unary.new.tokens c.in_ok-operand.ensures (ap (tree.Sign Plus) c.in_ok-new.ensures)

pub operators::test_behind-returns-in_err-sum : goal.operators::test_behind-returns-in_err-sum
unfolding test_behind
operators::test_behind-returns-in_err-sum t c =
    subst (λ o. Reads o c.from_residual.result c.sum.new.tokens) (sym (chosen (heads (k.In ∷ []) c.args.tokens.now) (map_out test.OneOf (after (k.In ∷ []) (sum (at c.args.depth))) c.args.tokens.now) _ (sym c.at.ensures ∙ c.if-at.true))) (part_stops test.OneOf (after (k.In ∷ []) (sum (at c.args.depth)) c.args.tokens.now) c.from_residual.result c.in_err-sum.field-0.0 c.sum.new.tokens c.from_residual.ensures.1 (subst (λ o. Stopped o c.in_err-sum.field-0.0 c.sum.new.tokens) (sym (after_passed (k.In ∷ []) (sum (at c.args.depth)) c.args.tokens.now c.pass.new.self (sym c.at.ensures ∙ c.if-at.true) c.pass.ensures)) c.in_err-sum.ensures))

pub operators::test_behind-returns-then-at : goal.operators::test_behind-returns-then-at
unfolding test_behind
operators::test_behind-returns-then-at t c =
    chosen (heads (k.In ∷ []) c.args.tokens.now) (map_out test.OneOf (after (k.In ∷ []) (sum (at c.args.depth))) c.args.tokens.now) _ (sym c.at.ensures ∙ c.if-at.true) ∙ part_done test.OneOf (after (k.In ∷ []) (sum (at c.args.depth)) c.args.tokens.now) c.in_ok-sum.field-0 (test.OneOf c.in_ok-sum.field-0) c.sum.new.tokens (after_passed (k.In ∷ []) (sum (at c.args.depth)) c.args.tokens.now c.pass.new.self (sym c.at.ensures ∙ c.if-at.true) c.pass.ensures ∙ c.in_ok-sum.ensures) refl

pub operators::test_behind-returns-in_err-expect : goal.operators::test_behind-returns-in_err-expect
unfolding test_behind
operators::test_behind-returns-in_err-expect t c =
    subst (λ o. Reads o c.from_residual-in_err-expect.result c.expect.new.self) (sym (other_chosen (heads (k.In ∷ []) c.args.tokens.now) _ _ (sym c.at.ensures ∙ c.if-at.false) ∙ chosen (heads (k.Starts ∷ []) c.args.tokens.now) (map_out test.Starts (after (k.Starts ∷ []) (after (k.With ∷ []) (sum (at c.args.depth)))) c.args.tokens.now) _ (sym c.at-2.ensures ∙ c.if-at-2.true))) (part_stops test.Starts (after (k.Starts ∷ []) (after (k.With ∷ []) (sum (at c.args.depth))) c.args.tokens.now) c.from_residual-in_err-expect.result c.in_err-expect.field-0.0 c.expect.new.self c.from_residual-in_err-expect.ensures.1 (subst (λ o. Stopped o c.in_err-expect.field-0.0 c.expect.new.self) (sym (after_passed (k.Starts ∷ []) (after (k.With ∷ []) (sum (at c.args.depth))) c.args.tokens.now c.pass-then-at-2.new.self (sym c.at-2.ensures ∙ c.if-at-2.true) c.pass-then-at-2.ensures)) (first_stopped (λ p. p.1) (one (k.With ∷ [])) (sum (at c.args.depth)) c.pass-then-at-2.new.self c.in_err-expect.field-0.0 c.expect.new.self (unmet (one (k.With ∷ []) c.pass-then-at-2.new.self) c.in_err-expect.field-0.0 c.expect.new.self c.in_err-expect.ensures))))

pub operators::test_behind-returns-in_err-sum-2 : goal.operators::test_behind-returns-in_err-sum-2
unfolding test_behind
operators::test_behind-returns-in_err-sum-2 t c =
    subst (λ o. Reads o c.from_residual-in_err-sum-2.result c.sum-then-at-2.new.tokens) (sym (other_chosen (heads (k.In ∷ []) c.args.tokens.now) _ _ (sym c.at.ensures ∙ c.if-at.false) ∙ chosen (heads (k.Starts ∷ []) c.args.tokens.now) (map_out test.Starts (after (k.Starts ∷ []) (after (k.With ∷ []) (sum (at c.args.depth)))) c.args.tokens.now) _ (sym c.at-2.ensures ∙ c.if-at-2.true))) (part_stops test.Starts (after (k.Starts ∷ []) (after (k.With ∷ []) (sum (at c.args.depth))) c.args.tokens.now) c.from_residual-in_err-sum-2.result c.in_err-sum-2.field-0.0 c.sum-then-at-2.new.tokens c.from_residual-in_err-sum-2.ensures.1 (subst (λ o. Stopped o c.in_err-sum-2.field-0.0 c.sum-then-at-2.new.tokens) (sym (after_passed (k.Starts ∷ []) (after (k.With ∷ []) (sum (at c.args.depth))) c.args.tokens.now c.pass-then-at-2.new.self (sym c.at-2.ensures ∙ c.if-at-2.true) c.pass-then-at-2.ensures ∙ after_met (k.With ∷ []) (sum (at c.args.depth)) c.pass-then-at-2.new.self c.expect.new.self c.in_ok-expect.ensures)) c.in_err-sum-2.ensures))

pub operators::test_behind-returns-then-at-2 : goal.operators::test_behind-returns-then-at-2
unfolding test_behind
operators::test_behind-returns-then-at-2 t c =
    other_chosen (heads (k.In ∷ []) c.args.tokens.now) _ _ (sym c.at.ensures ∙ c.if-at.false) ∙ chosen (heads (k.Starts ∷ []) c.args.tokens.now) (map_out test.Starts (after (k.Starts ∷ []) (after (k.With ∷ []) (sum (at c.args.depth)))) c.args.tokens.now) _ (sym c.at-2.ensures ∙ c.if-at-2.true) ∙ part_done test.Starts (after (k.Starts ∷ []) (after (k.With ∷ []) (sum (at c.args.depth))) c.args.tokens.now) c.in_ok-sum-2.field-0 (test.Starts c.in_ok-sum-2.field-0) c.sum-then-at-2.new.tokens (after_passed (k.Starts ∷ []) (after (k.With ∷ []) (sum (at c.args.depth))) c.args.tokens.now c.pass-then-at-2.new.self (sym c.at-2.ensures ∙ c.if-at-2.true) c.pass-then-at-2.ensures ∙ after_met (k.With ∷ []) (sum (at c.args.depth)) c.pass-then-at-2.new.self c.expect.new.self c.in_ok-expect.ensures ∙ c.in_ok-sum-2.ensures) refl

pub operators::test_behind-returns-in_err-expect-2 : goal.operators::test_behind-returns-in_err-expect-2
unfolding test_behind
operators::test_behind-returns-in_err-expect-2 t c =
    subst (λ o. Reads o c.from_residual-in_err-expect-2.result c.expect-then-at-3.new.self) (sym (other_chosen (heads (k.In ∷ []) c.args.tokens.now) _ _ (sym c.at.ensures ∙ c.if-at.false) ∙ other_chosen (heads (k.Starts ∷ []) c.args.tokens.now) _ _ (sym c.at-2.ensures ∙ c.if-at-2.false) ∙ chosen (heads (k.Ends ∷ []) c.args.tokens.now) (map_out test.Ends (after (k.Ends ∷ []) (after (k.With ∷ []) (sum (at c.args.depth)))) c.args.tokens.now) _ (sym c.at-3.ensures ∙ c.if-at-3.true))) (part_stops test.Ends (after (k.Ends ∷ []) (after (k.With ∷ []) (sum (at c.args.depth))) c.args.tokens.now) c.from_residual-in_err-expect-2.result c.in_err-expect-2.field-0.0 c.expect-then-at-3.new.self c.from_residual-in_err-expect-2.ensures.1 (subst (λ o. Stopped o c.in_err-expect-2.field-0.0 c.expect-then-at-3.new.self) (sym (after_passed (k.Ends ∷ []) (after (k.With ∷ []) (sum (at c.args.depth))) c.args.tokens.now c.pass-then-at-3.new.self (sym c.at-3.ensures ∙ c.if-at-3.true) c.pass-then-at-3.ensures)) (first_stopped (λ p. p.1) (one (k.With ∷ [])) (sum (at c.args.depth)) c.pass-then-at-3.new.self c.in_err-expect-2.field-0.0 c.expect-then-at-3.new.self (unmet (one (k.With ∷ []) c.pass-then-at-3.new.self) c.in_err-expect-2.field-0.0 c.expect-then-at-3.new.self c.in_err-expect-2.ensures))))

pub operators::test_behind-returns-in_err-sum-3 : goal.operators::test_behind-returns-in_err-sum-3
unfolding test_behind
operators::test_behind-returns-in_err-sum-3 t c =
    subst (λ o. Reads o c.from_residual-in_err-sum-3.result c.sum-then-at-3.new.tokens) (sym (other_chosen (heads (k.In ∷ []) c.args.tokens.now) _ _ (sym c.at.ensures ∙ c.if-at.false) ∙ other_chosen (heads (k.Starts ∷ []) c.args.tokens.now) _ _ (sym c.at-2.ensures ∙ c.if-at-2.false) ∙ chosen (heads (k.Ends ∷ []) c.args.tokens.now) (map_out test.Ends (after (k.Ends ∷ []) (after (k.With ∷ []) (sum (at c.args.depth)))) c.args.tokens.now) _ (sym c.at-3.ensures ∙ c.if-at-3.true))) (part_stops test.Ends (after (k.Ends ∷ []) (after (k.With ∷ []) (sum (at c.args.depth))) c.args.tokens.now) c.from_residual-in_err-sum-3.result c.in_err-sum-3.field-0.0 c.sum-then-at-3.new.tokens c.from_residual-in_err-sum-3.ensures.1 (subst (λ o. Stopped o c.in_err-sum-3.field-0.0 c.sum-then-at-3.new.tokens) (sym (after_passed (k.Ends ∷ []) (after (k.With ∷ []) (sum (at c.args.depth))) c.args.tokens.now c.pass-then-at-3.new.self (sym c.at-3.ensures ∙ c.if-at-3.true) c.pass-then-at-3.ensures ∙ after_met (k.With ∷ []) (sum (at c.args.depth)) c.pass-then-at-3.new.self c.expect-then-at-3.new.self c.in_ok-expect-2.ensures)) c.in_err-sum-3.ensures))

pub operators::test_behind-returns-then-at-3 : goal.operators::test_behind-returns-then-at-3
unfolding test_behind
operators::test_behind-returns-then-at-3 t c =
    other_chosen (heads (k.In ∷ []) c.args.tokens.now) _ _ (sym c.at.ensures ∙ c.if-at.false) ∙ other_chosen (heads (k.Starts ∷ []) c.args.tokens.now) _ _ (sym c.at-2.ensures ∙ c.if-at-2.false) ∙ chosen (heads (k.Ends ∷ []) c.args.tokens.now) (map_out test.Ends (after (k.Ends ∷ []) (after (k.With ∷ []) (sum (at c.args.depth)))) c.args.tokens.now) _ (sym c.at-3.ensures ∙ c.if-at-3.true) ∙ part_done test.Ends (after (k.Ends ∷ []) (after (k.With ∷ []) (sum (at c.args.depth))) c.args.tokens.now) c.in_ok-sum-3.field-0 (test.Ends c.in_ok-sum-3.field-0) c.sum-then-at-3.new.tokens (after_passed (k.Ends ∷ []) (after (k.With ∷ []) (sum (at c.args.depth))) c.args.tokens.now c.pass-then-at-3.new.self (sym c.at-3.ensures ∙ c.if-at-3.true) c.pass-then-at-3.ensures ∙ after_met (k.With ∷ []) (sum (at c.args.depth)) c.pass-then-at-3.new.self c.expect-then-at-3.new.self c.in_ok-expect-2.ensures ∙ c.in_ok-sum-3.ensures) refl

pub operators::test_behind-returns-in_err-sum-4 : goal.operators::test_behind-returns-in_err-sum-4
unfolding test_behind
operators::test_behind-returns-in_err-sum-4 t c =
    subst (λ o. Reads o c.from_residual-in_err-sum-4.result c.sum-then-at-4.new.tokens) (sym (other_chosen (heads (k.In ∷ []) c.args.tokens.now) _ _ (sym c.at.ensures ∙ c.if-at.false) ∙ other_chosen (heads (k.Starts ∷ []) c.args.tokens.now) _ _ (sym c.at-2.ensures ∙ c.if-at-2.false) ∙ other_chosen (heads (k.Ends ∷ []) c.args.tokens.now) _ _ (sym c.at-3.ensures ∙ c.if-at-3.false) ∙ chosen (heads (k.Contains ∷ []) c.args.tokens.now) (map_out test.Contains (after (k.Contains ∷ []) (sum (at c.args.depth))) c.args.tokens.now) _ (sym c.at-4.ensures ∙ c.if-at-4.true))) (part_stops test.Contains (after (k.Contains ∷ []) (sum (at c.args.depth)) c.args.tokens.now) c.from_residual-in_err-sum-4.result c.in_err-sum-4.field-0.0 c.sum-then-at-4.new.tokens c.from_residual-in_err-sum-4.ensures.1 (subst (λ o. Stopped o c.in_err-sum-4.field-0.0 c.sum-then-at-4.new.tokens) (sym (after_passed (k.Contains ∷ []) (sum (at c.args.depth)) c.args.tokens.now c.pass-then-at-4.new.self (sym c.at-4.ensures ∙ c.if-at-4.true) c.pass-then-at-4.ensures)) c.in_err-sum-4.ensures))

pub operators::test_behind-returns-then-at-4 : goal.operators::test_behind-returns-then-at-4
unfolding test_behind
operators::test_behind-returns-then-at-4 t c =
    other_chosen (heads (k.In ∷ []) c.args.tokens.now) _ _ (sym c.at.ensures ∙ c.if-at.false) ∙ other_chosen (heads (k.Starts ∷ []) c.args.tokens.now) _ _ (sym c.at-2.ensures ∙ c.if-at-2.false) ∙ other_chosen (heads (k.Ends ∷ []) c.args.tokens.now) _ _ (sym c.at-3.ensures ∙ c.if-at-3.false) ∙ chosen (heads (k.Contains ∷ []) c.args.tokens.now) (map_out test.Contains (after (k.Contains ∷ []) (sum (at c.args.depth))) c.args.tokens.now) _ (sym c.at-4.ensures ∙ c.if-at-4.true) ∙ part_done test.Contains (after (k.Contains ∷ []) (sum (at c.args.depth)) c.args.tokens.now) c.in_ok-sum-4.field-0 (test.Contains c.in_ok-sum-4.field-0) c.sum-then-at-4.new.tokens (after_passed (k.Contains ∷ []) (sum (at c.args.depth)) c.args.tokens.now c.pass-then-at-4.new.self (sym c.at-4.ensures ∙ c.if-at-4.true) c.pass-then-at-4.ensures ∙ c.in_ok-sum-4.ensures) refl

pub operators::test_behind-returns : goal.operators::test_behind-returns
unfolding test_behind
operators::test_behind-returns t c =
    subst (λ o. Reads o c.null_test.result c.null_test.new.tokens) (sym (other_chosen (heads (k.In ∷ []) c.args.tokens.now) _ _ (sym c.at.ensures ∙ c.if-at.false) ∙ other_chosen (heads (k.Starts ∷ []) c.args.tokens.now) _ _ (sym c.at-2.ensures ∙ c.if-at-2.false) ∙ other_chosen (heads (k.Ends ∷ []) c.args.tokens.now) _ _ (sym c.at-3.ensures ∙ c.if-at-3.false) ∙ other_chosen (heads (k.Contains ∷ []) c.args.tokens.now) _ _ (sym c.at-4.ensures ∙ c.if-at-4.false))) c.null_test.ensures

pub operators::unary-returns : goal.operators::unary-returns
unfolding unary
operators::unary-returns t c =
    subst (λ o. Reads o c.post.result c.post.new.tokens) (sym (other_chosen (heads (k.Minus ∷ []) c.args.tokens.now) _ _ (sym c.at.ensures ∙ c.if-at.false) ∙ other_chosen (heads (k.Plus ∷ []) c.args.tokens.now) _ _ (sym c.at-2.ensures ∙ c.if-at-2.false))) c.post.ensures

pub operators::negative-returns-in_err-operand : goal.operators::negative-returns-in_err-operand
unfolding behind_minus
operators::negative-returns-in_err-operand t c =
    subst (λ o. Reads o c.from_residual.result c.unary.new.tokens) (sym (other_chosen (heads (k.LeastMagnitude ∷ []) c.args.tokens.now) _ (map_out (tree.Sign Minus) (unary (at c.args.inside)) c.args.tokens.now) (sym c.at.ensures ∙ c.if-at.false))) (part_stops (tree.Sign Minus) (unary (at c.args.inside) c.args.tokens.now) c.from_residual.result c.in_err-operand.field-0.0 c.unary.new.tokens c.from_residual.ensures.1 c.in_err-operand.ensures)

pub operators::negative-returns-in_err-new : goal.operators::negative-returns-in_err-new
operators::negative-returns-in_err-new t c =
    no_memory (behind_minus (unary (at c.args.inside)) c.args.tokens.now) c.from_residual-in_err-new.result c.unary.new.tokens c.from_residual-in_err-new.ensures.1

pub operators::negative-returns : goal.operators::negative-returns
unfolding behind_minus
operators::negative-returns t c =
    other_chosen (heads (k.LeastMagnitude ∷ []) c.args.tokens.now) _ (map_out (tree.Sign Minus) (unary (at c.args.inside)) c.args.tokens.now) (sym c.at.ensures ∙ c.if-at.false) ∙ part_done (tree.Sign Minus) (unary (at c.args.inside) c.args.tokens.now) c.in_ok-operand.operand (tree.Sign Minus c.in_ok-new.field-0) c.unary.new.tokens c.in_ok-operand.ensures (ap (tree.Sign Minus) c.in_ok-new.ensures)

pub operands::turn-returns-in_err-step : goal.operands::turn-returns-in_err-step
unfolding turn
operands::turn-returns-in_err-step t c =
    first_stops (λ p. p.0 ∷ p.1) (next (at c.args.depth)) tests c.args.tokens.now c.from_residual.result c.in_err-step.field-0.0 c.step.new.tokens c.from_residual.ensures.1 c.in_err-step.ensures

pub operands::turn-returns : goal.operands::turn-returns
unfolding turn
operands::turn-returns t c =
    both_made (λ p. p.0 ∷ p.1) (next (at c.args.depth)) tests c.args.tokens.now c.in_ok-step.step c.step.new.tokens c.tests-tests.new.tokens c.tests-tests.result c.put_first.result c.in_ok-step.ensures c.tests-tests.ensures c.put_first.ensures

pub operands::list-returns-in_err-first : goal.operands::list-returns-in_err-first
unfolding list list_more
operands::list-returns-in_err-first t c =
    first_stops (λ p. p.0 ∷ p.1) (disjunction (at c.args.depth)) (list_more (disjunction (at c.args.depth))) c.args.tokens.now c.from_residual.result c.in_err-first.field-0.0 c.disjunction.new.tokens c.from_residual.ensures.1 c.in_err-first.ensures

pub operands::list-returns : goal.operands::list-returns
unfolding list list_more
operands::list-returns t c =
    both_made (λ p. p.0 ∷ p.1) (disjunction (at c.args.depth)) (list_more (disjunction (at c.args.depth))) c.args.tokens.now c.in_ok-first.first c.disjunction.new.tokens c.list_rest-rest.new.tokens c.list_rest-rest.result c.put_first.result c.in_ok-first.ensures c.list_rest-rest.ensures c.put_first.ensures

pub operands::whens-returns-in_err-first : goal.operands::whens-returns-in_err-first
unfolding whens whens_more
operands::whens-returns-in_err-first t c =
    first_stops (λ p. p.0 ∷ p.1) (when (disjunction (at c.args.inside))) (whens_more (disjunction (at c.args.inside))) c.args.tokens.now c.from_residual.result c.in_err-first.field-0.0 c.when.new.tokens c.from_residual.ensures.1 c.in_err-first.ensures

pub operands::whens-returns : goal.operands::whens-returns
unfolding whens whens_more
operands::whens-returns t c =
    both_made (λ p. p.0 ∷ p.1) (when (disjunction (at c.args.inside))) (whens_more (disjunction (at c.args.inside))) c.args.tokens.now c.in_ok-first.first c.when.new.tokens c.whens_rest-rest.new.tokens c.whens_rest-rest.result c.put_first.result c.in_ok-first.ensures c.whens_rest-rest.ensures c.put_first.ensures

pub operands::post-returns-in_err-of : goal.operands::post-returns-in_err-of
unfolding post
operands::post-returns-in_err-of t c =
    first_stops posted (atom (at c.args.depth)) (seq tests (many STEP_SIGNS (turn (at c.args.depth)))) c.args.tokens.now c.from_residual.result c.in_err-of.field-0.0 c.atom.new.tokens c.from_residual.ensures.1 c.in_err-of.ensures

pub operands::post-returns : goal.operands::post-returns
operands::post-returns t c =
    stepped_atom (at c.args.depth) c.args.tokens.now c.atom.new.tokens c.steps-steps.new.tokens c.in_ok-of.of c.steps-steps.result c.stepped.result c.in_ok-of.ensures c.steps-steps.ensures c.stepped.ensures

pub operands::list_rest-loop-alloc-init : goal.operands::list_rest-loop-alloc-init
unfolding list_more
operands::list_rest-loop-alloc-init t c =
    loop_begins (k.Comma ∷ []) (after (k.Comma ∷ []) (disjunction (at c.args.depth))) c.new-rest.result c.args.tokens.now c.new-rest.ensures

pub operands::list_rest-loop-alloc-smaller : goal.operands::list_rest-loop-alloc-smaller
operands::list_rest-loop-alloc-smaller t c =
    loop_shrinks ((tied_after k.Comma [] (rules c.args.depth).or).low refl) refl c.loop-alloc.tokens c.in_ok-disjunction.field-0 c.disjunction.new.tokens (after_passed (k.Comma ∷ []) (disjunction (at c.args.depth)) c.loop-alloc.tokens c.pass.new.self (sym c.at.ensures ∙ c.loop-alloc-test.true) c.pass.ensures ∙ c.in_ok-disjunction.ensures)

pub operands::list_rest-loop-alloc-preserved : goal.operands::list_rest-loop-alloc-preserved
operands::list_rest-loop-alloc-preserved t c =
    loop_goes_on (k.Comma ∷ []) ((tied_after k.Comma [] (rules c.args.depth).or).low refl) refl ((list_more (disjunction (at c.args.depth))) c.args.tokens.now) c.loop-alloc.rest c.push.new.self c.loop-alloc.tokens c.disjunction.new.tokens c.in_ok-disjunction.field-0 c.loop-alloc.invariant (sym c.at.ensures ∙ c.loop-alloc-test.true) (after_passed (k.Comma ∷ []) (disjunction (at c.args.depth)) c.loop-alloc.tokens c.pass.new.self (sym c.at.ensures ∙ c.loop-alloc-test.true) c.pass.ensures ∙ c.in_ok-disjunction.ensures) c.in_ok-push.ensures.ok

pub operands::list_rest-returns-in_err-disjunction : goal.operands::list_rest-returns-in_err-disjunction
operands::list_rest-returns-in_err-disjunction t c =
    turn_stops (k.Comma ∷ []) (after (k.Comma ∷ []) (disjunction (at c.args.depth))) ((list_more (disjunction (at c.args.depth))) c.args.tokens.now) c.loop-alloc.rest c.loop-alloc.tokens c.loop-alloc.invariant c.from_residual.result c.in_err-disjunction.field-0.0 c.disjunction.new.tokens (sym c.at.ensures ∙ c.loop-alloc-test.true) c.from_residual.ensures.1 (subst (λ o. Stopped o c.in_err-disjunction.field-0.0 c.disjunction.new.tokens) (sym (after_passed (k.Comma ∷ []) (disjunction (at c.args.depth)) c.loop-alloc.tokens c.pass.new.self (sym c.at.ensures ∙ c.loop-alloc-test.true) c.pass.ensures)) c.in_err-disjunction.ensures)

pub operands::list_rest-returns-in_err-push : goal.operands::list_rest-returns-in_err-push
operands::list_rest-returns-in_err-push t c =
    no_memory ((list_more (disjunction (at c.args.depth))) c.args.tokens.now) c.from_residual-in_err-push.result c.disjunction.new.tokens c.from_residual-in_err-push.ensures.1

pub operands::list_rest-returns : goal.operands::list_rest-returns
operands::list_rest-returns t c =
    loop_ends (k.Comma ∷ []) (after (k.Comma ∷ []) (disjunction (at c.args.depth))) ((list_more (disjunction (at c.args.depth))) c.args.tokens.now) c.loop-alloc.rest c.loop-alloc.tokens c.loop-alloc.invariant (sym c.at.ensures ∙ c.loop-alloc-test.false)

pub operands::whens_rest-loop-alloc-init : goal.operands::whens_rest-loop-alloc-init
unfolding whens_more
operands::whens_rest-loop-alloc-init t c =
    loop_begins (k.When ∷ []) (when (disjunction (at c.args.inside))) c.new-rest.result c.args.tokens.now c.new-rest.ensures

pub operands::whens_rest-loop-alloc-smaller : goal.operands::whens_rest-loop-alloc-smaller
operands::whens_rest-loop-alloc-smaller t c =
    loop_shrinks ((when_at c.args.inside).low refl) refl c.loop-alloc.tokens c.in_ok-when.field-0 c.when.new.tokens c.in_ok-when.ensures

pub operands::whens_rest-loop-alloc-preserved : goal.operands::whens_rest-loop-alloc-preserved
operands::whens_rest-loop-alloc-preserved t c =
    loop_goes_on (k.When ∷ []) ((when_at c.args.inside).low refl) refl ((whens_more (disjunction (at c.args.inside))) c.args.tokens.now) c.loop-alloc.rest c.push.new.self c.loop-alloc.tokens c.when.new.tokens c.in_ok-when.field-0 c.loop-alloc.invariant (sym c.at.ensures ∙ c.loop-alloc-test.true) c.in_ok-when.ensures c.in_ok-push.ensures.ok

pub operands::whens_rest-returns-in_err-when : goal.operands::whens_rest-returns-in_err-when
operands::whens_rest-returns-in_err-when t c =
    turn_stops (k.When ∷ []) (when (disjunction (at c.args.inside))) ((whens_more (disjunction (at c.args.inside))) c.args.tokens.now) c.loop-alloc.rest c.loop-alloc.tokens c.loop-alloc.invariant c.from_residual.result c.in_err-when.field-0.0 c.when.new.tokens (sym c.at.ensures ∙ c.loop-alloc-test.true) c.from_residual.ensures.1 c.in_err-when.ensures

pub operands::whens_rest-returns-in_err-push : goal.operands::whens_rest-returns-in_err-push
operands::whens_rest-returns-in_err-push t c =
    no_memory ((whens_more (disjunction (at c.args.inside))) c.args.tokens.now) c.from_residual-in_err-push.result c.when.new.tokens c.from_residual-in_err-push.ensures.1

pub operands::whens_rest-returns : goal.operands::whens_rest-returns
operands::whens_rest-returns t c =
    loop_ends (k.When ∷ []) (when (disjunction (at c.args.inside))) ((whens_more (disjunction (at c.args.inside))) c.args.tokens.now) c.loop-alloc.rest c.loop-alloc.tokens c.loop-alloc.invariant (sym c.at.ensures ∙ c.loop-alloc-test.false)

pub operands::steps-loop-alloc-init : goal.operands::steps-loop-alloc-init
unfolding steps
operands::steps-loop-alloc-init t c =
    flat_begins STEP_SIGNS (turn (at c.args.depth)) tests c.args.tokens.now c.tests.new.tokens c.in_ok-steps.steps c.in_ok-steps.ensures

pub operands::steps-loop-alloc-smaller : goal.operands::steps-loop-alloc-smaller
operands::steps-loop-alloc-smaller t c =
    loop_shrinks ((rules c.args.depth).turn.low refl) refl c.loop-alloc.tokens c.in_ok-turn.field-0 c.turn.new.tokens c.in_ok-turn.ensures

pub operands::steps-loop-alloc-preserved : goal.operands::steps-loop-alloc-preserved
operands::steps-loop-alloc-preserved t c =
    flat_goes_on STEP_SIGNS ((rules c.args.depth).turn.low refl) refl (steps (at c.args.depth) c.args.tokens.now) c.loop-alloc.steps c.append.new.self c.loop-alloc.tokens c.turn.new.tokens c.in_ok-turn.field-0 c.loop-alloc.invariant (sym c.at.ensures ∙ c.loop-alloc-test.true) c.in_ok-turn.ensures c.in_ok-append.ensures

pub operands::step-returns-then-depth-eq0 : goal.operands::step-returns-then-depth-eq0
operands::step-returns-then-depth-eq0 t c =
    element_shuts c.args.depth c.args.tokens.now c.if-depth-eq0.true (sym c.at.ensures ∙ c.if-at.true)

pub operands::step-returns-then-at : goal.operands::step-returns-then-at
operands::step-returns-then-at t c =
    subst (λ o. Reads o c.element.result c.element.new.tokens) (sym (element_enters c.args.depth (c.args.depth - 1) c.args.tokens.now c.pass.new.self (omega arith) (sym c.at.ensures ∙ c.if-at.true) c.pass.ensures)) c.element.ensures

pub operands::atom-returns-then-depth-eq0 : goal.operands::atom-returns-then-depth-eq0
operands::atom-returns-then-depth-eq0 t c =
    paren_shuts c.args.depth c.args.tokens.now c.if-depth-eq0.true (sym c.at.ensures ∙ c.if-at.true)

pub operands::atom-returns-then-at : goal.operands::atom-returns-then-at
operands::atom-returns-then-at t c =
    subst (λ o. Reads o c.parens.result c.parens.new.tokens) (sym (paren_enters c.args.depth (c.args.depth - 1) c.args.tokens.now c.pass.new.self (omega arith) (sym c.at.ensures ∙ c.if-at.true) c.pass.ensures)) c.parens.ensures

pub operands::atom-returns-then-depth-eq0-2 : goal.operands::atom-returns-then-depth-eq0-2
operands::atom-returns-then-depth-eq0-2 t c =
    list_shuts c.args.depth c.args.tokens.now c.if-depth-eq0-2.true (sym c.at.ensures ∙ c.if-at.false) (sym c.at-2.ensures ∙ c.if-at-2.true)

pub operands::atom-returns-then-at-2 : goal.operands::atom-returns-then-at-2
operands::atom-returns-then-at-2 t c =
    subst (λ o. Reads o c.brackets.result c.brackets.new.tokens) (sym (list_enters c.args.depth (c.args.depth - 1) c.args.tokens.now c.pass-then-at-2.new.self (omega arith) (sym c.at.ensures ∙ c.if-at.false) (sym c.at-2.ensures ∙ c.if-at-2.true) c.pass-then-at-2.ensures)) c.brackets.ensures

pub operands::atom-returns-then-depth-eq0-3 : goal.operands::atom-returns-then-depth-eq0-3
operands::atom-returns-then-depth-eq0-3 t c =
    case_shuts c.args.depth c.args.tokens.now c.if-depth-eq0-3.true (sym c.at.ensures ∙ c.if-at.false) (sym c.at-2.ensures ∙ c.if-at-2.false) (sym c.at-3.ensures ∙ c.if-at-3.true)

pub operands::atom-returns-then-at-3 : goal.operands::atom-returns-then-at-3
operands::atom-returns-then-at-3 t c =
    subst (λ o. Reads o c.cases.result c.cases.new.tokens) (sym (case_enters c.args.depth (c.args.depth - 1) c.args.tokens.now c.pass-then-at-3.new.self (omega arith) (sym c.at.ensures ∙ c.if-at.false) (sym c.at-2.ensures ∙ c.if-at-2.false) (sym c.at-3.ensures ∙ c.if-at-3.true) c.pass-then-at-3.ensures)) c.cases.ensures

pub operands::parens-returns-in_err-inner : goal.operands::parens-returns-in_err-inner
operands::parens-returns-in_err-inner t c =
    first_stops (λ p. p.0) (disjunction (at c.args.inside)) (one (k.RightParen ∷ [])) c.args.tokens.now c.from_residual.result c.in_err-inner.field-0.0 c.disjunction.new.tokens c.from_residual.ensures.1 c.in_err-inner.ensures

pub operands::parens-returns : goal.operands::parens-returns
operands::parens-returns t c =
    behind (λ p. p.0) (disjunction (at c.args.inside)) (one (k.RightParen ∷ [])) c.args.tokens.now c.in_ok-inner.inner c.disjunction.new.tokens c.in_ok-inner.ensures (λ o. Reads o c.closed.result c.closed.new.tokens) c.closed.ensures

pub operands::element-returns-in_err-at : goal.operands::element-returns-in_err-at
operands::element-returns-in_err-at t c =
    part_stops step.At (before (disjunction (at c.args.inside)) (k.RightBracket ∷ []) c.args.tokens.now) c.from_residual.result c.in_err-at.field-0.0 c.disjunction.new.tokens c.from_residual.ensures.1 (first_stopped (λ p. p.0) (disjunction (at c.args.inside)) (one (k.RightBracket ∷ [])) c.args.tokens.now c.in_err-at.field-0.0 c.disjunction.new.tokens c.in_err-at.ensures)

pub operands::element-returns-in_err-closed : goal.operands::element-returns-in_err-closed
operands::element-returns-in_err-closed t c =
    part_stops step.At (before (disjunction (at c.args.inside)) (k.RightBracket ∷ []) c.args.tokens.now) c.from_residual-in_err-closed.result c.in_err-closed.field-0.0 c.closed.new.tokens c.from_residual-in_err-closed.ensures.1 (behind (λ p. p.0) (disjunction (at c.args.inside)) (one (k.RightBracket ∷ [])) c.args.tokens.now c.in_ok-at.at c.disjunction.new.tokens c.in_ok-at.ensures (λ o. Stopped o c.in_err-closed.field-0.0 c.closed.new.tokens) c.in_err-closed.ensures)

pub operands::element-returns : goal.operands::element-returns
operands::element-returns t c =
    part_done step.At (before (disjunction (at c.args.inside)) (k.RightBracket ∷ []) c.args.tokens.now) c.in_ok-closed.field-0 (step.At c.in_ok-closed.field-0) c.closed.new.tokens (behind (λ p. p.0) (disjunction (at c.args.inside)) (one (k.RightBracket ∷ [])) c.args.tokens.now c.in_ok-at.at c.disjunction.new.tokens c.in_ok-at.ensures (λ o. o ≡ Done c.in_ok-closed.field-0 c.closed.new.tokens) c.in_ok-closed.ensures) refl

pub operands::brackets-returns-in_err-elements : goal.operands::brackets-returns-in_err-elements
operands::brackets-returns-in_err-elements t c =
    part_stops tree.List (elements (disjunction (at c.args.inside)) c.args.tokens.now) c.from_residual.result c.in_err-elements.field-0.0 c.elements.new.tokens c.from_residual.ensures.1 c.in_err-elements.ensures

pub operands::brackets-returns : goal.operands::brackets-returns
operands::brackets-returns t c =
    part_done tree.List (elements (disjunction (at c.args.inside)) c.args.tokens.now) c.in_ok-elements.field-0 (tree.List c.in_ok-elements.field-0) c.elements.new.tokens c.in_ok-elements.ensures refl

pub operands::elements-returns-then-at : goal.operands::elements-returns-then-at
unfolding elements
operands::elements-returns-then-at t c =
    let t = passes (k.RightBracket ∷ []) c.args.tokens.now c.pass.new.self (sym c.at.ensures ∙ c.if-at.true) c.pass.ensures in behind (λ p. p.0) (unless (k.RightBracket ∷ []) [] (list (disjunction (at c.args.inside)))) (one (k.RightBracket ∷ [])) c.args.tokens.now [] c.args.tokens.now (chosen (heads (k.RightBracket ∷ []) c.args.tokens.now) (Done [] c.args.tokens.now) (list (disjunction (at c.args.inside)) c.args.tokens.now) (sym c.at.ensures ∙ c.if-at.true)) (λ o. o ≡ Done c.new.result c.pass.new.self) (part_done (λ t. []) (one (k.RightBracket ∷ []) c.args.tokens.now) t.0 c.new.result c.pass.new.self t.1 c.new.ensures)

pub operands::elements-returns-in_err-items : goal.operands::elements-returns-in_err-items
unfolding elements
operands::elements-returns-in_err-items t c =
    first_stops (λ p. p.0) (unless (k.RightBracket ∷ []) [] (list (disjunction (at c.args.inside)))) (one (k.RightBracket ∷ [])) c.args.tokens.now c.from_residual.result c.in_err-items.field-0.0 c.list.new.tokens c.from_residual.ensures.1 (subst (λ o. Stopped o c.in_err-items.field-0.0 c.list.new.tokens) (sym (other_chosen (heads (k.RightBracket ∷ []) c.args.tokens.now) (Done [] c.args.tokens.now) (list (disjunction (at c.args.inside)) c.args.tokens.now) (sym c.at.ensures ∙ c.if-at.false))) c.in_err-items.ensures)

pub operands::elements-returns : goal.operands::elements-returns
unfolding elements
operands::elements-returns t c =
    behind (λ p. p.0) (unless (k.RightBracket ∷ []) [] (list (disjunction (at c.args.inside)))) (one (k.RightBracket ∷ [])) c.args.tokens.now c.in_ok-items.items c.list.new.tokens (other_chosen (heads (k.RightBracket ∷ []) c.args.tokens.now) (Done [] c.args.tokens.now) (list (disjunction (at c.args.inside)) c.args.tokens.now) (sym c.at.ensures ∙ c.if-at.false) ∙ c.in_ok-items.ensures) (λ o. Reads o c.closed.result c.closed.new.tokens) c.closed.ensures

pub operands::then-returns-in_err-expect : goal.operands::then-returns-in_err-expect
operands::then-returns-in_err-expect t c =
    first_stops (λ p. p.1) (one (k.Then ∷ [])) (disjunction (at c.args.inside)) c.args.tokens.now c.from_residual.result c.in_err-expect.field-0.0 c.expect.new.self c.from_residual.ensures.1 (unmet (one (k.Then ∷ []) c.args.tokens.now) c.in_err-expect.field-0.0 c.expect.new.self c.in_err-expect.ensures)

pub operands::then-returns : goal.operands::then-returns
operands::then-returns t c =
    subst (λ o. Reads o c.disjunction.result c.disjunction.new.tokens) (sym (after_met (k.Then ∷ []) (disjunction (at c.args.inside)) c.args.tokens.now c.expect.new.self c.in_ok-expect.ensures)) c.disjunction.ensures

pub operands::when-returns-in_err-expect : goal.operands::when-returns-in_err-expect
unfolding when
operands::when-returns-in_err-expect t c =
    subst (λ o. Reads o c.from_residual.result c.expect.new.self) (plain (seq (after (k.When ∷ []) (disjunction (at c.args.inside))) (after (k.Then ∷ []) (disjunction (at c.args.inside))) c.args.tokens.now)) (first_stops (λ x. x) (after (k.When ∷ []) (disjunction (at c.args.inside))) (after (k.Then ∷ []) (disjunction (at c.args.inside))) c.args.tokens.now c.from_residual.result c.in_err-expect.field-0.0 c.expect.new.self c.from_residual.ensures.1 (first_stopped (λ p. p.1) (one (k.When ∷ [])) (disjunction (at c.args.inside)) c.args.tokens.now c.in_err-expect.field-0.0 c.expect.new.self (unmet (one (k.When ∷ []) c.args.tokens.now) c.in_err-expect.field-0.0 c.expect.new.self c.in_err-expect.ensures)))

pub operands::when-returns-in_err-condition : goal.operands::when-returns-in_err-condition
unfolding when
operands::when-returns-in_err-condition t c =
    subst (λ o. Reads o c.from_residual-in_err-condition.result c.disjunction.new.tokens) (plain (seq (after (k.When ∷ []) (disjunction (at c.args.inside))) (after (k.Then ∷ []) (disjunction (at c.args.inside))) c.args.tokens.now)) (first_stops (λ x. x) (after (k.When ∷ []) (disjunction (at c.args.inside))) (after (k.Then ∷ []) (disjunction (at c.args.inside))) c.args.tokens.now c.from_residual-in_err-condition.result c.in_err-condition.field-0.0 c.disjunction.new.tokens c.from_residual-in_err-condition.ensures.1 (subst (λ o. Stopped o c.in_err-condition.field-0.0 c.disjunction.new.tokens) (sym (after_met (k.When ∷ []) (disjunction (at c.args.inside)) c.args.tokens.now c.expect.new.self c.in_ok-expect.ensures)) c.in_err-condition.ensures))

pub operands::when-returns : goal.operands::when-returns
unfolding when
operands::when-returns t c =
    subst (λ o. Reads o c.paired.result c.then-value.new.tokens) (plain (seq (after (k.When ∷ []) (disjunction (at c.args.inside))) (after (k.Then ∷ []) (disjunction (at c.args.inside))) c.args.tokens.now)) (both_made (λ x. x) (after (k.When ∷ []) (disjunction (at c.args.inside))) (after (k.Then ∷ []) (disjunction (at c.args.inside))) c.args.tokens.now c.in_ok-condition.condition c.disjunction.new.tokens c.then-value.new.tokens c.then-value.result c.paired.result (after_met (k.When ∷ []) (disjunction (at c.args.inside)) c.args.tokens.now c.expect.new.self c.in_ok-expect.ensures ∙ c.in_ok-condition.ensures) c.then-value.ensures c.paired.ensures)

pub operands::steps-returns-in_err-steps : goal.operands::steps-returns-in_err-steps
unfolding steps
operands::steps-returns-in_err-steps t c =
    first_stops (λ p. p.0 ++ flat p.1) tests (many STEP_SIGNS (turn (at c.args.depth))) c.args.tokens.now c.from_residual.result c.in_err-steps.field-0.0 c.tests.new.tokens c.from_residual.ensures.1 c.in_err-steps.ensures

pub operands::atom-returns-in_err-plain_name : goal.operands::atom-returns-in_err-plain_name
unfolding atom
operands::atom-returns-in_err-plain_name t c =
    subst (λ o. Reads o c.from_residual.result c.plain_name.new.self) (sym (other_chosen (heads (k.LeftParen ∷ []) c.args.tokens.now) _ _ (sym c.at.ensures ∙ c.if-at.false) ∙ other_chosen (heads (k.LeftBracket ∷ []) c.args.tokens.now) _ _ (sym c.at-2.ensures ∙ c.if-at-2.false) ∙ other_chosen (heads (k.Case ∷ []) c.args.tokens.now) _ _ (sym c.at-3.ensures ∙ c.if-at-3.false) ∙ chosen (heads PLAIN_NAMES c.args.tokens.now) (map_out tree.Var (valued PLAIN_NAMES name_of) c.args.tokens.now) _ (sym c.at-4.ensures ∙ c.if-at-4.true))) (part_stops tree.Var (valued PLAIN_NAMES name_of c.args.tokens.now) c.from_residual.result c.in_err-plain_name.field-0.0 c.plain_name.new.self c.from_residual.ensures.1 c.in_err-plain_name.ensures)

pub operands::atom-returns-then-at-4 : goal.operands::atom-returns-then-at-4
unfolding atom
operands::atom-returns-then-at-4 t c =
    other_chosen (heads (k.LeftParen ∷ []) c.args.tokens.now) _ _ (sym c.at.ensures ∙ c.if-at.false) ∙ other_chosen (heads (k.LeftBracket ∷ []) c.args.tokens.now) _ _ (sym c.at-2.ensures ∙ c.if-at-2.false) ∙ other_chosen (heads (k.Case ∷ []) c.args.tokens.now) _ _ (sym c.at-3.ensures ∙ c.if-at-3.false) ∙ chosen (heads PLAIN_NAMES c.args.tokens.now) (map_out tree.Var (valued PLAIN_NAMES name_of) c.args.tokens.now) _ (sym c.at-4.ensures ∙ c.if-at-4.true) ∙ part_done tree.Var (valued PLAIN_NAMES name_of c.args.tokens.now) c.in_ok-plain_name.field-0 (tree.Var c.in_ok-plain_name.field-0) c.plain_name.new.self c.in_ok-plain_name.ensures refl

pub operands::atom-returns-then-at-5 : goal.operands::atom-returns-then-at-5
unfolding atom
operands::atom-returns-then-at-5 t c =
    subst (λ o. Reads o c.literal.result c.literal.new.tokens) (sym (other_chosen (heads (k.LeftParen ∷ []) c.args.tokens.now) _ _ (sym c.at.ensures ∙ c.if-at.false) ∙ other_chosen (heads (k.LeftBracket ∷ []) c.args.tokens.now) _ _ (sym c.at-2.ensures ∙ c.if-at-2.false) ∙ other_chosen (heads (k.Case ∷ []) c.args.tokens.now) _ _ (sym c.at-3.ensures ∙ c.if-at-3.false) ∙ other_chosen (heads PLAIN_NAMES c.args.tokens.now) _ _ (sym c.at-4.ensures ∙ c.if-at-4.false) ∙ chosen (heads LITERALS c.args.tokens.now) (literal c.args.tokens.now) _ (sym c.at-5.ensures ∙ c.if-at-5.true))) c.literal.ensures

pub operands::atom-returns : goal.operands::atom-returns
unfolding atom
operands::atom-returns t c =
    subst (λ o. Reads o c.call.result c.call.new.tokens) (sym (other_chosen (heads (k.LeftParen ∷ []) c.args.tokens.now) _ _ (sym c.at.ensures ∙ c.if-at.false) ∙ other_chosen (heads (k.LeftBracket ∷ []) c.args.tokens.now) _ _ (sym c.at-2.ensures ∙ c.if-at-2.false) ∙ other_chosen (heads (k.Case ∷ []) c.args.tokens.now) _ _ (sym c.at-3.ensures ∙ c.if-at-3.false) ∙ other_chosen (heads PLAIN_NAMES c.args.tokens.now) _ _ (sym c.at-4.ensures ∙ c.if-at-4.false) ∙ other_chosen (heads LITERALS c.args.tokens.now) _ _ (sym c.at-5.ensures ∙ c.if-at-5.false))) c.call.ensures

pub operands::step-returns-in_err-expect : goal.operands::step-returns-in_err-expect
unfolding next
operands::step-returns-in_err-expect t c =
    subst (λ o. Reads o c.from_residual.result c.expect.new.self) (sym (other_chosen (heads (k.LeftBracket ∷ []) c.args.tokens.now) _ (map_out step.Prop (after (k.Point ∷ []) schema) c.args.tokens.now) (sym c.at.ensures ∙ c.if-at.false))) (part_stops step.Prop (after (k.Point ∷ []) schema c.args.tokens.now) c.from_residual.result c.in_err-expect.field-0.0 c.expect.new.self c.from_residual.ensures.1 (first_stopped (λ p. p.1) (one (k.Point ∷ [])) schema c.args.tokens.now c.in_err-expect.field-0.0 c.expect.new.self (unmet (one (k.Point ∷ []) c.args.tokens.now) c.in_err-expect.field-0.0 c.expect.new.self c.in_err-expect.ensures)))

pub operands::step-returns-in_err-schema_name : goal.operands::step-returns-in_err-schema_name
unfolding next
operands::step-returns-in_err-schema_name t c =
    subst (λ o. Reads o c.from_residual-in_err-schema_name.result c.schema_name.new.self) (sym (other_chosen (heads (k.LeftBracket ∷ []) c.args.tokens.now) _ (map_out step.Prop (after (k.Point ∷ []) schema) c.args.tokens.now) (sym c.at.ensures ∙ c.if-at.false))) (part_stops step.Prop (after (k.Point ∷ []) schema c.args.tokens.now) c.from_residual-in_err-schema_name.result c.in_err-schema_name.field-0.0 c.schema_name.new.self c.from_residual-in_err-schema_name.ensures.1 (subst (λ o. Stopped o c.in_err-schema_name.field-0.0 c.schema_name.new.self) (sym (after_met (k.Point ∷ []) schema c.args.tokens.now c.expect.new.self c.in_ok-expect.ensures)) c.in_err-schema_name.ensures))

pub operands::step-returns : goal.operands::step-returns
unfolding next
operands::step-returns t c =
    other_chosen (heads (k.LeftBracket ∷ []) c.args.tokens.now) _ (map_out step.Prop (after (k.Point ∷ []) schema) c.args.tokens.now) (sym c.at.ensures ∙ c.if-at.false) ∙ part_done step.Prop (after (k.Point ∷ []) schema c.args.tokens.now) c.in_ok-schema_name.field-0 (step.Prop c.in_ok-schema_name.field-0) c.schema_name.new.self (after_met (k.Point ∷ []) schema c.args.tokens.now c.expect.new.self c.in_ok-expect.ensures ∙ c.in_ok-schema_name.ensures) refl

pub operands::steps-returns-in_err-append : goal.operands::steps-returns-in_err-append
operands::steps-returns-in_err-append t c =
    no_memory (steps (at c.args.depth) c.args.tokens.now) c.from_residual-in_err-append.result c.turn.new.tokens c.from_residual-in_err-append.ensures.1

pub operands::case_operand-returns-then-at : goal.operands::case_operand-returns-then-at
unfolding case_operand
operands::case_operand-returns-then-at t c =
    chosen (heads (k.When ∷ []) c.args.tokens.now) (Done None c.args.tokens.now) (map_out Some (disjunction (at c.args.inside)) c.args.tokens.now) (sym c.at.ensures ∙ c.if-at.true)

pub operands::case_operand-returns-in_err-operand : goal.operands::case_operand-returns-in_err-operand
unfolding case_operand
operands::case_operand-returns-in_err-operand t c =
    subst (λ o. Reads o c.from_residual.result c.disjunction.new.tokens) (sym (other_chosen (heads (k.When ∷ []) c.args.tokens.now) (Done None c.args.tokens.now) (map_out Some (disjunction (at c.args.inside)) c.args.tokens.now) (sym c.at.ensures ∙ c.if-at.false))) (part_stops Some (disjunction (at c.args.inside) c.args.tokens.now) c.from_residual.result c.in_err-operand.field-0.0 c.disjunction.new.tokens c.from_residual.ensures.1 c.in_err-operand.ensures)

pub operands::case_operand-returns-in_err-new : goal.operands::case_operand-returns-in_err-new
operands::case_operand-returns-in_err-new t c =
    no_memory (case_operand (disjunction (at c.args.inside)) c.args.tokens.now) c.from_residual-in_err-new.result c.disjunction.new.tokens c.from_residual-in_err-new.ensures.1

pub operands::case_operand-returns : goal.operands::case_operand-returns
unfolding case_operand
operands::case_operand-returns t c =
    other_chosen (heads (k.When ∷ []) c.args.tokens.now) (Done None c.args.tokens.now) (map_out Some (disjunction (at c.args.inside)) c.args.tokens.now) (sym c.at.ensures ∙ c.if-at.false) ∙ part_done Some (disjunction (at c.args.inside) c.args.tokens.now) c.in_ok-operand.operand (Some c.in_ok-new.field-0) c.disjunction.new.tokens c.in_ok-operand.ensures (ap Some c.in_ok-new.ensures)

pub operands::case_otherwise-returns-in_err-new : goal.operands::case_otherwise-returns-in_err-new
operands::case_otherwise-returns-in_err-new t c =
    no_memory (case_otherwise (disjunction (at c.args.inside)) c.args.tokens.now) c.from_residual-in_err-new.result c.disjunction.new.tokens c.from_residual-in_err-new.ensures.1

pub calls::single_call-returns-then-depth-eq0 : goal.calls::single_call-returns-then-depth-eq0
unfolding single_call
calls::single_call-returns-then-depth-eq0 t c =
    call_shuts SINGLE_FUNCTIONS (λ f x. tree.Call (function_for f) (x ∷ [])) (λ e. e) _ c.args.tokens.now c.function.new.self c.in_ok-kind.ensures (cc) c.args.depth c.if-depth-eq0.true

pub calls::single_call-returns : goal.calls::single_call-returns
unfolding single_call
calls::single_call-returns t c =
    subst (λ o. Reads o c.single_argument.result c.single_argument.new.tokens) (sym (call_enters SINGLE_FUNCTIONS (λ f x. tree.Call (function_for f) (x ∷ [])) (λ e. e) _ c.args.tokens.now c.function.new.self c.in_ok-kind.ensures (cc) c.args.depth (c.args.depth - 1) c.pass.new.self (omega arith) c.pass.ensures)) c.single_argument.ensures

pub calls::range_call-returns-then-depth-eq0 : goal.calls::range_call-returns-then-depth-eq0
unfolding range_call
calls::range_call-returns-then-depth-eq0 t c =
    call_shuts (k.RangeWord ∷ []) (λ f p. tree.Call fun.Range (p.0 ∷ p.1 ∷ [])) range_bounds _ c.args.tokens.now c.function.new.self c.in_ok-name.ensures (cc) c.args.depth c.if-depth-eq0.true

pub calls::range_call-returns : goal.calls::range_call-returns
unfolding range_call
calls::range_call-returns t c =
    subst (λ o. Reads o c.range_bounds.result c.range_bounds.new.tokens) (sym (call_enters (k.RangeWord ∷ []) (λ f p. tree.Call fun.Range (p.0 ∷ p.1 ∷ [])) range_bounds _ c.args.tokens.now c.function.new.self c.in_ok-name.ensures (cc) c.args.depth (c.args.depth - 1) c.pass.new.self (omega arith) c.pass.ensures)) c.range_bounds.ensures

pub calls::coalesce_call-returns-then-depth-eq0 : goal.calls::coalesce_call-returns-then-depth-eq0
unfolding coalesce_call
calls::coalesce_call-returns-then-depth-eq0 t c =
    call_shuts (k.CoalesceWord ∷ []) (λ f xs. tree.Call fun.Coalesce xs) list _ c.args.tokens.now c.function.new.self c.in_ok-name.ensures (cc) c.args.depth c.if-depth-eq0.true

pub calls::coalesce_call-returns : goal.calls::coalesce_call-returns
unfolding coalesce_call
calls::coalesce_call-returns t c =
    subst (λ o. Reads o c.coalesced.result c.coalesced.new.tokens) (sym (call_enters (k.CoalesceWord ∷ []) (λ f xs. tree.Call fun.Coalesce xs) list _ c.args.tokens.now c.function.new.self c.in_ok-name.ensures (cc) c.args.depth (c.args.depth - 1) c.pass.new.self (omega arith) c.pass.ensures)) c.coalesced.ensures

pub calls::count_call-returns-then-depth-eq0 : goal.calls::count_call-returns-then-depth-eq0
unfolding count_call
calls::count_call-returns-then-depth-eq0 t c =
    call_shuts (k.CountWord ∷ []) (λ f o. counted o) counted_rows _ c.args.tokens.now c.function.new.self c.in_ok-name.ensures (cc) c.args.depth c.if-depth-eq0.true

pub calls::count_call-returns : goal.calls::count_call-returns
unfolding count_call
calls::count_call-returns t c =
    subst (λ o. Reads o c.counted.result c.counted.new.tokens) (sym (call_enters (k.CountWord ∷ []) (λ f o. counted o) counted_rows _ c.args.tokens.now c.function.new.self c.in_ok-name.ensures (cc) c.args.depth (c.args.depth - 1) c.pass.new.self (omega arith) c.pass.ensures)) c.counted.ensures

pub calls::aggregate_call-returns-then-depth-eq0 : goal.calls::aggregate_call-returns-then-depth-eq0
unfolding aggregate_call
calls::aggregate_call-returns-then-depth-eq0 t c =
    call_shuts AGGREGATES (λ f p. tree.Agg (aggregate_for f) p.0 p.1) operand _ c.args.tokens.now c.function.new.self c.in_ok-kind.ensures (cc) c.args.depth c.if-depth-eq0.true

pub calls::aggregate_call-returns : goal.calls::aggregate_call-returns
unfolding aggregate_call
calls::aggregate_call-returns t c =
    subst (λ o. Reads o c.aggregated.result c.aggregated.new.tokens) (sym (call_enters AGGREGATES (λ f p. tree.Agg (aggregate_for f) p.0 p.1) operand _ c.args.tokens.now c.function.new.self c.in_ok-kind.ensures (cc) c.args.depth (c.args.depth - 1) c.pass.new.self (omega arith) c.pass.ensures)) c.aggregated.ensures

pub calls::aggregated-returns-in_err-distinct : goal.calls::aggregated-returns-in_err-distinct
calls::aggregated-returns-in_err-distinct t c =
    part_stops (λ p. tree.Agg (aggregate_for c.args.kind) p.0 p.1) (before (operand (disjunction (at c.args.inside))) (k.RightParen ∷ []) c.args.tokens.now) c.from_residual.result c.in_err-distinct.field-0.0 c.operand.new.tokens c.from_residual.ensures.1 c.in_err-distinct.ensures

pub calls::aggregated-returns : goal.calls::aggregated-returns
calls::aggregated-returns t c =
    part_done (λ p. tree.Agg (aggregate_for c.args.kind) p.0 p.1) (before (operand (disjunction (at c.args.inside))) (k.RightParen ∷ []) c.args.tokens.now) (c.in_ok-distinct.distinct, c.in_ok-distinct.of) (tree.Agg c.aggregate_for.result c.in_ok-distinct.distinct c.in_ok-distinct.of) c.operand.new.tokens c.in_ok-distinct.ensures (ap (λ f. tree.Agg f c.in_ok-distinct.distinct c.in_ok-distinct.of) c.aggregate_for.ensures)

pub calls::call-returns-then-at : goal.calls::call-returns-then-at
unfolding call
calls::call-returns-then-at t c =
    subst (λ o. Reads o c.single_call.result c.single_call.new.tokens) (sym (chosen (heads SINGLE_FUNCTIONS c.args.tokens.now) (single_call (at c.args.depth) c.args.tokens.now) _ (sym c.at.ensures ∙ c.if-at.true))) c.single_call.ensures

pub calls::call-returns-then-at-2 : goal.calls::call-returns-then-at-2
unfolding call
calls::call-returns-then-at-2 t c =
    subst (λ o. Reads o c.range_call.result c.range_call.new.tokens) (sym (other_chosen (heads SINGLE_FUNCTIONS c.args.tokens.now) _ _ (sym c.at.ensures ∙ c.if-at.false) ∙ chosen (heads (k.RangeWord ∷ []) c.args.tokens.now) (range_call (at c.args.depth) c.args.tokens.now) _ (sym c.at-2.ensures ∙ c.if-at-2.true))) c.range_call.ensures

pub calls::call-returns-then-at-3 : goal.calls::call-returns-then-at-3
unfolding call
calls::call-returns-then-at-3 t c =
    subst (λ o. Reads o c.coalesce_call.result c.coalesce_call.new.tokens) (sym (other_chosen (heads SINGLE_FUNCTIONS c.args.tokens.now) _ _ (sym c.at.ensures ∙ c.if-at.false) ∙ other_chosen (heads (k.RangeWord ∷ []) c.args.tokens.now) _ _ (sym c.at-2.ensures ∙ c.if-at-2.false) ∙ chosen (heads (k.CoalesceWord ∷ []) c.args.tokens.now) (coalesce_call (at c.args.depth) c.args.tokens.now) _ (sym c.at-3.ensures ∙ c.if-at-3.true))) c.coalesce_call.ensures

pub calls::call-returns-then-at-4 : goal.calls::call-returns-then-at-4
unfolding call
calls::call-returns-then-at-4 t c =
    subst (λ o. Reads o c.count_call.result c.count_call.new.tokens) (sym (other_chosen (heads SINGLE_FUNCTIONS c.args.tokens.now) _ _ (sym c.at.ensures ∙ c.if-at.false) ∙ other_chosen (heads (k.RangeWord ∷ []) c.args.tokens.now) _ _ (sym c.at-2.ensures ∙ c.if-at-2.false) ∙ other_chosen (heads (k.CoalesceWord ∷ []) c.args.tokens.now) _ _ (sym c.at-3.ensures ∙ c.if-at-3.false) ∙ chosen (heads (k.CountWord ∷ []) c.args.tokens.now) (count_call (at c.args.depth) c.args.tokens.now) _ (sym c.at-4.ensures ∙ c.if-at-4.true))) c.count_call.ensures

pub calls::call-returns : goal.calls::call-returns
unfolding call
calls::call-returns t c =
    subst (λ o. Reads o c.aggregate_call.result c.aggregate_call.new.tokens) (sym (other_chosen (heads SINGLE_FUNCTIONS c.args.tokens.now) _ _ (sym c.at.ensures ∙ c.if-at.false) ∙ other_chosen (heads (k.RangeWord ∷ []) c.args.tokens.now) _ _ (sym c.at-2.ensures ∙ c.if-at-2.false) ∙ other_chosen (heads (k.CoalesceWord ∷ []) c.args.tokens.now) _ _ (sym c.at-3.ensures ∙ c.if-at-3.false) ∙ other_chosen (heads (k.CountWord ∷ []) c.args.tokens.now) _ _ (sym c.at-4.ensures ∙ c.if-at-4.false))) c.aggregate_call.ensures

pub calls::single_call-returns-in_err-kind : goal.calls::single_call-returns-in_err-kind
unfolding single_call
calls::single_call-returns-in_err-kind t c =
    first_stops (called (λ f x. tree.Call (function_for f) (x ∷ []))) (valued SINGLE_FUNCTIONS function_of) _ c.args.tokens.now c.from_residual.result c.in_err-kind.field-0.0 c.function.new.self c.from_residual.ensures.1 c.in_err-kind.ensures

pub calls::range_call-returns-in_err-name : goal.calls::range_call-returns-in_err-name
unfolding range_call
calls::range_call-returns-in_err-name t c =
    first_stops (called (λ f p. tree.Call fun.Range (p.0 ∷ p.1 ∷ []))) (valued (k.RangeWord ∷ []) function_of) _ c.args.tokens.now c.from_residual.result c.in_err-name.field-0.0 c.function.new.self c.from_residual.ensures.1 c.in_err-name.ensures

pub calls::coalesce_call-returns-in_err-name : goal.calls::coalesce_call-returns-in_err-name
unfolding coalesce_call
calls::coalesce_call-returns-in_err-name t c =
    first_stops (called (λ f xs. tree.Call fun.Coalesce xs)) (valued (k.CoalesceWord ∷ []) function_of) _ c.args.tokens.now c.from_residual.result c.in_err-name.field-0.0 c.function.new.self c.from_residual.ensures.1 c.in_err-name.ensures

pub calls::count_call-returns-in_err-name : goal.calls::count_call-returns-in_err-name
unfolding count_call
calls::count_call-returns-in_err-name t c =
    first_stops (called (λ f o. counted o)) (valued (k.CountWord ∷ []) function_of) _ c.args.tokens.now c.from_residual.result c.in_err-name.field-0.0 c.function.new.self c.from_residual.ensures.1 c.in_err-name.ensures

pub calls::aggregate_call-returns-in_err-kind : goal.calls::aggregate_call-returns-in_err-kind
unfolding aggregate_call
calls::aggregate_call-returns-in_err-kind t c =
    first_stops (called (λ f p. tree.Agg (aggregate_for f) p.0 p.1)) (valued AGGREGATES function_of) _ c.args.tokens.now c.from_residual.result c.in_err-kind.field-0.0 c.function.new.self c.from_residual.ensures.1 c.in_err-kind.ensures
