use Rattle.std.proofs.Common.{◌≡◌, [], ◌∷◌, ◌+◌, ◌*◌, length}
use Rattle.cypher_parse.specs.declared.kind.Kind.TheVariants as k
use Rattle.cypher_parse.specs.declared.kinds.TheConstants.{COMPARISONS, PREDICATE_WORDS, SUM_SIGNS, PRODUCT_SIGNS, STEP_SIGNS}
use Rattle.cypher_parse.specs.Parsers.{after}
use Rattle.cypher_parse.specs.ExpressionParsers.{at, disjunction, disjunction_more, exclusive, exclusive_more, conjunction, conjunction_more, negation, comparison_turn, comparison_more, test_behind, predicate_more, sum_turn, sum_more, product_turn, product_more, list_more, when, whens_more, turn, steps}
use Rattle.cypher_parse.proofs.Turns.{gathered, flattened}
use Rattle.cypher_parse.proofs.+parse.Given as goal

-- Each function calls those of a lower place at its number of levels, and any behind an opening token.
abbrev pub decreases-operators::disjunction : goal.decreases-operators::disjunction
decreases-operators::disjunction l = 100 * l.depth + 40

abbrev pub decreases-operators::disjunction_rest : goal.decreases-operators::disjunction_rest
decreases-operators::disjunction_rest l = 100 * l.depth + 39

abbrev pub decreases-operators::exclusive : goal.decreases-operators::exclusive
decreases-operators::exclusive l = 100 * l.depth + 38

abbrev pub decreases-operators::exclusive_rest : goal.decreases-operators::exclusive_rest
decreases-operators::exclusive_rest l = 100 * l.depth + 37

abbrev pub decreases-operators::conjunction : goal.decreases-operators::conjunction
decreases-operators::conjunction l = 100 * l.depth + 36

abbrev pub decreases-operators::conjunction_rest : goal.decreases-operators::conjunction_rest
decreases-operators::conjunction_rest l = 100 * l.depth + 35

abbrev pub decreases-operators::negation : goal.decreases-operators::negation
decreases-operators::negation l = 100 * l.depth + 34

abbrev pub decreases-operators::comparison : goal.decreases-operators::comparison
decreases-operators::comparison l = 100 * l.depth + 33

abbrev pub decreases-operators::comparison_rest : goal.decreases-operators::comparison_rest
decreases-operators::comparison_rest l = 100 * l.depth + 32

abbrev pub decreases-operators::comparison_turn : goal.decreases-operators::comparison_turn
decreases-operators::comparison_turn l = 100 * l.depth + 31

abbrev pub decreases-operators::predicate : goal.decreases-operators::predicate
decreases-operators::predicate l = 100 * l.depth + 30

abbrev pub decreases-operators::predicate_rest : goal.decreases-operators::predicate_rest
decreases-operators::predicate_rest l = 100 * l.depth + 29

abbrev pub decreases-operators::test_behind : goal.decreases-operators::test_behind
decreases-operators::test_behind l = 100 * l.depth + 28

abbrev pub decreases-operators::sum : goal.decreases-operators::sum
decreases-operators::sum l = 100 * l.depth + 27

abbrev pub decreases-operators::sum_rest : goal.decreases-operators::sum_rest
decreases-operators::sum_rest l = 100 * l.depth + 26

abbrev pub decreases-operators::sum_turn : goal.decreases-operators::sum_turn
decreases-operators::sum_turn l = 100 * l.depth + 25

abbrev pub decreases-operators::product : goal.decreases-operators::product
decreases-operators::product l = 100 * l.depth + 24

abbrev pub decreases-operators::product_rest : goal.decreases-operators::product_rest
decreases-operators::product_rest l = 100 * l.depth + 23

abbrev pub decreases-operators::product_turn : goal.decreases-operators::product_turn
decreases-operators::product_turn l = 100 * l.depth + 22

abbrev pub decreases-operators::unary : goal.decreases-operators::unary
decreases-operators::unary l = 100 * l.depth + 21

abbrev pub decreases-operators::negated : goal.decreases-operators::negated
decreases-operators::negated l = 100 * l.inside + 41

abbrev pub decreases-operators::negative : goal.decreases-operators::negative
decreases-operators::negative l = 100 * l.inside + 41

abbrev pub decreases-operators::positive : goal.decreases-operators::positive
decreases-operators::positive l = 100 * l.inside + 41

abbrev pub decreases-operands::post : goal.decreases-operands::post
decreases-operands::post l = 100 * l.depth + 20

abbrev pub decreases-operands::steps : goal.decreases-operands::steps
decreases-operands::steps l = 100 * l.depth + 19

abbrev pub decreases-operands::turn : goal.decreases-operands::turn
decreases-operands::turn l = 100 * l.depth + 18

abbrev pub decreases-operands::step : goal.decreases-operands::step
decreases-operands::step l = 100 * l.depth + 17

abbrev pub decreases-operands::atom : goal.decreases-operands::atom
decreases-operands::atom l = 100 * l.depth + 16

abbrev pub decreases-operands::element : goal.decreases-operands::element
decreases-operands::element l = 100 * l.inside + 41

abbrev pub decreases-operands::parens : goal.decreases-operands::parens
decreases-operands::parens l = 100 * l.inside + 41

abbrev pub decreases-operands::list : goal.decreases-operands::list
decreases-operands::list l = 100 * l.depth + 42

abbrev pub decreases-operands::list_rest : goal.decreases-operands::list_rest
decreases-operands::list_rest l = 100 * l.depth + 41

abbrev pub decreases-operands::elements : goal.decreases-operands::elements
decreases-operands::elements l = 100 * l.inside + 43

abbrev pub decreases-operands::brackets : goal.decreases-operands::brackets
decreases-operands::brackets l = 100 * l.inside + 44

abbrev pub decreases-operands::cases : goal.decreases-operands::cases
decreases-operands::cases l = 100 * l.inside + 45

abbrev pub decreases-operands::case_operand : goal.decreases-operands::case_operand
decreases-operands::case_operand l = 100 * l.inside + 41

abbrev pub decreases-operands::case_otherwise : goal.decreases-operands::case_otherwise
decreases-operands::case_otherwise l = 100 * l.inside + 41

abbrev pub decreases-operands::whens : goal.decreases-operands::whens
decreases-operands::whens l = 100 * l.inside + 44

abbrev pub decreases-operands::whens_rest : goal.decreases-operands::whens_rest
decreases-operands::whens_rest l = 100 * l.inside + 43

abbrev pub decreases-operands::when : goal.decreases-operands::when
decreases-operands::when l = 100 * l.inside + 42

abbrev pub decreases-operands::then : goal.decreases-operands::then
decreases-operands::then l = 100 * l.inside + 41

abbrev pub decreases-calls::call : goal.decreases-calls::call
decreases-calls::call l = 100 * l.depth + 15

abbrev pub decreases-calls::single_call : goal.decreases-calls::single_call
decreases-calls::single_call l = 100 * l.depth + 14

abbrev pub decreases-calls::range_call : goal.decreases-calls::range_call
decreases-calls::range_call l = 100 * l.depth + 14

abbrev pub decreases-calls::coalesce_call : goal.decreases-calls::coalesce_call
decreases-calls::coalesce_call l = 100 * l.depth + 14

abbrev pub decreases-calls::count_call : goal.decreases-calls::count_call
decreases-calls::count_call l = 100 * l.depth + 14

abbrev pub decreases-calls::aggregate_call : goal.decreases-calls::aggregate_call
decreases-calls::aggregate_call l = 100 * l.depth + 14

abbrev pub decreases-calls::single_argument : goal.decreases-calls::single_argument
decreases-calls::single_argument l = 100 * l.inside + 42

abbrev pub decreases-calls::range_bounds : goal.decreases-calls::range_bounds
decreases-calls::range_bounds l = 100 * l.inside + 42

abbrev pub decreases-calls::coalesced : goal.decreases-calls::coalesced
decreases-calls::coalesced l = 100 * l.inside + 43

abbrev pub decreases-calls::counted : goal.decreases-calls::counted
decreases-calls::counted l = 100 * l.inside + 43

abbrev pub decreases-calls::aggregated : goal.decreases-calls::aggregated
decreases-calls::aggregated l = 100 * l.inside + 43

abbrev pub decreases-calls::operand : goal.decreases-calls::operand
decreases-calls::operand l = 100 * l.inside + 42

-- what was gathered and what is left give what the whole gives
abbrev pub invariant-operators::disjunction_rest-loop-alloc : goal.invariant-operators::disjunction_rest-loop-alloc
invariant-operators::disjunction_rest-loop-alloc l = (disjunction_more (at l.depth)) l.fn.tokens ≡ gathered (k.Or ∷ []) (after (k.Or ∷ []) (exclusive (at l.depth))) l.rest l.tokens

abbrev pub decreases-operators::disjunction_rest-loop-alloc : goal.decreases-operators::disjunction_rest-loop-alloc
decreases-operators::disjunction_rest-loop-alloc l = length l.tokens

abbrev pub invariant-operators::exclusive_rest-loop-alloc : goal.invariant-operators::exclusive_rest-loop-alloc
invariant-operators::exclusive_rest-loop-alloc l = (exclusive_more (at l.depth)) l.fn.tokens ≡ gathered (k.Xor ∷ []) (after (k.Xor ∷ []) (conjunction (at l.depth))) l.rest l.tokens

abbrev pub decreases-operators::exclusive_rest-loop-alloc : goal.decreases-operators::exclusive_rest-loop-alloc
decreases-operators::exclusive_rest-loop-alloc l = length l.tokens

abbrev pub invariant-operators::conjunction_rest-loop-alloc : goal.invariant-operators::conjunction_rest-loop-alloc
invariant-operators::conjunction_rest-loop-alloc l = (conjunction_more (at l.depth)) l.fn.tokens ≡ gathered (k.And ∷ []) (after (k.And ∷ []) (negation (at l.depth))) l.rest l.tokens

abbrev pub decreases-operators::conjunction_rest-loop-alloc : goal.decreases-operators::conjunction_rest-loop-alloc
decreases-operators::conjunction_rest-loop-alloc l = length l.tokens

abbrev pub invariant-operators::comparison_rest-loop-alloc : goal.invariant-operators::comparison_rest-loop-alloc
invariant-operators::comparison_rest-loop-alloc l = (comparison_more (at l.depth)) l.fn.tokens ≡ gathered COMPARISONS (comparison_turn (at l.depth)) l.rest l.tokens

abbrev pub decreases-operators::comparison_rest-loop-alloc : goal.decreases-operators::comparison_rest-loop-alloc
decreases-operators::comparison_rest-loop-alloc l = length l.tokens

abbrev pub invariant-operators::predicate_rest-loop-alloc : goal.invariant-operators::predicate_rest-loop-alloc
invariant-operators::predicate_rest-loop-alloc l = (predicate_more (at l.depth)) l.fn.tokens ≡ gathered PREDICATE_WORDS (test_behind (at l.depth)) l.rest l.tokens

abbrev pub decreases-operators::predicate_rest-loop-alloc : goal.decreases-operators::predicate_rest-loop-alloc
decreases-operators::predicate_rest-loop-alloc l = length l.tokens

abbrev pub invariant-operators::sum_rest-loop-alloc : goal.invariant-operators::sum_rest-loop-alloc
invariant-operators::sum_rest-loop-alloc l = (sum_more (at l.depth)) l.fn.tokens ≡ gathered SUM_SIGNS (sum_turn (at l.depth)) l.rest l.tokens

abbrev pub decreases-operators::sum_rest-loop-alloc : goal.decreases-operators::sum_rest-loop-alloc
decreases-operators::sum_rest-loop-alloc l = length l.tokens

abbrev pub invariant-operators::product_rest-loop-alloc : goal.invariant-operators::product_rest-loop-alloc
invariant-operators::product_rest-loop-alloc l = (product_more (at l.depth)) l.fn.tokens ≡ gathered PRODUCT_SIGNS (product_turn (at l.depth)) l.rest l.tokens

abbrev pub decreases-operators::product_rest-loop-alloc : goal.decreases-operators::product_rest-loop-alloc
decreases-operators::product_rest-loop-alloc l = length l.tokens

abbrev pub invariant-operands::list_rest-loop-alloc : goal.invariant-operands::list_rest-loop-alloc
invariant-operands::list_rest-loop-alloc l = (list_more (disjunction (at l.depth))) l.fn.tokens ≡ gathered (k.Comma ∷ []) (after (k.Comma ∷ []) (disjunction (at l.depth))) l.rest l.tokens

abbrev pub decreases-operands::list_rest-loop-alloc : goal.decreases-operands::list_rest-loop-alloc
decreases-operands::list_rest-loop-alloc l = length l.tokens

abbrev pub invariant-operands::whens_rest-loop-alloc : goal.invariant-operands::whens_rest-loop-alloc
invariant-operands::whens_rest-loop-alloc l = (whens_more (disjunction (at l.inside))) l.fn.tokens ≡ gathered (k.When ∷ []) (when (disjunction (at l.inside))) l.rest l.tokens

abbrev pub decreases-operands::whens_rest-loop-alloc : goal.decreases-operands::whens_rest-loop-alloc
decreases-operands::whens_rest-loop-alloc l = length l.tokens

abbrev pub invariant-operands::steps-loop-alloc : goal.invariant-operands::steps-loop-alloc
invariant-operands::steps-loop-alloc l = steps (at l.depth) l.fn.tokens ≡ flattened STEP_SIGNS (turn (at l.depth)) l.steps l.tokens

abbrev pub decreases-operands::steps-loop-alloc : goal.decreases-operands::steps-loop-alloc
decreases-operands::steps-loop-alloc l = length l.tokens
