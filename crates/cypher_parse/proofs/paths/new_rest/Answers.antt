use Rattle.std.proofs.Common.{refl, sym, ◌∙◌}
use Rattle.cypher_parse.specs.declared.kinds.TheConstants.{EDGE_SIGNS}
use Rattle.cypher_parse.specs.ExpressionParsers.{expression}
use Rattle.cypher_parse.specs.PatternParsers.{new_step, new_more}
use Rattle.cypher_parse.proofs.AtLimit.{at_limit}
use Rattle.cypher_parse.proofs.ExactPatterns.{tied_new_step}
use Rattle.cypher_parse.proofs.Turns.{loop_begins, loop_goes_on, loop_shrinks}
use Rattle.cypher_parse.proofs.paths.new_rest.Goals as goal

pub loop-alloc-init : goal.loop-alloc-init
unfolding new_more
loop-alloc-init c = loop_begins EDGE_SIGNS (new_step (expression 64)) c.new-rest.result c.args.tokens.now c.new-rest.ensures

pub loop-alloc-smaller : goal.loop-alloc-smaller
loop-alloc-smaller c = loop_shrinks ((tied_new_step _ _ _ _ at_limit).low refl) refl c.loop-alloc.tokens c.in_ok-new_step.field-0 c.new_step.new.tokens c.in_ok-new_step.ensures

pub loop-alloc-preserved : goal.loop-alloc-preserved
loop-alloc-preserved c =
    loop_goes_on EDGE_SIGNS ((tied_new_step _ _ _ _ at_limit).low refl) refl ((new_more (expression 64)) c.args.tokens.now) c.loop-alloc.rest c.push.new.self c.loop-alloc.tokens c.new_step.new.tokens c.in_ok-new_step.field-0 c.loop-alloc.invariant (sym c.at.ensures ∙ c.loop-alloc-test.true) c.in_ok-new_step.ensures c.in_ok-push.ensures.ok
