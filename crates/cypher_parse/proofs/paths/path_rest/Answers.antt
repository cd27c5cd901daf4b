use Rattle.std.proofs.Common.{refl, sym, ◌∙◌}
use Rattle.cypher_parse.specs.declared.kinds.TheConstants.{EDGE_SIGNS}
use Rattle.cypher_parse.specs.ExpressionParsers.{expression}
use Rattle.cypher_parse.specs.PatternParsers.{path_step, path_more}
use Rattle.cypher_parse.proofs.AtLimit.{at_limit}
use Rattle.cypher_parse.proofs.ExactPatterns.{tied_path_step}
use Rattle.cypher_parse.proofs.Turns.{loop_begins, loop_goes_on, loop_shrinks}
use Rattle.cypher_parse.proofs.paths.path_rest.Goals as goal

pub loop-alloc-init : goal.loop-alloc-init
unfolding path_more
loop-alloc-init c = loop_begins EDGE_SIGNS (path_step (expression 64)) c.new-rest.result c.args.tokens.now c.new-rest.ensures

pub loop-alloc-smaller : goal.loop-alloc-smaller
loop-alloc-smaller c = loop_shrinks ((tied_path_step _ _ _ _ at_limit).low refl) refl c.loop-alloc.tokens c.in_ok-path_step.field-0 c.path_step.new.tokens c.in_ok-path_step.ensures

pub loop-alloc-preserved : goal.loop-alloc-preserved
loop-alloc-preserved c =
    loop_goes_on EDGE_SIGNS ((tied_path_step _ _ _ _ at_limit).low refl) refl ((path_more (expression 64)) c.args.tokens.now) c.loop-alloc.rest c.push.new.self c.loop-alloc.tokens c.path_step.new.tokens c.in_ok-path_step.field-0 c.loop-alloc.invariant (sym c.at.ensures ∙ c.loop-alloc-test.true) c.in_ok-path_step.ensures c.in_ok-push.ensures.ok
