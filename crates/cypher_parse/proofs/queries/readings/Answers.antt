use Rattle.std.proofs.Common.{refl, sym, ◌∙◌}
use Rattle.cypher_parse.specs.declared.kinds.TheConstants.{READINGS}
use Rattle.cypher_parse.specs.ClauseParsers.{reading}
use Rattle.cypher_parse.specs.ExpressionParsers.{expression}
use Rattle.cypher_parse.specs.QueryParsers.{readings}
use Rattle.cypher_parse.proofs.AtLimit.{at_limit}
use Rattle.cypher_parse.proofs.ExactClauses.{tied_reading}
use Rattle.cypher_parse.proofs.Turns.{loop_begins, loop_goes_on, loop_shrinks}
use Rattle.cypher_parse.proofs.queries.readings.Goals as goal

pub loop-alloc-init : goal.loop-alloc-init
unfolding readings
loop-alloc-init c = loop_begins READINGS (reading (expression 64)) c.new-clauses.result c.args.tokens.now c.new-clauses.ensures

pub loop-alloc-smaller : goal.loop-alloc-smaller
loop-alloc-smaller c = loop_shrinks ((tied_reading _ _ _ _ at_limit).low refl) refl c.loop-alloc.tokens c.in_ok-reading.field-0 c.reading.new.tokens c.in_ok-reading.ensures

pub loop-alloc-preserved : goal.loop-alloc-preserved
loop-alloc-preserved c =
    loop_goes_on READINGS ((tied_reading _ _ _ _ at_limit).low refl) refl (readings (expression 64) c.args.tokens.now) c.loop-alloc.clauses c.push.new.self c.loop-alloc.tokens c.reading.new.tokens c.in_ok-reading.field-0 c.loop-alloc.invariant (sym c.at.ensures ∙ c.loop-alloc-test.true)
    c.in_ok-reading.ensures c.in_ok-push.ensures.ok
