use Rattle.std.proofs.Common.{refl, sym, ◌∙◌}
use Rattle.cypher_parse.specs.declared.kinds.TheConstants.{UPDATES}
use Rattle.cypher_parse.specs.ClauseParsers.{updating}
use Rattle.cypher_parse.specs.ExpressionParsers.{expression}
use Rattle.cypher_parse.specs.QueryParsers.{updatings}
use Rattle.cypher_parse.proofs.AtLimit.{at_limit}
use Rattle.cypher_parse.proofs.ExactClauses.{tied_updating}
use Rattle.cypher_parse.proofs.Turns.{loop_begins, loop_goes_on, loop_shrinks}
use Rattle.cypher_parse.proofs.queries.updatings.Goals as goal

pub loop-alloc-init : goal.loop-alloc-init
unfolding updatings
loop-alloc-init c = loop_begins UPDATES (updating (expression 64)) c.new-clauses.result c.args.tokens.now c.new-clauses.ensures

pub loop-alloc-smaller : goal.loop-alloc-smaller
loop-alloc-smaller c = loop_shrinks ((tied_updating _ _ _ _ at_limit).low refl) refl c.loop-alloc.tokens c.in_ok-updating.field-0 c.updating.new.tokens c.in_ok-updating.ensures

pub loop-alloc-preserved : goal.loop-alloc-preserved
loop-alloc-preserved c =
    loop_goes_on UPDATES ((tied_updating _ _ _ _ at_limit).low refl) refl (updatings (expression 64) c.args.tokens.now) c.loop-alloc.clauses c.push.new.self c.loop-alloc.tokens c.updating.new.tokens c.in_ok-updating.field-0 c.loop-alloc.invariant (sym c.at.ensures ∙ c.loop-alloc-test.true)
    c.in_ok-updating.ensures c.in_ok-push.ensures.ok
