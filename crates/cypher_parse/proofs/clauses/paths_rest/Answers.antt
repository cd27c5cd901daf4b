use Rattle.std.proofs.Common.{[], ◌∷◌, refl, sym, ◌∙◌}
use Rattle.cypher_parse.specs.declared.kind.Kind.TheVariants as k
use Rattle.cypher_parse.specs.Parsers.{after, many}
use Rattle.cypher_parse.specs.ExpressionParsers.{expression}
use Rattle.cypher_parse.specs.PatternParsers.{path}
use Rattle.cypher_parse.proofs.AtLimit.{at_limit}
use Rattle.cypher_parse.proofs.Tied.{tied_after}
use Rattle.cypher_parse.proofs.ExactPatterns.{tied_path}
use Rattle.cypher_parse.proofs.Turns.{after_passed, loop_begins, loop_goes_on, loop_shrinks}
use Rattle.cypher_parse.proofs.clauses.paths_rest.Goals as goal

pub loop-alloc-init : goal.loop-alloc-init
loop-alloc-init c = loop_begins (k.Comma ∷ []) (after (k.Comma ∷ []) (path (expression 64))) c.new-rest.result c.args.tokens.now c.new-rest.ensures

pub loop-alloc-smaller : goal.loop-alloc-smaller
loop-alloc-smaller c = loop_shrinks ((tied_after k.Comma [] (tied_path _ _ _ _ at_limit)).low refl) refl c.loop-alloc.tokens c.in_ok-path.field-0 c.path.new.tokens (after_passed (k.Comma ∷ []) (path (expression 64)) c.loop-alloc.tokens c.pass.new.self (sym c.at.ensures ∙ c.loop-alloc-test.true) c.pass.ensures ∙ c.in_ok-path.ensures)

pub loop-alloc-preserved : goal.loop-alloc-preserved
loop-alloc-preserved c =
    loop_goes_on (k.Comma ∷ []) ((tied_after k.Comma [] (tied_path _ _ _ _ at_limit)).low refl) refl (many (k.Comma ∷ []) (after (k.Comma ∷ []) (path (expression 64))) c.args.tokens.now) c.loop-alloc.rest c.push.new.self c.loop-alloc.tokens c.path.new.tokens c.in_ok-path.field-0 c.loop-alloc.invariant (sym c.at.ensures ∙ c.loop-alloc-test.true) (after_passed (k.Comma ∷ []) (path (expression 64)) c.loop-alloc.tokens c.pass.new.self (sym c.at.ensures ∙ c.loop-alloc-test.true) c.pass.ensures ∙ c.in_ok-path.ensures) c.in_ok-push.ensures.ok
