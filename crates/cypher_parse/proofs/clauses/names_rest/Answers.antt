use Rattle.std.proofs.Common.{true, [], ◌∷◌, refl, sym, ◌∙◌}
use Rattle.cypher_parse.specs.declared.kind.Kind.TheVariants as k
use Rattle.cypher_parse.specs.Parsers.{after, many}
use Rattle.cypher_parse.specs.ExpressionParsers.{name}
use Rattle.cypher_parse.proofs.Tied.{tied_after}
use Rattle.cypher_parse.proofs.Expressions.{tied_name}
use Rattle.cypher_parse.proofs.Turns.{after_passed, loop_begins, loop_goes_on, loop_shrinks}
use Rattle.cypher_parse.proofs.clauses.names_rest.Goals as goal

pub loop-tokens-init : goal.loop-tokens-init
loop-tokens-init c = loop_begins (k.Comma ∷ []) (after (k.Comma ∷ []) name) c.new-rest.result c.args.tokens.now c.new-rest.ensures

pub loop-tokens-smaller : goal.loop-tokens-smaller
loop-tokens-smaller c = loop_shrinks ((tied_after {b = true} k.Comma [] tied_name).low refl) refl c.loop-tokens.tokens c.in_ok-name.field-0 c.name.new.self (after_passed (k.Comma ∷ []) name c.loop-tokens.tokens c.pass.new.self (sym c.at.ensures ∙ c.loop-tokens-test.true) c.pass.ensures ∙ c.in_ok-name.ensures)

pub loop-tokens-preserved : goal.loop-tokens-preserved
loop-tokens-preserved c =
    loop_goes_on (k.Comma ∷ []) ((tied_after {b = true} k.Comma [] tied_name).low refl) refl (many (k.Comma ∷ []) (after (k.Comma ∷ []) name) c.args.tokens.now) c.loop-tokens.rest c.push.new.self c.loop-tokens.tokens c.name.new.self c.in_ok-name.field-0 c.loop-tokens.invariant (sym c.at.ensures ∙ c.loop-tokens-test.true) (after_passed (k.Comma ∷ []) name c.loop-tokens.tokens c.pass.new.self (sym c.at.ensures ∙ c.loop-tokens-test.true) c.pass.ensures ∙ c.in_ok-name.ensures) c.in_ok-push.ensures.ok
