use Rattle.std.proofs.Common.{[], ◌∷◌, refl, sym, ◌∙◌}
use Rattle.cypher_parse.specs.declared.kind.Kind.TheVariants as k
use Rattle.cypher_parse.specs.PatternParsers.{another_kind, kinds_more}
use Rattle.cypher_parse.proofs.ExactPatterns.{tied_another_kind}
use Rattle.cypher_parse.proofs.Turns.{loop_begins, loop_goes_on, loop_shrinks}
use Rattle.cypher_parse.proofs.patterns.kinds_rest.Goals as goal

pub loop-rest-init : goal.loop-rest-init
unfolding kinds_more
loop-rest-init c = loop_begins (k.Bar ∷ []) another_kind c.new-rest.result c.args.tokens.now c.new-rest.ensures

pub loop-rest-smaller : goal.loop-rest-smaller
loop-rest-smaller c = loop_shrinks (tied_another_kind.low refl) refl c.loop-rest.tokens c.in_ok-another_kind.field-0 c.another_kind.new.tokens c.in_ok-another_kind.ensures

pub loop-rest-preserved : goal.loop-rest-preserved
loop-rest-preserved c =
    loop_goes_on (k.Bar ∷ []) (tied_another_kind.low refl) refl (kinds_more c.args.tokens.now) c.loop-rest.rest c.push.new.self c.loop-rest.tokens c.another_kind.new.tokens c.in_ok-another_kind.field-0 c.loop-rest.invariant (sym c.at.ensures ∙ c.loop-rest-test.true) c.in_ok-another_kind.ensures c.in_ok-push.ensures.ok
