use Rattle.std.proofs.Common.{true, [], ◌∷◌, refl, sym, ◌∙◌}
use Rattle.cypher_parse.specs.declared.kind.Kind.TheVariants as k
use Rattle.cypher_parse.specs.Parsers.{after}
use Rattle.cypher_parse.specs.ExpressionParsers.{schema, labels_more}
use Rattle.cypher_parse.proofs.Tied.{tied_after}
use Rattle.cypher_parse.proofs.Expressions.{tied_schema}
use Rattle.cypher_parse.proofs.Turns.{loop_begins, loop_goes_on}
use Rattle.cypher_parse.proofs.labels.labels_rest.Goals as goal

pub loop-rest-init : goal.loop-rest-init
unfolding labels_more
loop-rest-init c = loop_begins (k.Colon ∷ []) (after (k.Colon ∷ []) schema) c.new-rest.result c.args.tokens.now c.new-rest.ensures

pub loop-rest-preserved : goal.loop-rest-preserved
loop-rest-preserved c =
    loop_goes_on (k.Colon ∷ []) (tied_after {b = true} k.Colon [] tied_schema).high refl (labels_more c.args.tokens.now) c.loop-rest.rest c.push.new.self c.loop-rest.tokens c.label.new.tokens c.in_ok-label.field-0 c.loop-rest.invariant (sym c.at.ensures ∙ c.loop-rest-test.true) c.in_ok-label.ensures c.in_ok-push.ensures.ok
