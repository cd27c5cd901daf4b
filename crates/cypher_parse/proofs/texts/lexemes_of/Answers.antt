use Rattle.std.proofs.Common.{ap, subst, sym}
use Rattle.cypher_parse.specs.Texts.{AreSpans}
use Rattle.cypher_parse.proofs.Spans.{are_spans}
use Rattle.cypher_parse.proofs.texts.lexemes_of.Goals as goal

pub each-requires : goal.each-requires
each-requires c =
    subst (λ text. AreSpans text c.in_ok-tokens.tokens) (sym c.as_str.ensures)
    (subst (λ tokens. AreSpans c.args.text.now tokens) (ap (λ found. found.tokens) c.in_ok-tokens.ensures) (are_spans c.args.text.now))
