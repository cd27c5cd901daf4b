use Rattle.std.proofs.Common.{◌∙◌, sym, ap, get_or}
use Rattle.cypher_syntax.specs.Bytes.{is_quote}
use Rattle.cypher_syntax.proofs.Fronts.{at_rest}
use Rattle.cypher_syntax.proofs.lexer.front.front_at.Goals as goal

pub returns-else-is_quote : goal.returns-else-is_quote
returns-else-is_quote c =
    let same = c.as_bytes-bytes.ensures.value in
    c.unquoted.ensures ∙ at_rest c.args.text.now _ c.args.at c.requires same
    (ap (λ bs. is_quote (get_or bs c.args.at 0)) (sym same) ∙ sym c.is_quote.ensures ∙ c.if-is_quote.false)
