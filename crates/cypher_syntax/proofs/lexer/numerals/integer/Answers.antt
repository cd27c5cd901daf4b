use Rattle.std.proofs.Common.{◌∙◌, sym}
use Rattle.cypher_syntax.proofs.Digits.{decimal_is_hexadecimal}
use Rattle.cypher_syntax.proofs.lexer.numerals.integer.Goals as goal

pub value_in-requires-then-is_decimal-clause-digits : goal.value_in-requires-then-is_decimal-clause-digits
value_in-requires-then-is_decimal-clause-digits c = decimal_is_hexadecimal c.args.word.now (sym c.is_decimal.ensures ∙ c.if-is_decimal.true)
