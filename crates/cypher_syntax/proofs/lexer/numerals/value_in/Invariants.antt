use Rattle.std.proofs.Common.{◌≡◌, ◌-◌, ◌^◌, min, take}
use Rattle.cypher_syntax.specs.Numerals.{value_in}
use Rattle.cypher_syntax.proofs.lexer.numerals.value_in.Given as goal

abbrev pub invariant-loop-b : goal.invariant-loop-b
invariant-loop-b l = l.value ≡ min (value_in l.base (take l.b-index l.digits)) (2 ^ 64 - 1)
