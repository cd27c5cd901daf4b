use Rattle.std.proofs.Common.{◌≡◌, ◌-◌, ◌≤◌, length, drop}
use Rattle.cypher_syntax.specs.Lexing.{lexed_from, lexed, after_tokens}
use Rattle.cypher_syntax.proofs.lexer.tokens.Given as goal

abbrev pub invariant-loop-at : goal.invariant-loop-at
invariant-loop-at l = record {
  within : l.at ≤ length l.text;
  same : after_tokens l.tokens (lexed_from l.at 0 (drop l.at l.text)) ≡ lexed l.text;
}

abbrev pub decreases-loop-at : goal.decreases-loop-at
decreases-loop-at l = length l.text - l.at
