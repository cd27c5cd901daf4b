use Rattle.std.proofs.Common.{◌≡◌, ◌+◌, length, option_map}
use Rattle.cypher_syntax.specs.Bytes.{closed_len}
use Rattle.cypher_syntax.proofs.lexer.bytes.closed_len.Given as goal

abbrev pub invariant-loop-rest : goal.invariant-loop-rest
invariant-loop-rest l = record {
  counted : l.passed + length l.rest ≡ length l.bytes;
  same : option_map (λ n. l.passed + n) (closed_len l.rest) ≡ closed_len l.bytes;
}

abbrev pub decreases-loop-rest : goal.decreases-loop-rest
decreases-loop-rest l = length l.rest
