use Rattle.std.proofs.Common.{◌≡◌, ◌-◌, ◌≤◌, length, string_bytes}
use denote.Text.{Utf8}
use denote.Shadow.{shadow}
use Rattle.cypher_syntax.specs.Quotes.{further, inside}
use Rattle.cypher_syntax.proofs.lexer.quotes.inside.Given as goal

abbrev pub invariant-loop-value : goal.invariant-loop-value
invariant-loop-value l =
    shadow (Utf8 l.rest)
    × (length l.rest ≤ length l.text)
    × (further (string_bytes l.value) (length l.text - length l.rest) (inside l.quote 0 l.rest) ≡ inside l.quote 0 l.text)

abbrev pub decreases-loop-value : goal.decreases-loop-value
decreases-loop-value l = length l.rest
