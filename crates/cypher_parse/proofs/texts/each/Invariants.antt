use Rattle.std.proofs.Common.{◌≡◌, ◌++◌, length, map}
use Rattle.cypher_parse.specs.Texts.{lexeme, AreSpans}
use Rattle.cypher_parse.proofs.texts.each.Given as goal

abbrev pub invariant-loop-token : goal.invariant-loop-token
invariant-loop-token l = record { found : map (lexeme l.text) l.fn.tokens ≡ l.all ++ map (lexeme l.text) l.left; spans : AreSpans l.text l.left }

abbrev pub decreases-loop-token : goal.decreases-loop-token
decreases-loop-token l = length l.left
