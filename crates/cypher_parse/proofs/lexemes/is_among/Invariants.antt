use Rattle.std.proofs.Common.{◌≡◌, drop}
use Rattle.cypher_parse.specs.Kinds.{number, member}
use Rattle.cypher_parse.proofs.lexemes.is_among.Given as goal

abbrev pub invariant-loop-other : goal.invariant-loop-other
invariant-loop-other l = member (number l.kind) l.kinds ≡ member (number l.kind) (drop l.other-index l.kinds)
