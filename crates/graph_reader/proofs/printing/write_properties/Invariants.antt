use Rattle.std.proofs.Common.{◌∷◌, take}
use Rattle.json.specs.Token.{begin_object}
use Rattle.graph_reader.proofs.Tokens.{Wrote, members}
use Rattle.graph_reader.proofs.printing.write_properties.Given as goal

-- what is written so far
abbrev pub invariant-loop-name : goal.invariant-loop-name
invariant-loop-name l = Wrote l.fn.writer l.writer (begin_object ∷ members (take l.name-index l.properties))
