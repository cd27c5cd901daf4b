use Rattle.std.proofs.Common.{◌∷◌, map, take}
use Rattle.json.specs.Token.{begin_array}
use Rattle.serde_json.specs.Data.{string}
use Rattle.graph_reader.proofs.Tokens.{Wrote, elements}
use Rattle.graph_reader.proofs.printing.write_names.Given as goal

-- what is written so far
abbrev pub invariant-loop-name : goal.invariant-loop-name
invariant-loop-name l = Wrote l.fn.writer l.writer (begin_array ∷ elements (map string (take l.name-index l.names)))
