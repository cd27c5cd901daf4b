use Rattle.std.proofs.Common.{◌∷◌, map, take}
use Rattle.json.specs.Token.{begin_array}
use Rattle.graph_reader.specs.Json.{id_data}
use Rattle.graph_reader.proofs.Tokens.{Wrote, elements}
use Rattle.graph_reader.proofs.printing.write_ids.Given as goal

-- what is written so far
abbrev pub invariant-loop-id : goal.invariant-loop-id
invariant-loop-id l = Wrote l.fn.writer l.writer (begin_array ∷ elements (map id_data (take l.id-index l.ids)))
