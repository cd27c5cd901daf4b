use Rattle.std.proofs.Common.{◌∷◌, map, take}
use Rattle.json.specs.Token.{begin_array}
use Rattle.graph_reader.specs.Json.{simple_data}
use Rattle.graph_reader.proofs.Tokens.{Wrote, elements}
use Rattle.graph_reader.proofs.printing.write_list.Given as goal

-- what is written so far
abbrev pub invariant-loop-item : goal.invariant-loop-item
invariant-loop-item l = Wrote l.fn.writer l.writer (begin_array ∷ elements (map simple_data (take l.item-index l.items)))
