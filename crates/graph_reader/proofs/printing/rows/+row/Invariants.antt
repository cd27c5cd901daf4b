use Rattle.std.proofs.Common.{◌∷◌, map, take}
use Rattle.json.specs.Token.{begin_array}
use Rattle.graph_reader.specs.Rows.{shown_data}
use Rattle.graph_reader.proofs.Tokens.{Wrote, elements}
use Rattle.graph_reader.proofs.printing.rows.+row.Given as goal

-- what is written so far
abbrev pub invariant-write_row-loop-item : goal.invariant-write_row-loop-item
invariant-write_row-loop-item l = Wrote l.fn.writer l.writer (begin_array ∷ elements (map shown_data (take l.item-index l.row)))
