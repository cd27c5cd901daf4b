use Rattle.std.proofs.Common.{◌∙◌, arith}
use Rattle.std.proofs.lemmas.Result.{on_ok_weaker}
use Rattle.graph_reader.specs.Rows.{shown_data}
use Rattle.graph_reader.proofs.Tokens.{element_written, array_written}
use Rattle.graph_reader.proofs.printing.rows.+row.Goals as goal

pub write_row-loop-item-preserved : goal.write_row-loop-item-preserved
write_row-loop-item-preserved t c = record {
  tokens = element_written shown_data c.args.row.now c.loop-item.item-index _ c.args.writer.now.tokens c.loop-item.writer.tokens c.write_shown.new.writer.tokens c.loop-item-test.true c.loop-item.invariant.tokens (rw c.item-item.is at c.in_ok-write_shown.ensures.ok);
  before = c.write_shown.ensures.before ∙ c.loop-item.invariant.before;
}

pub write_row-returns : goal.write_row-returns
write_row-returns t c = record {
  ok = on_ok_weaker c.end_array.result (array_written shown_data c.args.row.now c.loop-item.item-index c.args.writer.now.tokens c.loop-item.writer.tokens c.end_array.new.self.tokens (omega arith) c.loop-item.invariant.tokens) c.end_array.ensures.ok;
  before = c.end_array.ensures.room.0 ∙ c.loop-item.invariant.before;
}
