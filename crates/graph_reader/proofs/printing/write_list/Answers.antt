use Rattle.std.proofs.Common.{◌∙◌, arith}
use Rattle.std.proofs.lemmas.Result.{on_ok_weaker}
use Rattle.graph_reader.specs.Json.{simple_data}
use Rattle.graph_reader.proofs.Tokens.{element_written, array_written}
use Rattle.graph_reader.proofs.printing.write_list.Goals as goal

pub loop-item-preserved : goal.loop-item-preserved
loop-item-preserved c = record {
  tokens = element_written simple_data c.args.items.now c.loop-item.item-index _ c.args.writer.now.tokens c.loop-item.writer.tokens c.write_simple.new.writer.tokens c.loop-item-test.true c.loop-item.invariant.tokens (rw c.item-item.is at c.in_ok-write_simple.ensures.ok);
  before = c.write_simple.ensures.before ∙ c.loop-item.invariant.before;
}

pub returns : goal.returns
returns c = record {
  ok = on_ok_weaker c.end_array.result (array_written simple_data c.args.items.now c.loop-item.item-index c.args.writer.now.tokens c.loop-item.writer.tokens c.end_array.new.self.tokens (omega arith) c.loop-item.invariant.tokens) c.end_array.ensures.ok;
  before = c.end_array.ensures.room.0 ∙ c.loop-item.invariant.before;
}
