use Rattle.std.proofs.Common.{◌∙◌, arith}
use Rattle.std.proofs.lemmas.Result.{on_ok_weaker}
use Rattle.serde_json.specs.Data.{string}
use Rattle.graph_reader.proofs.Tokens.{element_written, array_written}
use Rattle.graph_reader.proofs.printing.write_names.Goals as goal

pub loop-name-preserved : goal.loop-name-preserved
loop-name-preserved c = record {
  tokens = element_written string c.args.names.now c.loop-name.name-index _ c.args.writer.now.tokens c.loop-name.writer.tokens c.string.new.self.tokens c.loop-name-test.true c.loop-name.invariant.tokens (rw (c.as_str.ensures.text, c.name-item.is) at c.in_ok-string.ensures.ok);
  before = c.string.ensures.room.0 ∙ c.loop-name.invariant.before;
}

pub returns : goal.returns
returns c = record {
  ok = on_ok_weaker c.end_array.result (array_written string c.args.names.now c.loop-name.name-index c.args.writer.now.tokens c.loop-name.writer.tokens c.end_array.new.self.tokens (omega arith) c.loop-name.invariant.tokens) c.end_array.ensures.ok;
  before = c.end_array.ensures.room.0 ∙ c.loop-name.invariant.before;
}
