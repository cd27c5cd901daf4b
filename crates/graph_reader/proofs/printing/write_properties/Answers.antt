use Rattle.std.proofs.Common.{◌∙◌, arith}
use Rattle.std.proofs.lemmas.Result.{on_ok_weaker}
use Rattle.graph_reader.proofs.Tokens.{member_written, properties_written}
use Rattle.graph_reader.proofs.printing.write_properties.Goals as goal

pub loop-name-preserved : goal.loop-name-preserved
loop-name-preserved c = record {
  tokens = member_written c.args.properties.now c.loop-name.name-index c.loop-name-item.result c.args.writer.now.tokens c.loop-name.writer.tokens c.key.new.self.tokens c.write_value.new.writer.tokens c.loop-name-test.true c.loop-name.invariant.tokens
      (rw (c.as_str.ensures.text, c.loop-name-item.is) at c.in_ok-key.ensures.ok) (rw c.loop-name-item.is at c.in_ok-write_value.ensures.ok);
  before = c.write_value.ensures.before ∙ c.key.ensures.room.0 ∙ c.loop-name.invariant.before;
}

pub returns : goal.returns
returns c = record {
  ok = on_ok_weaker c.end_object.result (properties_written c.args.properties.now c.loop-name.name-index c.args.writer.now.tokens c.loop-name.writer.tokens c.end_object.new.self.tokens (omega arith) c.loop-name.invariant.tokens) c.end_object.ensures.ok;
  before = c.end_object.ensures.room.0 ∙ c.loop-name.invariant.before;
}
