use Rattle.std.proofs.Common.{◌∙◌, arith}
use Rattle.std.proofs.lemmas.Result.{on_ok_weaker}
use Rattle.graph_reader.specs.Json.{id_data}
use Rattle.graph_reader.proofs.Tokens.{element_written, array_written}
use Rattle.graph_reader.proofs.printing.write_ids.Goals as goal

pub loop-id-preserved : goal.loop-id-preserved
loop-id-preserved c = record {
  tokens = element_written id_data c.args.ids.now c.loop-id.id-index _ c.args.writer.now.tokens c.loop-id.writer.tokens c.u64.new.self.tokens c.loop-id-test.true c.loop-id.invariant.tokens c.in_ok-u64.ensures.ok;
  before = c.u64.ensures.room.0 ∙ c.loop-id.invariant.before;
}

pub returns : goal.returns
returns c = record {
  ok = on_ok_weaker c.end_array.result (array_written id_data c.args.ids.now c.loop-id.id-index c.args.writer.now.tokens c.loop-id.writer.tokens c.end_array.new.self.tokens (omega arith) c.loop-id.invariant.tokens) c.end_array.ensures.ok;
  before = c.end_array.ensures.room.0 ∙ c.loop-id.invariant.before;
}
