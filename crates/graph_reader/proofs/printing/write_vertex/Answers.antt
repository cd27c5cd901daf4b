use Rattle.std.proofs.Common.{◌∙◌}
use Rattle.std.proofs.lemmas.Result.{on_ok_weaker}
use Rattle.graph_reader.proofs.Tokens.{seven_written}
use Rattle.graph_reader.proofs.printing.write_vertex.Goals as goal

-- each part is written behind the parts before it
pub returns : goal.returns
returns c = record {
  ok = on_ok_weaker c.end_object.result
      (seven_written _ _ _ _ _ _ _ _ _ _ _ _ _ _ _
      c.in_ok-begin_object.ensures.ok c.in_ok-number_member.ensures.ok (rw c.as_slice.ensures.value at c.in_ok-ids_member.ensures.ok) (rw c.as_slice-2.ensures.value at c.in_ok-names_member.ensures.ok) (rw c.as_slice-3.ensures.value at c.in_ok-ids_member-2.ensures.ok) (rw c.as_slice-4.ensures.value at c.in_ok-properties_member.ensures.ok))
      c.end_object.ensures.ok;
  before = c.end_object.ensures.room.0 ∙ c.properties_member.ensures.before ∙ c.ids_member-2.ensures.before ∙ c.names_member.ensures.before ∙ c.ids_member.ensures.before ∙ c.number_member.ensures.before ∙ c.begin_object.ensures.room.0;
}
