use Rattle.std.proofs.Common.{◌∙◌, subst}
use Rattle.std.specs.Str.{IsUtf8}
use Rattle.cypher_print.proofs.Spellings.{not_itself, behind_boundary, some_step, none_step}
use Rattle.cypher_print.proofs.writer.Writer.spelled.Goals as goal

pub spelling-requires : goal.spelling-requires
spelling-requires c =
    not_itself (record { run = c.ordinary_len.ensures.value; behind_is = c.split_at.ensures.back; bytes_are = c.as_bytes.ensures.value; first = c.in-Some.ensures.value })

pub range_from-rest-requires : goal.range_from-rest-requires
range_from-rest-requires c = λ _. behind_boundary
    (record { run = c.ordinary_len.ensures.value; behind_is = c.split_at.ensures.back; bytes_are = c.as_bytes.ensures.value; first = c.in-Some.ensures.value })
    (subst IsUtf8 c.as_bytes.ensures.value c.as_bytes.ensures.utf8)

pub loop-rest-preserved-in-Some : goal.loop-rest-preserved-in-Some
loop-rest-preserved-in-Some c = (
  c.range_from-rest.utf8,
  some_step c.loop-rest.self c.split_at.result.0.now c.push.new.self c.spelling.result.now c.push-in-Some.new.self c.range_from-rest.result.now
      (record { run = c.ordinary_len.ensures.value; behind_is = c.split_at.ensures.back; bytes_are = c.as_bytes.ensures.value; first = c.in-Some.ensures.value })
      c.split_at.ensures.front c.in_ok-push.ensures c.spelling.ensures c.in_ok-push-2.ensures c.range_from-rest.ensures.value ∙ c.loop-rest.invariant.1,
)

pub loop-rest-preserved : goal.loop-rest-preserved
loop-rest-preserved c = (
  subst IsUtf8 c.as_bytes.ensures.value c.as_bytes.ensures.utf8,
  none_step c.args.quote _ c.loop-rest.self c.loop-rest.rest.now c.split_at.result.0.now c.split_at.result.1.now c.push.new.self c.ordinary_len.ensures.value c.split_at.ensures.back c.split_at.ensures.front c.in_ok-push.ensures ∙ c.loop-rest.invariant.1,
)
