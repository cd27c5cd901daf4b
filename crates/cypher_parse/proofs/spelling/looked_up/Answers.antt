use Rattle.std.proofs.Common.{◌∙◌}
use Rattle.cypher_parse.proofs.Table.{same_test, found, passed}
use Rattle.cypher_parse.proofs.spelling.looked_up.Goals as goal

pub returns-then-eq_ignore_ascii_case : goal.returns-then-eq_ignore_ascii_case
returns-then-eq_ignore_ascii_case c =
    found c.args.table.now c.args.word.now c.loop-spelling.spelling-index _ c.loop-spelling-test.true _ c.loop-spelling.invariant (same_test _ _ _ c.eq_ignore_ascii_case.ensures.test ∙ c.if-eq_ignore_ascii_case.true)

pub loop-spelling-preserved : goal.loop-spelling-preserved
loop-spelling-preserved c =
    passed c.args.table.now c.args.word.now c.loop-spelling.spelling-index _ c.loop-spelling-test.true _ c.loop-spelling.invariant (same_test _ _ _ c.eq_ignore_ascii_case.ensures.test ∙ c.if-eq_ignore_ascii_case.false)
